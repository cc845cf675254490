use Rattle.std.proofs.Common.{◌≡◌, drop}
use Rattle.serde_json.specs.View.{items_view}
use Rattle.feed_reader.specs.Items.{values_read}
use Rattle.feed_reader.proofs.ListLemmas.{behind}
use Rattle.feed_reader.proofs.items.values_in.Given as goal

-- the values so far, before those of the rest, are those of the list
abbrev pub invariant-loop-json : goal.invariant-loop-json
invariant-loop-json l = behind l.values.items (values_read l.value (items_view (drop l.json-index l.list))) ≡ values_read l.value (items_view l.list)
