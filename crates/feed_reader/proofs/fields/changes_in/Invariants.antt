use Rattle.std.proofs.Common.{◌≡◌, drop}
use Rattle.serde_json.specs.View.{view}
use Rattle.feed_reader.specs.Grammar.{each_field, update_read}
use Rattle.feed_reader.proofs.ListLemmas.{behind}
use Rattle.feed_reader.proofs.fields.changes_in.Given as goal

-- what is read so far, before that of the other fields, is what is read of all
abbrev pub invariant-loop-field : goal.invariant-loop-field
invariant-loop-field l =
    behind l.changes.items (each_field update_read (drop l.field-index l.fields) (view l.members)) ≡ each_field update_read l.fields (view l.members)
