use Rattle.std.proofs.Common.{◌≡◌}
use Rattle.serde_json.specs.View.{members_view}
use Rattle.feed_reader.specs.Items.{names_read}
use Rattle.feed_reader.proofs.ListLemmas.{behind}
use Rattle.feed_reader.proofs.items.names_in.Given as goal

-- the values so far, before those of the members left, are those of the object
abbrev pub invariant-loop-name : goal.invariant-loop-name
invariant-loop-name l = behind l.values.items (names_read l.value (members_view l.name-iterator)) ≡ names_read l.value (members_view l.members.entries)
