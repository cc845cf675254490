use Rattle.std.proofs.Common.{◌≡◌, [], map}
use Rattle.serde_json.specs.View.{members_view}
use Rattle.feed_reader.specs.Items.{weighted_after}
use Rattle.feed_reader.specs.Weights.{entry_item}
use Rattle.feed_reader.proofs.items.weights_in.Given as goal

-- the members left, put among the items so far, give what the object gives
abbrev pub invariant-loop-name : goal.invariant-loop-name
invariant-loop-name l = weighted_after l.value (map entry_item l.weights.entries) (members_view l.name-iterator)
    ≡ weighted_after l.value [] (members_view l.members.entries)
