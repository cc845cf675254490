use Rattle.std.proofs.Common.{◌≡◌, take}
use Rattle.std.specs.List.{flat_map}
use Rattle.std.specs.Map.{keys_of}
use Rattle.tree_read.specs.Nodes.{node_values}
use Rattle.tree_read.specs.Trees.{pairs_below}
use Rattle.tree_read.proofs.keys.+take_below.Given as goal

abbrev pub decreases-take_below : goal.decreases-take_below
decreases-take_below g l = l.below

-- the keys below the children in front of the slot were taken
abbrev pub invariant-loop-slot : goal.invariant-loop-slot
invariant-loop-slot g l =
    let m = g.F.Frozen.records l.fn.frozen in
    record {
      same : l.frozen ≡ l.fn.frozen;
      takes : g.T.TakesKeys.takes l.fn.taker (keys_of (flat_map (pairs_below m l.fn.below) (take l.slot (node_values (m l.fn.node))))) l.taker;
    }
