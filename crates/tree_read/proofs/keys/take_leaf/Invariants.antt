use Rattle.std.proofs.Common.{◌≡◌, take}
use Rattle.tree_read.specs.Nodes.{node_keys}
use Rattle.tree_read.proofs.keys.take_leaf.Given as goal

-- the keys in front of the slot were taken
abbrev pub invariant-loop-slot : goal.invariant-loop-slot
invariant-loop-slot g l =
    record {
      same : l.frozen ≡ l.fn.frozen;
      takes : g.T.TakesKeys.takes l.fn.taker (take l.slot (node_keys (g.F.Frozen.records l.fn.frozen l.fn.leaf))) l.taker;
    }
