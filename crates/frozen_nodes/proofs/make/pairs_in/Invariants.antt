use Rattle.std.proofs.Common.{◌≡◌, ◌-◌, length, take}
use Rattle.std.specs.List.{flat_map}
use Rattle.tree_read.specs.Trees.{pairs_below}
use Rattle.frozen_nodes.proofs.make.pairs_in.Given as goal

abbrev pub invariant-loop-child : goal.invariant-loop-child
invariant-loop-child g l = record {
  same : l.frozen ≡ l.fn.frozen;
  count : l.count ≡ length (flat_map (pairs_below (g.F.Frozen.records l.fn.frozen) (l.slots.level - 1)) (take l.child-index l.slots.values.items));
}
