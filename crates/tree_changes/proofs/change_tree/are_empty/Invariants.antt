use Rattle.std.proofs.Common.{take}
use Rattle.tree_changes.specs.Layers.{AreEmpty}
use Rattle.tree_changes.proofs.change_tree.are_empty.Given as goal

abbrev pub invariant-loop-row : goal.invariant-loop-row
invariant-loop-row l = AreEmpty (take l.row-index l.rows)
