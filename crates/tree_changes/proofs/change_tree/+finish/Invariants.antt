use Rattle.std.proofs.Common.{length}
use Rattle.tree_changes.proofs.change_tree.+finish.Given as goal

abbrev pub decreases-finish : goal.decreases-finish
decreases-finish g l = length l.rows.now
