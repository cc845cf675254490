use Rattle.std.proofs.Common.{length, ◌+◌, ◌*◌}
use Rattle.tree_changes.proofs.layers.+pulling.Given as goal

abbrev pub decreases-pull : goal.decreases-pull
decreases-pull g l = 2 * length l.rows.now

abbrev pub decreases-reach : goal.decreases-reach
decreases-reach g l = 2 * length l.rows.now + 1
