use Rattle.std.proofs.Common.{◌≡◌}
use Rattle.test_trees.proofs.trees.+add_below.Given as goal

abbrev pub decreases-add_below : goal.decreases-add_below
decreases-add_below g l = l.level

abbrev pub invariant-loop-child : goal.invariant-loop-child
invariant-loop-child g l = l.frozen ≡ l.fn.frozen
