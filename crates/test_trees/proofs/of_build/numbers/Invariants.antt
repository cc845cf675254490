use Rattle.test_trees.proofs.RowLemmas.{Ascending}
use Rattle.test_trees.proofs.of_build.numbers.Given as goal

abbrev pub invariant-loop-number : goal.invariant-loop-number
invariant-loop-number l = Ascending l.numbers.items l.number
