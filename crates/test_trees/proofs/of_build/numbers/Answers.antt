use Rattle.std.proofs.Common.{◌+◌, sym, subst}
use Rattle.test_trees.proofs.RowLemmas.{Ascending, ascending-none, ascending-more}
use Rattle.test_trees.proofs.of_build.numbers.Goals as goal

pub loop-number-init : goal.loop-number-init
loop-number-init c = subst (λ xs. Ascending xs 0) (sym c.new-numbers.ensures.items) ascending-none

pub loop-number-preserved : goal.loop-number-preserved
loop-number-preserved c =
    subst (λ xs. Ascending xs (c.loop-number.number + 1)) (sym c.in_ok-push.ensures.items)
    (ascending-more _ _ c.loop-number.invariant)
