use Rattle.std.proofs.Common.{◌≤◌, rules, sym, subst, arith}
use Rattle.std.proofs.lemmas.List.{drop_all, drop_more}
use Rattle.std.specs.List.{AllByRecursion}
use Rattle.image_format.specs.declared.TheConstants.{FIRST_VECTOR}
use Rattle.query_eval.proofs.members.are_vectors.Goals as goal

pub loop-list-preserved : goal.loop-list-preserved
loop-list-preserved c = λ rest.
    c.loop-list.invariant
    (subst (AllByRecursion (λ list. FIRST_VECTOR ≤ list)) (sym (drop_more c.args.lists.now c.loop-list.list-index 0 c.loop-list-test.true)) (search rules, rest))

pub returns : goal.returns
returns c = λ is.
    c.loop-list.invariant
    (subst (AllByRecursion (λ list. FIRST_VECTOR ≤ list)) (sym (drop_all c.loop-list.list-index c.args.lists.now (omega (arith, c.loop-list-test.false)))) tt)
