use Rattle.std.proofs.Common.{◌+◌, ◌<◌, ℕ, List, arith, sym, subst}
use Rattle.std.specs.Int.{trailing_zeros, w64}
use Rattle.index_model.proofs.WordLemmas.{Left, without, left_all, left_none, left_less, not_zero, after_next, below_64}
use Rattle.index_model.proofs.bits.push_word.Goals as goal

pub loop-left-init : goal.loop-left-init
loop-left-init c = left_all c.args.words.now c.args.docs.now c.args.place c.requires.before

pub new-requires-clause-first : goal.new-requires-clause-first
new-requires-clause-first c =
    let small : c.loop-left.left < 18446744073709551616 = omega (arith, c.loop-left.auto.left-fits) in
    not_zero _ _ _ _ _ c.loop-left.invariant c.loop-left-test.true small c.requires.zero

pub loop-left-smaller : goal.loop-left-smaller
loop-left-smaller c =
    let small : c.loop-left.left < 18446744073709551616 = omega (arith, c.loop-left.auto.left-fits) in
    omega (
      arith,
      after_next _ _ _ _ _ c.loop-left.invariant c.loop-left-test.true small,
      below_64 _ _ _ _ _ c.loop-left.invariant c.loop-left-test.true small,
    )

pub loop-left-preserved : goal.loop-left-preserved
loop-left-preserved c =
    let small : c.loop-left.left < 18446744073709551616 = omega (arith, c.loop-left.auto.left-fits) in
    let bit = trailing_zeros w64 c.loop-left.left in
    subst (λ (docs : List ℕ). Left c.args.words.now c.args.place docs (without c.loop-left.left bit) (bit + 1)) (sym c.in_ok-push.ensures.ok)
    (left_less _ _ _ _ _ c.loop-left.invariant c.loop-left-test.true small c.new.result (omega (arith, c.new.ensures)))

pub returns : goal.returns
returns c = left_none _ _ _ _ _ c.loop-left.invariant c.loop-left-test.false
