use Rattle.std.proofs.Common.{below_more, refl}
use Rattle.check_images.proofs.ValueLemmas.{same_value, other_value, contains_at, other_at}
use Rattle.check_images.proofs.coverage.has_value.Goals as goal

pub returns-then-is_eq : goal.returns-then-is_eq
returns-then-is_eq c =
    let same = same_value c.other-item.result c.args.value.now c.compare.result c.is_eq.result c.compare.ensures c.is_eq.ensures c.if-is_eq.true in
    (λ told. contains_at c.args.values.now c.loop-other.other-index c.other-item.result c.args.value.now c.loop-other-test.true c.other-item.is same, λ among. refl)

pub loop-other-preserved : goal.loop-other-preserved
loop-other-preserved c =
    let other = other_value c.other-item.result c.args.value.now c.compare.result c.is_eq.result c.compare.ensures c.is_eq.ensures c.if-is_eq.false in
    below_more _ _ c.loop-other.invariant (other_at c.args.values.now c.loop-other.other-index c.other-item.result c.args.value.now c.loop-other-test.true c.other-item.is other)
