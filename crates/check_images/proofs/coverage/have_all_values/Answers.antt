use Rattle.std.proofs.Common.{ℕ, List, true≢false, sym, subst, ◌∙◌}
use Rattle.std.specs.Prelude.{Contains}
use Rattle.std.specs.List.{AllByRecursion}
use Rattle.attr_types.specs.declared.items.Item.{Item}
use Rattle.check_images.proofs.ValueLemmas.{all_at, all_more}
use Rattle.check_images.proofs.coverage.have_all_values.Goals as goal

pub returns-then-not-have_values : goal.returns-then-not-have_values
returns-then-not-have_values c = (
  λ told. absurd (true≢false (sym told)),
  λ all. absurd
      (let here = all_at (λ (e : ℕ × List Item). AllByRecursion (λ (item : Item). Contains c.args.values.now item.value) e.1) c.args.column.now c.loop-entry.entry-index c.entry-item.result c.loop-entry-test.true
      c.entry-item.is all in
      true≢false (sym (c.have_values.ensures.1 (subst (λ (xs : List Item). AllByRecursion (λ (item : Item). Contains c.args.values.now item.value) xs) (sym c.as_slice.ensures) here)) ∙ c.if-not-have_values.true)),
)

pub loop-entry-preserved : goal.loop-entry-preserved
loop-entry-preserved c =
    all_more (λ (e : ℕ × List Item). AllByRecursion (λ (item : Item). Contains c.args.values.now item.value) e.1) c.args.column.now c.loop-entry.entry-index c.entry-item.result c.loop-entry-test.true c.entry-item.is
    c.loop-entry.invariant
    (subst (λ (xs : List Item). AllByRecursion (λ (item : Item). Contains c.args.values.now item.value) xs) c.as_slice.ensures (c.have_values.ensures.0 c.if-not-have_values.false))
