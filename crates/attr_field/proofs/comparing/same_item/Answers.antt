use Rattle.std.proofs.Common.{◌≡◌, ℤ, sym, ap₂, ◌∙◌, rules, w32, SFits, true≢false}
use Rattle.std.proofs.lemmas.Int.{to_z-of_z}
use Rattle.std.specs.Ordering.{int_eq}
use Rattle.attr_field.proofs.CompareLemmas.{parts_same, value_apart, weight_same}
use Rattle.attr_field.proofs.comparing.same_item.Goals as goal

pub returns-then-not-same_value : goal.returns-then-not-same_value
returns-then-not-same_value c = (
  λ no. absurd (true≢false (sym no)),
  λ same. absurd (value_apart c.args.a.now c.args.b.now (sym c.same_value.ensures ∙ c.if-not-same_value.true) same),
)

pub returns : goal.returns
returns c =
    let left : SFits w32 c.args.a.now.weight = search rules in
    let right : SFits w32 c.args.b.now.weight = search rules in
    let is : c.same_weight.result ≡ int_eq c.args.a.now.weight c.args.b.now.weight =
    c.same_weight.ensures ∙ ap₂ (λ (x : ℤ) (y : ℤ). int_eq x y) (to_z-of_z w32 c.args.a.now.weight left) (to_z-of_z w32 c.args.b.now.weight right) in (
      λ same. parts_same c.args.a.now c.args.b.now (sym c.same_value.ensures ∙ c.if-not-same_value.false) (sym is ∙ same),
      λ same. is ∙ weight_same c.args.a.now c.args.b.now same,
    )
