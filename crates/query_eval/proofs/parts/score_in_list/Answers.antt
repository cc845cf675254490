use Rattle.std.proofs.Common.{ℤ, ◌*ℤ◌, rules, ap₂, ◌∙◌}
use Rattle.std.proofs.lemmas.Int.{to_z-of_z}
use Rattle.std.specs.Int.{w32}
use Rattle.std.specs.Int.RustNames.{FitsSigned}
use Rattle.attr_types.proofs.ScoreLemmas.{product_shown}
use Rattle.query_eval.proofs.parts.score_in_list.Goals as goal

pub returns-clause-value : goal.returns-clause-value
returns-clause-value g c =
    let own : FitsSigned w32 c.args.part.now.weight = search rules in
    let found : FitsSigned w32 c.weight_at-weight.result = search rules in
    product_shown c.product.result c.product.ensures.bound ∙ c.product.ensures.value
    ∙ ap₂ (λ (a b : ℤ). a *ℤ b) (to_z-of_z w32 c.args.part.now.weight own) (to_z-of_z w32 c.weight_at-weight.result found ∙ c.weight_at-weight.ensures.weight)
