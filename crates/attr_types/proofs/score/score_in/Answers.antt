use Rattle.std.proofs.Common.{◌≡◌, ◌∙◌, ◌≤◌, ◌<◌, ◌*◌, ◌+◌, ◌^◌, sym, ap, ap₂, rules, subst, length, drop}
use Rattle.std.proofs.Common.{ℤ, ◌+ℤ◌, ◌*ℤ◌, arith, List, to_z, of_z}
use Rattle.std.proofs.lemmas.Int.{to_z-of_z}
use Rattle.std.specs.Int.{w32, w128}
use Rattle.std.specs.Int.RustNames.{FitsSigned, unsigned_abs}
use Rattle.list_lemmas.proofs.Places.{drop-read}
use Rattle.attr_types.proofs.ScoreLemmas.{product_shown, product_shown-bound, sum_fits, sum_bound, sum_step}
use Rattle.attr_types.specs.Scores.{score_of, weight_of}
use Rattle.attr_types.specs.declared.part.Part.{Part}
use Rattle.attr_types.proofs.score.score_in.Goals as goal

pub overflow_add-score : goal.overflow_add-score
overflow_add-score c =
    let next = product_shown-bound c.product-score.result c.product-score.ensures.bound in
    sum_fits (to_z w128 c.loop-part.score-bits) (to_z w128 (of_z w128 c.product-score.result)) c.loop-part.part-index
    (length c.args.parts.now) c.loop-part.invariant.bound next (omega arith) (omega arith)

pub loop-part-preserved : goal.loop-part-preserved
loop-part-preserved c =
    let parts = c.args.parts.now in
    let items = c.args.items.now in
    let i = c.loop-part.part-index in
    let part = c.part-item.result in
    let so_far = to_z w128 c.loop-part.score-bits in
    let product = to_z w128 (of_z w128 c.product-score.result) in
    let next = product_shown-bound c.product-score.result c.product-score.ensures.bound in
    let below : i < length parts = omega arith in
    let left = ap (λ (ps : List Part). score_of ps items) (drop-read parts i part part below c.part-item.is) in
    let own : FitsSigned w32 part.weight = search rules in
    let found : FitsSigned w32 c.weight_in-weight.result = search rules in
    let here = product_shown c.product-score.result c.product-score.ensures.bound
    ∙ c.product-score.ensures.value ∙ ap₂ (λ (a b : ℤ). a *ℤ b) (to_z-of_z w32 part.weight own)
    (to_z-of_z w32 c.weight_in-weight.result found ∙ c.weight_in-weight.ensures) in
    let fits : FitsSigned w128 (so_far +ℤ product) = sum_fits so_far product i (length parts)
    c.loop-part.invariant.bound next below (omega arith) in
    let is = sym (to_z-of_z w128 (so_far +ℤ product) fits) in
    record {
      whole = subst (λ (z : ℤ). z +ℤ score_of (drop (i + 1) parts) items ≡ score_of parts items) is
          (sum_step so_far product (score_of (drop (i + 1) parts) items) (score_of (drop i parts) items)
          (score_of parts items) (part.weight *ℤ weight_of part.value items) c.loop-part.invariant.whole left here);
      bound = subst (λ (z : ℤ). unsigned_abs z ≤ (i + 1) * 2 ^ 62) is
          (sum_bound so_far product i c.loop-part.invariant.bound next);
    }
