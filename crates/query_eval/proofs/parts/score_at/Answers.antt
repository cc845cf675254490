use Rattle.std.proofs.Common.{slice_index_or, refl, pos, ◌≡◌, ◌∙◌, ◌≤◌, ◌<◌, ◌*◌, ◌+◌, ◌^◌, sym, ap, subst, length, drop}
use Rattle.std.proofs.Common.{ℤ, ◌+ℤ◌, ◌*ℤ◌, Some, arith, List, to_z, of_z}
use Rattle.std.proofs.lemmas.Int.{to_z-of_z}
use Rattle.std.specs.Int.{w128}
use Rattle.std.specs.Int.RustNames.{FitsSigned, unsigned_abs}
use Rattle.list_lemmas.proofs.Places.{drop-read}
use Rattle.image_format.specs.Postings.{list_form, postings_at}
use Rattle.attr_types.proofs.ScoreLemmas.{product_shown, product_shown-bound, sum_fits, sum_bound, sum_step}
use Rattle.query_eval.specs.PartLists.{score_in_lists, AreListParts}
use Rattle.query_eval.specs.Weights.{weight_in_list, IsListWord}
use Rattle.query_eval.specs.declared.parts.ListPart.{ListPart}
use Rattle.query_eval.proofs.parts.score_at.Goals as goal

abbrev none : ListPart
none = record { list = 0; weight = pos 0 }

pub score_in_list-score-requires : goal.score_in_list-score-requires
score_in_list-score-requires g c =
    let lists = c.args.lists.now in
    let i = c.loop-part.part-index in
    let part = slice_index_or lists c.loop-part.part-index none in
    let before = c.loop-part.invariant in
    let below : i < length lists = omega (arith, c.loop-part-test.true) in
    let left = subst (AreListParts (g.F.Frozen.records c.args.frozen.now)) (drop-read lists i part none below refl) before.left in
    subst (λ (f : g.row.F.Denot). IsListWord (g.F.Frozen.records f) (Some part.list)) (sym before.same) left.0

pub overflow_add-score : goal.overflow_add-score
overflow_add-score g c =
    let next = product_shown-bound c.score_in_list-score.result c.score_in_list-score.ensures.bound in
    sum_fits (to_z w128 c.loop-part.score-bits) (to_z w128 (of_z w128 c.score_in_list-score.result)) c.loop-part.part-index
    (length c.args.lists.now) c.loop-part.invariant.bound next (omega arith) (omega arith)

pub loop-part-preserved : goal.loop-part-preserved
loop-part-preserved g c =
    let m = g.F.Frozen.records c.args.frozen.now in
    let lists = c.args.lists.now in
    let doc = c.args.doc in
    let i = c.loop-part.part-index in
    let part = slice_index_or lists c.loop-part.part-index none in
    let before = c.loop-part.invariant in
    let added = c.score_in_list-score in
    let so_far = to_z w128 c.loop-part.score-bits in
    let product = to_z w128 (of_z w128 added.result) in
    let next = product_shown-bound added.result added.ensures.bound in
    let below : i < length lists = omega (arith, c.loop-part-test.true) in
    let first = drop-read lists i part none below refl in
    let fits : FitsSigned w128 (so_far +ℤ product) = sum_fits so_far product i (length lists) before.bound next below (omega arith) in
    let is = sym (to_z-of_z w128 (so_far +ℤ product) fits) in
    let here = product_shown added.result added.ensures.bound ∙ added.ensures.value
    ∙ ap (λ (f : g.row.F.Denot). part.weight *ℤ weight_in_list doc (postings_at (g.F.Frozen.records f) (list_form part.list))) before.same in
    record {
      same = added.ensures.same ∙ before.same;
      left = (subst (AreListParts m) first before.left).1;
      whole =
          subst (λ (z : ℤ). z +ℤ score_in_lists m (drop (i + 1) lists) doc ≡ score_in_lists m lists doc) is
          (sum_step so_far product (score_in_lists m (drop (i + 1) lists) doc) (score_in_lists m (drop i lists) doc)
          (score_in_lists m lists doc) (part.weight *ℤ weight_in_list doc (postings_at m (list_form part.list))) before.whole
          (ap (λ (ps : List ListPart). score_in_lists m ps doc) first) here);
      bound = subst (λ (z : ℤ). unsigned_abs z ≤ (i + 1) * 2 ^ 62) is (sum_bound so_far product i before.bound next);
    }
