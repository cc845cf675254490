use Rattle.std.proofs.Common.{List, sym, subst}
use Rattle.std.proofs.lemmas.Result.{IfOk-weaker}
use Rattle.image_format.specs.Postings.{index_of}
use Rattle.query_eval.specs.PartLists.{AreListParts, AreScoresIn}
use Rattle.query_eval.specs.declared.parts.ListPart.{ListPart}
use Rattle.query_eval.proofs.PartListLemmas.{by_parts}
use Rattle.query_eval.proofs.parts.scored.Goals as goal

pub scores_by_lists-requires : goal.scores_by_lists-requires
scores_by_lists-requires g c =
    subst (λ (f : g.row.F.Denot). AreListParts (g.F.Frozen.records f) c.as_slice.result.now) (sym c.lists_of_parts.ensures.same)
    (subst (AreListParts (g.F.Frozen.records c.args.frozen.now)) (sym c.as_slice.ensures.value) c.in_ok-lists.ensures.lists.words)

pub returns-clause-scores : goal.returns-clause-scores
returns-clause-scores g c =
    let m = g.F.Frozen.records c.args.frozen.now in
    let index = index_of c.args.value_type m c.args.root in
    IfOk-weaker c.scores_by_lists.result _ _
    (λ list is.
    by_parts m index c.args.parts.now c.in_ok-lists.lists.items list c.in_ok-lists.ensures.lists
    (subst (λ (ps : List ListPart). AreScoresIn m ps list) c.as_slice.ensures.value
    (subst (λ (f : g.row.F.Denot). AreScoresIn (g.F.Frozen.records f) c.as_slice.result.now list) c.lists_of_parts.ensures.same is)))
    c.scores_by_lists.ensures.scores
