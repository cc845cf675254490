use Rattle.std.proofs.Common.{ℕ, List, map, sym, ap, subst, ◌∙◌}
use Rattle.std.proofs.lemmas.Result.{IfOk-weaker}
use Rattle.attr_types.specs.declared.score.Score.{Score}
use Rattle.index_model.proofs.DocLemmas.{same_ascending}
use Rattle.query_eval.specs.PartLists.{score_in_lists, AreListParts}
use Rattle.query_eval.proofs.parts.scores_by_lists.Goals as goal

pub scores_of-requires : goal.scores_of-requires
scores_of-requires g c =
    subst (λ (f : g.row.F.Denot). AreListParts (g.F.Frozen.records f) c.args.lists.now) (sym c.gather_parts.ensures.same) c.requires

pub returns-clause-scores : goal.returns-clause-scores
returns-clause-scores g c =
    let m = g.F.Frozen.records c.args.frozen.now in
    let lists = c.args.lists.now in
    let gathered = c.in_ok-docs.ensures in
    let score : ℕ → Score = λ doc. record { doc = doc; score = score_in_lists m lists doc } in
    IfOk-weaker c.scores_of.result _ _
    (λ list is. λ docs holds.
    is
    ∙ ap (λ (f : g.row.F.Denot). map {B = Score} (λ doc. record { doc = doc; score = score_in_lists (g.F.Frozen.records f) lists doc }) c.as_slice.result.now) c.gather_parts.ensures.same
    ∙ ap (λ (ds : List ℕ). map score ds)
    (c.as_slice.ensures
    ∙ same_ascending c.in_ok-docs.docs docs gathered.ascends holds.ascends
    (λ doc. gathered.exact doc ∙ c.in_ok-gather_parts.ensures.docs doc ∙ sym (holds.exact doc))))
    c.scores_of.ensures.scores
