use Rattle.std.proofs.Common.{◌<◌, ◌++◌, ℕ, ℤ, List, length, map, arith, rules, sym, ap, subst, ◌∙◌}
use Rattle.std.proofs.lemmas.Int.{to_z-of_z}
use Rattle.std.proofs.lemmas.List.{drop_all, append-nil}
use Rattle.std.specs.Int.{w128}
use Rattle.std.specs.Int.RustNames.{FitsSigned}
use Rattle.attr_types.specs.declared.score.Score.{Score}
use Rattle.query_eval.specs.PartLists.{score_in_lists, AreListParts}
use Rattle.query_eval.proofs.ScoreListLemmas.{score_more}
use Rattle.query_eval.proofs.parts.scores_of.Goals as goal

pub score_at-score-requires : goal.score_at-score-requires
score_at-score-requires g c =
    subst (λ (f : g.row.F.Denot). AreListParts (g.F.Frozen.records f) c.args.lists.now) (sym c.loop-doc.invariant.same) c.requires

pub returns-clause-scores : goal.returns-clause-scores
returns-clause-scores g c =
    let score : ℕ → Score = λ doc. record { doc = doc; score = score_in_lists (g.F.Frozen.records c.args.frozen.now) c.args.lists.now doc } in
    sym (append-nil c.loop-doc.list)
    ∙ ap (λ (docs : List ℕ). c.loop-doc.list ++ map score docs) (sym (drop_all c.loop-doc.doc-index c.args.docs.now (omega (arith, c.loop-doc-test.false))))
    ∙ c.loop-doc.invariant.whole

pub loop-doc-preserved : goal.loop-doc-preserved
loop-doc-preserved g c =
    let m = g.F.Frozen.records c.args.frozen.now in
    let lists = c.args.lists.now in
    let docs = c.args.docs.now in
    let k = c.loop-doc.doc-index in
    let doc = c.doc-item.result in
    let before = c.loop-doc.invariant in
    let below : k < length docs = omega (arith, c.loop-doc-test.true) in
    let fits : FitsSigned w128 c.score_at-score.result = search rules in
    let own = c.score_at-score.ensures.score
    ∙ ap (λ (n : ℕ). score_in_lists (g.F.Frozen.records c.loop-doc.frozen) lists n) c.number.ensures.number
    ∙ ap (λ (f : g.row.F.Denot). score_in_lists (g.F.Frozen.records f) lists doc) before.same in
    record {
      same = c.score_at-score.ensures.same ∙ before.same;
      whole =
          score_more (λ d. record { doc = d; score = score_in_lists m lists d }) docs k doc c.loop-doc.list c.push.new.self _ _ below c.doc-item.is
          c.in_ok-push.ensures.ok
          (ap (λ (z : ℤ). record { doc = doc; score = z }) (to_z-of_z w128 c.score_at-score.result fits ∙ own))
          before.whole;
    }
