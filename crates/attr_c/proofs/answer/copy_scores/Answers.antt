use Rattle.std.proofs.Common.{◌≡◌, map, subst, sym}
use Rattle.attr_c.specs.Copies.{Copies, score_told, scores_told}
use Rattle.attr_c.specs.declared.answer.Answer.{Answer}
use Rattle.attr_c.specs.declared.answer.Answer.TheVariants.{Scores}
use Rattle.attr_c.proofs.CopyLemmas.{copies_at, mapped_part}
use Rattle.attr_c.proofs.answer.copy_scores.Goals as goal

pub returns-in-Scores : goal.returns-in-Scores
returns-in-Scores c =
    let is : c.args.answer.now ≡ Scores c.in-Scores.scores = c.in-Scores.is in
    let list = c.in-Scores.scores in
    subst (λ (a : Answer). Copies (scores_told a) c.args.first c.args.into.now c.copy_scored.new.into c.copy_scored.result) (sym is)
    (copies_at (map score_told list) _ c.args.first c.args.into.now c.copy_scored.new.into c.copy_scored.result
    (mapped_part score_told list c.as_slice-scores.result.now c.args.first c.min.result c.as_slice-scores.ensures c.min.ensures) c.copy_scored.ensures)
