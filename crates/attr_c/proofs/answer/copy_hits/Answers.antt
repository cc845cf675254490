use Rattle.std.proofs.Common.{◌≡◌, map, subst, sym}
use Rattle.attr_types.specs.declared.score.Score.{Score}
use Rattle.attr_c.specs.Copies.{Copies, documents_of}
use Rattle.attr_c.specs.declared.answer.Answer.{Answer}
use Rattle.attr_c.specs.declared.answer.Answer.TheVariants.{Scores}
use Rattle.attr_c.proofs.CopyLemmas.{copies_at, mapped_part}
use Rattle.attr_c.proofs.answer.copy_hits.Goals as goal

pub returns-in-Scores : goal.returns-in-Scores
returns-in-Scores c =
    let is : c.args.answer.now ≡ Scores c.in-Scores.scores = c.in-Scores.is in
    let list = c.in-Scores.scores in
    let doc = λ (s : Score). s.doc in
    subst (λ (a : Answer). Copies (documents_of a) c.args.first c.args.into.now c.copy_scored_docs.new.into c.copy_scored_docs.result) (sym is)
    (copies_at (map doc list) _ c.args.first c.args.into.now c.copy_scored_docs.new.into c.copy_scored_docs.result
    (mapped_part doc list c.as_slice-scores.result.now c.args.first c.min-in-Scores.result c.as_slice-scores.ensures c.min-in-Scores.ensures) c.copy_scored_docs.ensures)
