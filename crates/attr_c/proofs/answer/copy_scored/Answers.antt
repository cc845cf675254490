use Rattle.std.proofs.Common.{◌≡◌, ◌+◌, take, slice_set, rules, ◌∙◌, ap}
use Rattle.attr_c.specs.Copies.{score_told}
use Rattle.attr_c.specs.declared.told.Scored.{Scored}
use Rattle.attr_c.proofs.CopyLemmas.{mapped_more, rest_kept}
use Rattle.attr_c.proofs.answer.copy_scored.Goals as goal

pub loop-i-preserved : goal.loop-i-preserved
loop-i-preserved c =
    let into = c.loop-i.into in
    let i = c.loop-i.i in
    let one = c.index-scores-i.result in
    let scores = c.args.scores.now in
    let told : c.told_score.result ≡ score_told one = search rules in
    record {
      front = ap (λ (x : Scored). take (i + 1) (slice_set into i x)) told
          ∙ mapped_more score_told scores into i one (search rules) (search rules) c.index-scores-i.is c.loop-i.invariant.front;
      rest = rest_kept into c.args.into.now i c.told_score.result (search rules) c.loop-i.invariant.rest;
      long = search rules;
    }
