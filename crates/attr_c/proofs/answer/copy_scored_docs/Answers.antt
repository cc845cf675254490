use Rattle.std.proofs.Common.{◌≡◌, ℕ, ◌+◌, take, slice_set, rules, ◌∙◌, ap}
use Rattle.attr_types.specs.declared.score.Score.{Score}
use Rattle.attr_c.proofs.CopyLemmas.{mapped_more, rest_kept}
use Rattle.attr_c.proofs.answer.copy_scored_docs.Goals as goal

pub loop-i-preserved : goal.loop-i-preserved
loop-i-preserved c =
    let into = c.loop-i.into in
    let i = c.loop-i.i in
    let one = c.index-scores-i.result in
    let scores = c.args.scores.now in
    let number : c.number.result ≡ one.doc = search rules in
    record {
      front = ap (λ (n : ℕ). take (i + 1) (slice_set into i n)) number
          ∙ mapped_more (λ (s : Score). s.doc) scores into i one (search rules) (search rules) c.index-scores-i.is c.loop-i.invariant.front;
      rest = rest_kept into c.args.into.now i c.number.result (search rules) c.loop-i.invariant.rest;
      long = search rules;
    }
