use Rattle.std.proofs.Common.{ℕ, take, arith, ap, ◌∙◌}
use Rattle.std.proofs.lemmas.List.{take_all}
use Rattle.query_eval.proofs.vectors.read_block.Goals as goal

pub returns-clause-words : goal.returns-clause-words
returns-clause-words g c =
    let m = g.F.Frozen.records c.args.frozen.now in
    let size = c.requires.size in
    c.read.ensures.words ∙ ap (λ (r : ℕ). take 64 (m r)) c.from_raw.ensures ∙ take_all 64 (m c.args.stored) (omega (arith, size))
