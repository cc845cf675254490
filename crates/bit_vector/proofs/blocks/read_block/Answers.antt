use Rattle.std.proofs.Common.{arith, ◌∙◌}
use Rattle.std.proofs.lemmas.List.{take_all}
use Rattle.bit_vector.proofs.blocks.read_block.Goals as goal

pub returns-clause-words : goal.returns-clause-words
returns-clause-words g c =
    let m = g.F.Frozen.records c.args.frozen.now in
    let size = c.requires.size in
    c.read.ensures.words ∙ take_all 64 (m c.args.block) (omega (arith, size))
