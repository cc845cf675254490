use Rattle.std.proofs.Common.{ℕ, List, length, sym, ap, ◌∙◌, arith}
use Rattle.tree_read.specs.Trees.{tree_pairs}
use Rattle.image_format.specs.Postings.{IsBlock}
use Rattle.index_model.specs.Sets.{in_words}
use Rattle.bit_vector.proofs.BitLemmas.{zero_bits}
use Rattle.bit_vector.proofs.VectorLemmas.{bit_lacking, bit_there, found_all}
use Rattle.bit_vector.proofs.blocks.block_words.Goals as goal

pub read_block-requires : goal.read_block-requires
read_block-requires g c =
    let m = g.F.Frozen.records c.args.frozen.now in
    let found = sym c.find_block.ensures.found ∙ c.in-Some.is in
    let block = found_all (λ p. IsBlock p.0 (m p.1)) c.args.number (tree_pairs m c.args.root) c.in-Some.block c.requires.vector.blocks found in
    (omega arith, ap (λ (f : g.row.F.Denot). length (g.F.Frozen.records f c.in-Some.block)) c.find_block.ensures.same ∙ block.size)

pub returns-in-Some-clause-bits : goal.returns-in-Some-clause-bits
returns-in-Some-clause-bits g c = λ i below.
    let m = g.F.Frozen.records c.args.frozen.now in
    let found = sym c.find_block.ensures.found ∙ c.in-Some.is in
    let words = c.read_block.ensures.words ∙ ap (λ (f : g.row.F.Denot). g.F.Frozen.records f c.in-Some.block) c.find_block.ensures.same in
    ap (λ (ws : List ℕ). in_words ws i) words
    ∙ bit_there m (tree_pairs m c.args.root) c.requires.vector.tree_is.ascends c.args.number i below c.in-Some.block found

pub returns-in-None-clause-bits : goal.returns-in-None-clause-bits
returns-in-None-clause-bits g c = λ i below.
    let m = g.F.Frozen.records c.args.frozen.now in
    let found = sym c.find_block.ensures.found ∙ c.in-None.is in
    zero_bits 64 i ∙ sym (bit_lacking m (tree_pairs m c.args.root) c.requires.vector.tree_is.ascends c.args.number i below found)
