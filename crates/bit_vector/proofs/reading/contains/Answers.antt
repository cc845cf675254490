use Rattle.std.proofs.Common.{◌≡◌, ◌+◌, ◌*◌, ◌/◌, ◌%◌, length, sym, ap, ◌∙◌, arith}
use Rattle.tree_read.specs.Trees.{tree_pairs}
use Rattle.image_format.specs.Postings.{vector_documents, IsBlock}
use Rattle.index_model.specs.Sets.{has, in_words}
use Rattle.bit_vector.proofs.VectorLemmas.{bit_lacking, bit_there, found_all}
use Rattle.bit_vector.proofs.reading.contains.Goals as goal

pub bit_of-requires : goal.bit_of-requires
bit_of-requires g c =
    let m = g.F.Frozen.records c.args.frozen.now in
    let found = sym c.find_block.ensures.found ∙ c.in-Some.is in
    let block = found_all (λ p. IsBlock p.0 (m p.1)) (c.number-place.result / 4096) (tree_pairs m c.args.root) c.in-Some.block c.requires.vector.blocks found in
    (omega arith, (ap (λ (f : g.row.F.Denot). length (g.F.Frozen.records f c.in-Some.block)) c.find_block.ensures.same ∙ block.size, omega arith))

pub returns-in-Some-clause-has : goal.returns-in-Some-clause-has
returns-in-Some-clause-has g c =
    let m = g.F.Frozen.records c.args.frozen.now in
    let place = c.number-place.result in
    let found = sym c.find_block.ensures.found ∙ c.in-Some.is in
    c.bit_of.ensures.bit
    ∙ ap (λ (f : g.row.F.Denot). in_words (g.F.Frozen.records f c.in-Some.block) (place % 4096)) c.find_block.ensures.same
    ∙ bit_there m (tree_pairs m c.args.root) c.requires.vector.tree_is.ascends (place / 4096) (place % 4096) (omega arith) c.in-Some.block found
    ∙ ap (has (vector_documents m c.args.root)) (let e : 4096 * (place / 4096) + place % 4096 ≡ place = omega arith in e ∙ c.number-place.ensures.number)

pub returns-in-None-clause-has : goal.returns-in-None-clause-has
returns-in-None-clause-has g c =
    let m = g.F.Frozen.records c.args.frozen.now in
    let place = c.number-place.result in
    let found = sym c.find_block.ensures.found ∙ c.in-None.is in
    sym (ap (has (vector_documents m c.args.root)) (sym (let e : 4096 * (place / 4096) + place % 4096 ≡ place = omega arith in e ∙ c.number-place.ensures.number))
    ∙ bit_lacking m (tree_pairs m c.args.root) c.requires.vector.tree_is.ascends (place / 4096) (place % 4096) (omega arith) found)
