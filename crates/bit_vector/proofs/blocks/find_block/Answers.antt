use Rattle.std.proofs.Common.{sym, arith}
use Rattle.tree_read.specs.Trees.{tree_pairs}
use Rattle.image_format.specs.Postings.{IsBlock}
use Rattle.bit_vector.proofs.VectorLemmas.{found_all}
use Rattle.bit_vector.proofs.blocks.find_block.Goals as goal

pub overflow_cast-stored : goal.overflow_cast-stored
overflow_cast-stored g c =
    let m = g.F.Frozen.records c.args.frozen.now in
    let block = found_all (λ p. IsBlock p.0 (m p.1)) c.args.number (tree_pairs m c.args.root) c.in-Some.stored c.requires.vector.blocks (sym c.in-Some.ensures.value) in
    let size = block.size in
    let below = g.met.F.Frozen.references c.args.frozen.now c.in-Some.stored (omega (arith, size)) in
    omega arith
