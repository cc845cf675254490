use Rattle.std.proofs.Common.{arith, sym}
use Rattle.doc_vector.proofs.DocumentLemmas.{found_fits}
use Rattle.doc_vector.proofs.reading.get.Goals as goal

pub overflow_cast-items : goal.overflow_cast-items
overflow_cast-items g c =
    let below = found_fits _ _ c.requires.pairs c.in-Some.items (sym c.in-Some.ensures.value) in
    omega arith
