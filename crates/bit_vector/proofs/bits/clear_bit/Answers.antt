use Rattle.std.proofs.Common.{get_or, refl, ◌/◌}
use Rattle.bit_vector.proofs.BitLemmas.{clear_words}
use Rattle.bit_vector.proofs.bits.clear_bit.Goals as goal

pub returns-clause-bits : goal.returns-clause-bits
returns-clause-bits c = λ j. clear_words c.args.words.now c.args.i j (get_or c.args.words.now (c.args.i / 64) 0) c.requires refl
