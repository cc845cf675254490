use Rattle.std.proofs.Common.{get_or, refl, ◌/◌}
use Rattle.index_model.proofs.BitLemmas.{insert_words}
use Rattle.bit_vector.proofs.bits.set_bit.Goals as goal

pub returns-clause-bits : goal.returns-clause-bits
returns-clause-bits c = λ j. insert_words c.args.words.now c.args.i j (get_or c.args.words.now (c.args.i / 64) 0) c.requires refl
