use Rattle.std.proofs.Common.{arith}
use Rattle.index_model.proofs.BitLemmas.{kept_words}
use Rattle.index_model.proofs.bits.keep_bits.Goals as goal

pub returns-clause-bits : goal.returns-clause-bits
returns-clause-bits c = λ doc.
    let loop = c.loop-place in
    kept_words c.args.words.now.items c.args.other.now loop.words.items loop.place doc loop.invariant.size
    (omega (arith, c.loop-place-test.false)) loop.invariant.joined
