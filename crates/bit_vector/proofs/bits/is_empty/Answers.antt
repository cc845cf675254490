use Rattle.std.proofs.Common.{arith}
use Rattle.bit_vector.proofs.BitLemmas.{none_set, some_set, zero_more}
use Rattle.bit_vector.proofs.bits.is_empty.Goals as goal

pub loop-i-init : goal.loop-i-init
loop-i-init c = λ j low. absurd (omega (arith, low))

pub loop-i-preserved : goal.loop-i-preserved
loop-i-preserved c = zero_more c.args.words.now c.loop-i.i c.loop-i.invariant c.if-words-i-ne0.false

pub returns-then-words-i-ne0-clause-some : goal.returns-then-words-i-ne0-clause-some
returns-then-words-i-ne0-clause-some c = λ is. some_set c.args.words.now c.loop-i.i (omega (arith, c.loop-i-test.true)) c.if-words-i-ne0.true (omega (arith, c.type_inv.words c.loop-i.i))

pub returns-clause-none : goal.returns-clause-none
returns-clause-none c = λ is. none_set c.args.words.now (λ j low. c.loop-i.invariant j (omega (arith, low, c.loop-i-test.false, c.loop-i.auto.i-end)))
