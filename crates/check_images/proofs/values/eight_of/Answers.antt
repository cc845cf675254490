use Rattle.std.proofs.Common.{arith}
use Rattle.check_images.proofs.TextLemmas.{eight_is}
use Rattle.check_images.proofs.values.eight_of.Goals as goal

pub returns : goal.returns
returns c = eight_is c.args.bytes.now c.loop-i.eight c.loop-i.invariant.size (λ k low. c.loop-i.invariant.so_far k (omega arith))
