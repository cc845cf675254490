use Rattle.check_images.specs.Slots.{AreZero}
use Rattle.check_images.proofs.node.are_zero.Given as goal

abbrev pub invariant-loop-i : goal.invariant-loop-i
invariant-loop-i l = AreZero l.words l.used l.i
