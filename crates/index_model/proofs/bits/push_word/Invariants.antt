use Rattle.std.proofs.Common.{◌-◌}
use Rattle.index_model.proofs.WordLemmas.{Left}
use Rattle.index_model.proofs.bits.push_word.Given as goal

abbrev pub invariant-loop-left : goal.invariant-loop-left
invariant-loop-left l = Left l.words l.place l.docs l.left l.next

abbrev pub decreases-loop-left : goal.decreases-loop-left
decreases-loop-left l = 64 - l.next
