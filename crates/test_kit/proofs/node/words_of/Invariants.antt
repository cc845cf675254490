use Rattle.std.proofs.Common.{◌≡◌, length}
use Rattle.test_kit.proofs.node.words_of.Given as goal

abbrev pub invariant-loop-i : goal.invariant-loop-i
invariant-loop-i l = record { room : length l.words ≡ 34 }
