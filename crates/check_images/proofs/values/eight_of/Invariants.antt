use Rattle.std.proofs.Common.{◌≡◌, ◌<◌, ℕ, length, get_or}
use Rattle.check_images.proofs.values.eight_of.Given as goal

abbrev pub invariant-loop-i : goal.invariant-loop-i
invariant-loop-i l = record {
  size : length l.eight ≡ 8;
  so_far : (k : ℕ) → k < l.i → get_or l.eight k 0 ≡ get_or l.bytes k 0;
}
