use Rattle.std.proofs.Common.{◌≡◌, ◌<◌, ◌≤◌, ℕ, length, get_or, bit_and}
use Rattle.index_model.proofs.bits.keep_bits.Given as goal

-- the words before the place are joined, the others are as before
abbrev pub invariant-loop-place : goal.invariant-loop-place
invariant-loop-place l = record {
  size : length l.words.items ≡ length l.fn.words.items;
  joined : (i : ℕ) → i < l.place → get_or l.words.items i 0 ≡ bit_and (get_or l.fn.words.items i 0) (get_or l.other i 0);
  others : (i : ℕ) → l.place ≤ i → get_or l.words.items i 0 ≡ get_or l.fn.words.items i 0;
}
