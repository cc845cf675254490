use Rattle.std.proofs.Common.{◌≡◌, ◌≤◌, ◌<◌, ◌-◌, ℕ, false}
use Rattle.index_model.specs.Sets.{in_words}
use Rattle.bit_vector.proofs.bits.next_bit.Given as goal

abbrev pub invariant-loop-i : goal.invariant-loop-i
invariant-loop-i g l = record {
  same : l.frozen ≡ l.fn.frozen;
  low : l.from ≤ l.i;
  before : (j : ℕ) → l.from ≤ j → j < l.i → in_words (g.F.Frozen.records l.fn.frozen l.block) j ≡ false;
}

abbrev pub decreases-loop-i : goal.decreases-loop-i
decreases-loop-i g l = 4096 - l.i
