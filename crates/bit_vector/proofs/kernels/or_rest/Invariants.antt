use Rattle.std.proofs.Common.{◌≡◌, ◌≤◌, length, bit_or}
use Rattle.bit_vector.specs.Kernels.{joined_from}
use Rattle.bit_vector.proofs.kernels.or_rest.Given as goal

abbrev pub invariant-loop-at : goal.invariant-loop-at
invariant-loop-at l = record {
  size : length l.into ≡ length l.fn.into;
  within : l.at ≤ length l.fn.into;
  whole : joined_from bit_or l.at l.into l.other ≡ joined_from bit_or l.from l.fn.into l.other;
}
