use Rattle.std.proofs.Common.{◌≡◌, ◌≤◌, length, bit_and}
use Rattle.bit_vector.specs.Kernels.{joined_from}
use Rattle.bit_vector.proofs.kernels.and_rest.Given as goal

abbrev pub invariant-loop-at : goal.invariant-loop-at
invariant-loop-at l = record {
  size : length l.into ≡ length l.fn.into;
  within : l.at ≤ length l.fn.into;
  whole : joined_from bit_and l.at l.into l.other ≡ joined_from bit_and l.from l.fn.into l.other;
}
