use Rattle.std.proofs.Common.{◌≡◌, ◌≤◌, ◌-◌, length, bit_and}
use Rattle.std.specs.Simd.Lanes.{zip2}
use Rattle.bit_vector.specs.Kernels.{joined_from}
use Rattle.bit_vector.proofs.kernels.and_most.Given as goal

abbrev pub invariant-loop-into : goal.invariant-loop-into
invariant-loop-into l = record {
  size : length l.into ≡ length l.fn.into;
  within : l.at ≤ length l.fn.into;
  whole : joined_from bit_and l.at l.into l.other ≡ zip2 bit_and l.fn.into l.other;
}

abbrev pub decreases-loop-into : goal.decreases-loop-into
decreases-loop-into l = length l.into - l.at
