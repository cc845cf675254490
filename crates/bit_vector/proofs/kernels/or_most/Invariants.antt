use Rattle.std.proofs.Common.{◌≡◌, ◌≤◌, ◌-◌, length, bit_or}
use Rattle.std.specs.Simd.Lanes.{zip2}
use Rattle.bit_vector.specs.Kernels.{joined_from}
use Rattle.bit_vector.proofs.kernels.or_most.Given as goal

abbrev pub invariant-loop-into : goal.invariant-loop-into
invariant-loop-into l = record {
  size : length l.into ≡ length l.fn.into;
  within : l.at ≤ length l.fn.into;
  whole : joined_from bit_or l.at l.into l.other ≡ zip2 bit_or l.fn.into l.other;
}

abbrev pub decreases-loop-into : goal.decreases-loop-into
decreases-loop-into l = length l.into - l.at
