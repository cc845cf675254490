use Rattle.std.proofs.Common.{◌≡◌, ◌+◌, ℕ, List, length, arith, refl, ap, ◌∙◌, bit_or}
use Rattle.std.proofs.lemmas.Simd.{length-put_chunk}
use Rattle.std.specs.Simd.Lanes.{chunk, zip2}
use Rattle.bit_vector.specs.Kernels.{joined_from}
use Rattle.bit_vector.proofs.KernelLemmas.{lanes_more}
use Rattle.bit_vector.proofs.kernels.or_most.Goals as goal

pub loop-into-preserved : goal.loop-into-preserved
loop-into-preserved c =
    let at = c.loop-into.at in
    let into = c.loop-into.into in
    let other = c.args.other.now in
    let size = c.loop-into.invariant.size in
    let room = c.loop-into-test.true in
    let same : length into ≡ length other = size ∙ c.requires in
    record {
      size = ap length c.or_lanes.ensures ∙ length-put_chunk at into (zip2 bit_or (chunk at 8 into) (chunk at 8 other)) ∙ size;
      within = omega (arith, size, room);
      whole = ap (λ (ws : List ℕ). joined_from bit_or (at + 8) ws other) c.or_lanes.ensures
          ∙ lanes_more bit_or at 8 (at + 8) into other refl (omega (arith, room)) same ∙ c.loop-into.invariant.whole;
    }
