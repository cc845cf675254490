use Rattle.std.proofs.Common.{◌≡◌, ◌<◌, ◌^◌, ℕ, map, take}
use Rattle.std.specs.List.{AllByRecursion}
use Rattle.image_format.specs.Words.{weight_in_bits}
use Rattle.check_images.proofs.postings.weigh_pairs.Given as goal

abbrev pub invariant-loop-pair : goal.invariant-loop-pair
invariant-loop-pair l = record {
  list : l.list.items ≡ map (λ (p : ℕ × ℕ). (p.0, weight_in_bits p.1)) (take l.pair-index l.pairs);
  small : AllByRecursion (λ (p : ℕ × ℕ). p.1 < 2 ^ 32) (take l.pair-index l.pairs);
}
