use Rattle.std.proofs.Common.{◌≡◌, ℕ, pos, map, take}
use Rattle.std.specs.List.{flat_map, AllByRecursion}
use Rattle.image_format.specs.Postings.{block_documents, IsBlock}
use Rattle.entry_ref.specs.Maps.{seen}
use Rattle.check_images.proofs.blocks.read_blocks.Given as goal

abbrev pub invariant-loop-pair : goal.invariant-loop-pair
invariant-loop-pair l = record {
  list : l.list.items ≡ map (λ (doc : ℕ). (doc, pos 1)) (flat_map (λ (p : ℕ × ℕ). block_documents p.0 (seen l.records p.1)) (take l.pair-index l.pairs));
  form : AllByRecursion (λ (p : ℕ × ℕ). IsBlock p.0 (seen l.records p.1)) (take l.pair-index l.pairs);
}
