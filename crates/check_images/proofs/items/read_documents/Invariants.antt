use Rattle.std.proofs.Common.{◌≡◌, ℕ, map, take}
use Rattle.std.specs.List.{AllByRecursion}
use Rattle.image_format.specs.Documents.{items_at, AreItemRecords}
use Rattle.entry_ref.specs.Maps.{seen}
use Rattle.check_images.proofs.items.read_documents.Given as goal

abbrev pub invariant-loop-pair : goal.invariant-loop-pair
invariant-loop-pair l = record {
  column : l.column.items ≡ map (λ (p : ℕ × ℕ). (p.0, items_at l.kind l.value_type (seen l.records) p.1)) (take l.pair-index l.pairs);
  good : AllByRecursion (λ (p : ℕ × ℕ). AreItemRecords l.kind l.value_type (seen l.records) p.1) (take l.pair-index l.pairs);
}
