use Rattle.std.proofs.Common.{◌≡◌, ℕ, map, take}
use Rattle.std.specs.List.{AllByRecursion}
use Rattle.index_model.specs.Columns.{documents_with}
use Rattle.image_format.specs.Postings.{list_form, postings_at, IsDictionaryEntry}
use Rattle.image_format.specs.Values.{stored_value}
use Rattle.entry_ref.specs.Maps.{seen}
use Rattle.check_images.proofs.dictionary.read_dictionary.Given as goal

abbrev pub invariant-loop-pair : goal.invariant-loop-pair
invariant-loop-pair l = record {
  entries : AllByRecursion (IsDictionaryEntry l.value_type (seen l.records)) (take l.pair-index l.pairs);
  lists : AllByRecursion (λ (p : ℕ × ℕ). postings_at (seen l.records) (list_form p.1) ≡ documents_with (stored_value l.value_type (seen l.records) p.0) l.column) (take l.pair-index l.pairs);
  values : l.values.items ≡ map (λ (p : ℕ × ℕ). stored_value l.value_type (seen l.records) p.0) (take l.pair-index l.pairs);
}
