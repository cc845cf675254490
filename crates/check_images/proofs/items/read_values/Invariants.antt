use Rattle.std.proofs.Common.{◌≡◌, ℕ, map, take}
use Rattle.std.specs.Prelude.{ℤ}
use Rattle.std.specs.List.{AllByRecursion}
use Rattle.image_format.specs.Values.{stored_value, IsValueRecord}
use Rattle.entry_ref.specs.Maps.{seen}
use Rattle.check_images.proofs.items.read_values.Given as goal

abbrev pub invariant-loop-entry : goal.invariant-loop-entry
invariant-loop-entry l = record {
  items : l.items ≡ map (λ (e : ℕ × ℤ). record { value = stored_value l.value_type (seen l.records) e.0; weight = e.1 }) (take l.entry-index l.list);
  good : AllByRecursion (λ (e : ℕ × ℤ). IsValueRecord l.value_type (seen l.records e.0)) (take l.entry-index l.list);
}
