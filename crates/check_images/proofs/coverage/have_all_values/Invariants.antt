use Rattle.std.proofs.Common.{ℕ, List, take}
use Rattle.std.specs.Prelude.{Contains}
use Rattle.std.specs.List.{AllByRecursion}
use Rattle.attr_types.specs.declared.items.Item.{Item}
use Rattle.check_images.proofs.coverage.have_all_values.Given as goal

abbrev pub invariant-loop-entry : goal.invariant-loop-entry
invariant-loop-entry l = AllByRecursion (λ (e : ℕ × List Item). AllByRecursion (λ (item : Item). Contains l.values item.value) e.1) (take l.entry-index l.column)
