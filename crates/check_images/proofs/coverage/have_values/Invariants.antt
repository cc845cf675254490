use Rattle.std.proofs.Common.{take}
use Rattle.std.specs.Prelude.{Contains}
use Rattle.std.specs.List.{AllByRecursion}
use Rattle.attr_types.specs.declared.items.Item.{Item}
use Rattle.check_images.proofs.coverage.have_values.Given as goal

abbrev pub invariant-loop-item : goal.invariant-loop-item
invariant-loop-item l = AllByRecursion (λ (item : Item). Contains l.values item.value) (take l.item-index l.items)
