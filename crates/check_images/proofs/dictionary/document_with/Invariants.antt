use Rattle.std.proofs.Common.{◌≡◌, drop}
use Rattle.std.specs.List.{find}
use Rattle.std.specs.Ordering.{is_eq}
use Rattle.attr_types.specs.Value.{value_cmp}
use Rattle.attr_types.specs.declared.items.Item.{Item}
use Rattle.check_images.proofs.dictionary.document_with.Given as goal

-- the first of the items that are left is the first of all
abbrev pub invariant-loop-item : goal.invariant-loop-item
invariant-loop-item l =
    find (λ (item : Item). is_eq (value_cmp l.value item.value)) (drop l.item-index l.items) ≡ find (λ (item : Item). is_eq (value_cmp l.value item.value)) l.items
