-- Items as a map from values to weights.
use Rattle.std.specs.Prelude.{ℤ, List, [], ◌∷◌, map}
use Rattle.std.specs.BTreeMap.{insert_entry}
use Rattle.attr_types.specs.Value.{value_cmp}
use Rattle.attr_types.specs.declared.items.Item.{Item}
use Rattle.attr_types.specs.declared.value.Value.{Value}

-- the weights of items by their values
abbrev pub weights_of : List Item → List (Value × ℤ)
weights_of items = map (λ item. (item.value, item.weight)) items

-- the weights after those of items are inserted, one after another
abbrev pub put_weights : List (Value × ℤ) → List Item → List (Value × ℤ)
put_weights weights [] = weights
put_weights weights (item ∷ items) = put_weights (insert_entry value_cmp weights item.value item.weight) items
