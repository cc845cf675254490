-- A map from values to weights, as items.
use Rattle.std.specs.Prelude.{ℤ}
use Rattle.attr_types.specs.declared.items.Item.{Item}
use Rattle.attr_types.specs.declared.value.Value.{Value}

abbrev pub entry_item : Value × ℤ → Item
entry_item e = record { value = e.0; weight = e.1 }
