-- The order of values, their types, and the values of items.
use Rattle.std.specs.Prelude.{◌≡◌, List, map}
use Rattle.std.specs.declared.cmp.Ordering.{Ordering}
use Rattle.std.specs.declared.cmp.Ordering.TheVariants.{Less, Greater}
use Rattle.std.specs.List.{AllByRecursion}
use Rattle.std.specs.Ordering.{nat_cmp, int_cmp}
use Rattle.std.specs.Cmp.Lexicographic.{slice_cmp}
use Rattle.attr_types.specs.declared.items.Item.{Item}
use Rattle.attr_types.specs.declared.kind.ValueType.{ValueType}
use Rattle.attr_types.specs.declared.kind.ValueType.TheVariants as types
use Rattle.attr_types.specs.declared.value.Value.{Value}
use Rattle.attr_types.specs.declared.value.Value.TheVariants as values

-- whole numbers by size, texts by their bytes; an attribute never has both, and in this order every number is below
-- every text
abbrev pub value_cmp : Value → Value → Ordering
value_cmp (values.Long a) (values.Long b) = int_cmp a b
value_cmp (values.Text a) (values.Text b) = slice_cmp nat_cmp a b
value_cmp (values.Long a) (values.Text b) = Less
value_cmp (values.Text a) (values.Long b) = Greater

abbrev pub type_of : Value → ValueType
type_of (values.Long a) = types.Long
type_of (values.Text a) = types.Text

abbrev pub AreOfType : ValueType → List Value → Type 0
AreOfType type list = AllByRecursion (λ value. type_of value ≡ type) list

-- the values of items
abbrev pub values_of : List Item → List Value
values_of items = map (λ item. item.value) items

-- a document, as its items in each attribute
abbrev pub Document : Type 0
Document = List (List Item)
