-- The items in a list or an object of JSON.
use Rattle.std.specs.Prelude.{ℕ, pos, List, [], ◌∷◌, map, if◌then◌else◌, is_some, Result, Ok, Err}
use Rattle.serde_json.specs.Data.{Data, null, boolean, number, string, array, object}
use Rattle.serde_json.specs.Data.{Items, no_items, item, Members, no_members, member}
use Rattle.serde_json.specs.Events.{items_len, members_len}
use Rattle.serde_json.specs.Find.{as_null, as_array, as_object}
use Rattle.attr_types.specs.Change.{with_item}
use Rattle.attr_types.specs.declared.value.Value.{Value}
use Rattle.attr_types.specs.declared.items.Item.{Item}
use Rattle.attr_types.specs.declared.kind.Kind.{Kind}
use Rattle.attr_types.specs.declared.kind.Kind.TheVariants.{Single, Array, WeightedSet}
use Rattle.attr_types.specs.declared.kind.ValueType.{ValueType}
use Rattle.feed_reader.specs.declared.refusal.Refusal.{Refusal}
use Rattle.feed_reader.specs.declared.refusal.Refusal.TheVariants.{BadValue}
use Rattle.feed_reader.specs.Answers.{◌>>=◌, or_else}
use Rattle.feed_reader.specs.Values.{value_read, name_read, weight_read}

-- the values of a list, in order
unfoldable pub values_read : ValueType → Items → Result (List Value) Refusal
values_read value_type no_items = Ok []
values_read value_type (item d ds) = do
  value ← value_read value_type d
  values ← values_read value_type ds
  Ok (value ∷ values)

-- the values that are the names of an object's members, in their order, with any contents
unfoldable pub names_read : ValueType → Members → Result (List Value) Refusal
names_read value_type no_members = Ok []
names_read value_type (member name d ms) = do
  value ← name_read value_type name
  values ← names_read value_type ms
  Ok (value ∷ values)

-- the items of an object from value to weight, each inserted among those before it, ascending by value
unfoldable pub weighted_after : ValueType → List Item → Members → Result (List Item) Refusal
weighted_after value_type items no_members = Ok items
weighted_after value_type items (member name d ms) = do
  value ← name_read value_type name
  weight ← weight_read d
  weighted_after value_type (with_item items (record { value = value; weight = weight })) ms

abbrev pub set_read : ValueType → Data → Result (List Item) Refusal
set_read value_type d = or_else BadValue (as_object d) >>= weighted_after value_type []

-- a value of an attribute without weights
abbrev pub plain_item : Value → Item
plain_item value = record { value = value; weight = pos 1 }

abbrev pub list_read : ValueType → Data → Result (List Item) Refusal
list_read value_type d = do
  ds ← or_else BadValue (as_array d)
  values ← values_read value_type ds
  Ok (map plain_item values)

abbrev pub one_read : ValueType → Data → Result (List Item) Refusal
one_read value_type d = do
  value ← value_read value_type d
  Ok (plain_item value ∷ [])

abbrev pub some_items_read : Kind → ValueType → Data → Result (List Item) Refusal
some_items_read Single value_type d = one_read value_type d
some_items_read Array value_type d = list_read value_type d
some_items_read WeightedSet value_type d = set_read value_type d

-- the form of the items of each kind; for every kind, `null` means no items
unfoldable pub items_read : Kind → ValueType → Data → Result (List Item) Refusal
items_read kind value_type d = if is_some (as_null d) then Ok [] else some_items_read kind value_type d

-- the values that a removal names: in a list, or as the names of an object
unfoldable pub taken_read : ValueType → Data → Result (List Value) Refusal
taken_read value_type (array ds) = values_read value_type ds
taken_read value_type (object ms) = names_read value_type ms
taken_read value_type null = Err BadValue
taken_read value_type (boolean b) = Err BadValue
taken_read value_type (number n) = Err BadValue
taken_read value_type (string s) = Err BadValue

-- the number of members of a list, including equal ones, or the number of distinct names of an object
abbrev pub member_count : Data → ℕ
member_count (array ds) = items_len ds
member_count (object ms) = members_len ms
member_count null = 0
member_count (boolean b) = 0
member_count (number n) = 0
member_count (string s) = 0
