-- How a change affects the items of a document in one attribute.
-- Changes are those of Vespa's document JSON format, on the collection types of attributes:
-- docs.vespa.ai/en/reference/document-json-format.html and docs.vespa.ai/en/attributes.html.
use Rattle.std.specs.Prelude.{ℕ, ℤ, pos, ◌+ℤ◌, neg_ℤ, int_le, int_lt, ◌^◌, Bool, ◌&&◌, List, [], ◌∷◌, ◌++◌}
use Rattle.std.specs.Prelude.{length, filter, not, nat_le, Option, Some, None, option_map, option_and_then}
use Rattle.std.specs.Prelude.{slice_get, slice_set, if◌then◌else◌}
use Rattle.std.specs.List.{list_any, position}
use Rattle.std.specs.Ordering.{is_eq, match_ordering}
use Rattle.attr_types.specs.Value.{value_cmp}
use Rattle.attr_types.specs.declared.change.Act.{Act}
use Rattle.attr_types.specs.declared.change.Act.TheVariants as acts
use Rattle.attr_types.specs.declared.change.Change.{Change}
use Rattle.attr_types.specs.declared.change.Change.TheVariants.{Keep, Assign, Add, Take, Shift, At, Of}
use Rattle.attr_types.specs.declared.change.WeightAct.{WeightAct}
use Rattle.attr_types.specs.declared.change.WeightAct.TheVariants as weights
use Rattle.attr_types.specs.declared.items.Item.{Item}
use Rattle.attr_types.specs.declared.kind.Kind.{Kind}
use Rattle.attr_types.specs.declared.kind.Kind.TheVariants.{Single, Array, WeightedSet}
use Rattle.attr_types.specs.declared.kind.ValueType.{ValueType}
use Rattle.attr_types.specs.declared.kind.ValueType.TheVariants as types
use Rattle.attr_types.specs.declared.value.Value.{Value}
use Rattle.attr_types.specs.declared.value.Value.TheVariants as values

-- a weighted set after an item is inserted in the order of values, or replaces the weight of its value
abbrev pub with_item : List Item → Item → List Item
with_item [] item = item ∷ []
with_item (first ∷ items) item = match_ordering (value_cmp item.value first.value)
    (item ∷ first ∷ items) (record first { weight = item.weight } ∷ items) (first ∷ with_item items item)

-- a weighted set after items are inserted, one after another
abbrev pub with_items : List Item → List Item → List Item
with_items items [] = items
with_items items (item ∷ more) = with_items (with_item items item) more

abbrev pub is_named : List Value → Item → Bool
is_named names item = list_any (λ name. is_eq (value_cmp name item.value)) names

-- the items whose values are not named
abbrev pub without_values : List Item → List Value → List Item
without_values items names = filter (λ item. not (is_named names item)) items

-- a limit of this engine: a document has at most 1,023 items in an attribute
abbrev pub most_items : ℕ
most_items = 1023

abbrev pub if_within_limit : List Item → Option (List Item)
if_within_limit items = if nat_le (length items) most_items then Some items else None

-- the number, if it is at least - 2 ^ bits and below 2 ^ bits
abbrev pub if_signed : ℕ → ℤ → Option ℤ
if_signed bits number =
    if int_le (neg_ℤ (pos (2 ^ bits))) number && int_lt number (pos (2 ^ bits)) then Some number else None

-- a whole number plus an amount, if the result fits in 64 signed bits
abbrev pub shifted : ℤ → Value → Option Value
shifted amount (values.Long number) = option_map values.Long (if_signed 63 (number +ℤ amount))
shifted amount (values.Text text) = None

abbrev pub new_value : Act → Value → Option Value
new_value (acts.Set value) old = Some value
new_value (acts.Shift amount) old = shifted amount old

-- the weight after a change, if the result fits in 32 signed bits
abbrev pub new_weight : WeightAct → ℤ → Option ℤ
new_weight (weights.Set weight) old = Some weight
new_weight (weights.Shift amount) old = if_signed 31 (old +ℤ amount)

abbrev pub with_new_value : Act → Item → Option Item
with_new_value act item = option_map (λ value. record item { value = value }) (new_value act item.value)

abbrev pub with_new_weight : WeightAct → Item → Option Item
with_new_weight act item = option_map (λ weight. record item { weight = weight }) (new_weight act item.weight)

-- the items after the one at a place is changed; none if there is no item or the item has no change
abbrev pub changed_at : (Item → Option Item) → List Item → ℕ → Option (List Item)
changed_at change items place = option_map (slice_set items place) (option_and_then change (slice_get items place))

-- the index of a value
abbrev pub place_of : Value → List Item → Option ℕ
place_of value items = position (λ item. is_eq (value_cmp value item.value)) items

-- the items after a change; none if the change is skipped, also because it does not fit the attribute
abbrev pub changed : Kind → ValueType → Change → List Item → Option (List Item)
changed kind type Keep items = Some items
changed kind type (Assign others) items = Some others
changed Single type (Add more) items = None
changed Array type (Add more) items = if_within_limit (items ++ more)
changed WeightedSet type (Add more) items = if_within_limit (with_items items more)
changed Single type (Take names) items = None
changed Array type (Take names) items = None
changed WeightedSet type (Take names) items = Some (without_values items names)
changed Single types.Long (Shift amount) items = changed_at (with_new_value (acts.Shift amount)) items 0
changed Single types.Text (Shift amount) items = None
changed Array type (Shift amount) items = None
changed WeightedSet type (Shift amount) items = None
changed Single type (At index act) items = None
changed Array type (At index act) items = changed_at (with_new_value act) items index
changed WeightedSet type (At index act) items = None
changed Single type (Of value act) items = None
changed Array type (Of value act) items = None
changed WeightedSet type (Of value act) items =
    option_and_then (changed_at (with_new_weight act) items) (place_of value items)
