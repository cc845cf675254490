-- The items and values of given documents, and the documents themselves.
use Rattle.std.specs.Prelude.{ℕ, List, [], map, filter, take, nat_le, Option, slice_get, option_map, unwrap_or}
use Rattle.std.specs.Map.{keys_of}
use Rattle.attr_types.specs.Query.{items_in}
use Rattle.attr_types.specs.Table.{Table, document_at}
use Rattle.attr_types.specs.declared.items.Item.{Item}
use Rattle.attr_types.specs.declared.value.Value.{Value}

-- the items of a document in the attribute with this number; a document that does not exist has none
abbrev pub items_of : ℕ → Table → ℕ → List Item
items_of field table doc = items_in (unwrap_or (document_at table doc) []) field

-- the items of each of these documents, in their order
abbrev pub values : ℕ → List ℕ → Table → List (List Item)
values field docs table = map (items_of field table) docs

-- the value of the first of some items, if there is one
abbrev pub first_value : List Item → Option Value
first_value items = option_map (λ item. item.value) (slice_get items 0)

-- the value of a document in a single attribute, if it has one; in another attribute, the value of its first item
abbrev pub value_of : ℕ → Table → ℕ → Option Value
value_of field table doc = first_value (items_of field table doc)

-- the first `count` documents of a table that are not below `first`
abbrev pub documents_from : ℕ → ℕ → Table → List ℕ
documents_from first count table = take count (filter (nat_le first) (keys_of table))
