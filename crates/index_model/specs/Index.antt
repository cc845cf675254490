-- The index of a column: each value of its items with the documents that have it; and how one posting is added or
-- removed.
use Rattle.std.specs.Prelude.{◌≡◌, ◌↔◌, ◌<◌, ℕ, ℤ, List, [], ◌∷◌, length, Contains, Option, unwrap_or, option_map}
use Rattle.std.specs.BTreeMap.{insert_entry, is_at}
use Rattle.std.specs.List.{find, AllByRecursion}
use Rattle.std.specs.List.Sorted.{IsStrictlySortedBy}
use Rattle.std.specs.Map.{keys_of, lookup, remove_entry}
use Rattle.std.specs.Ordering.{nat_cmp, is_eq}
use Rattle.attr_types.specs.Value.{value_cmp}
use Rattle.attr_types.specs.declared.items.Item.{Item}
use Rattle.attr_types.specs.declared.value.Value.{Value}
use Rattle.index_model.specs.Columns.{Column, column_values, documents_with}

abbrev pub Index : Type 0
Index = List (Value × List (ℕ × ℤ))

-- an index has exactly the values of a column
abbrev pub HasValues : Column → Index → Type 0
HasValues column index = (value : Value) → Contains (keys_of index) value ↔ Contains (column_values column) value

abbrev pub HasLists : Column → Index → Type 0
HasLists column index = AllByRecursion (λ e. e.1 ≡ documents_with e.0 column) index

-- the weight of a value in items: that of the first item with the value
abbrev pub weight_in : Value → List Item → Option ℤ
weight_in value items = option_map (λ item. item.weight) (find (λ item. is_eq (value_cmp value item.value)) items)

-- the documents of a value in an index; none if the index lacks the value
abbrev pub list_of : Value → Index → List (ℕ × ℤ)
list_of value index = unwrap_or (lookup (is_at (value_cmp value)) index) []

-- the index with this list for a value, or without the value if the list is empty
abbrev pub with_list : Value → List (ℕ × ℤ) → Index → Index
with_list value [] index = remove_entry (is_at (value_cmp value)) index
with_list value (first ∷ rest) index = insert_entry value_cmp index value (first ∷ rest)

-- a document is added to the list of a value, or its weight there is replaced
abbrev pub with_posting : Value → ℕ → ℤ → Index → Index
with_posting value doc weight index = with_list value (insert_entry nat_cmp (list_of value index) doc weight) index

-- a document is removed from the list of a value
abbrev pub without_posting : Value → ℕ → Index → Index
without_posting value doc index = with_list value (remove_entry (is_at (nat_cmp doc)) (list_of value index)) index

-- values ascend, and the documents of each value ascend; each value has at least one document
pub record IsFormed (index : Index) : Type 0 where
  pub ascends : IsStrictlySortedBy value_cmp (keys_of index)
  pub filled : AllByRecursion (λ e. 0 < length e.1) index
  pub lists_ascend : AllByRecursion (λ e. IsStrictlySortedBy nat_cmp (keys_of e.1)) index

-- the index is that of the column
pub record IsIndexOf (column : Column) (index : Index) : Type 0 where
  pub formed : IsFormed index
  pub lists : (value : Value) → list_of value index ≡ documents_with value column
