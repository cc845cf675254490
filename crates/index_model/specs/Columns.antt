-- The part of a table that belongs to one attribute.
use Rattle.std.specs.Prelude.{ℕ, ℤ, List, [], ◌∷◌, map, Option, None, Some, unwrap_or, option_map}
use Rattle.std.specs.BTreeMap.{insert_entry, is_at}
use Rattle.std.specs.List.{find, filter_map, flat_map, AllByRecursion}
use Rattle.std.specs.List.Sorted.{IsStrictlySortedBy}
use Rattle.std.specs.Map.{keys_of, lookup, remove_entry}
use Rattle.std.specs.Ordering.{nat_cmp, is_eq}
use Rattle.attr_types.specs.Query.{items_in}
use Rattle.attr_types.specs.Lawful.{IsDocNumber, IsLawfulItems}
use Rattle.attr_types.specs.Table.{Table}
use Rattle.attr_types.specs.Value.{value_cmp, values_of}
use Rattle.attr_types.specs.declared.items.Item.{Item}
use Rattle.attr_types.specs.declared.kind.Kind.{Kind}
use Rattle.attr_types.specs.declared.value.Value.{Value}

-- the documents of a table, each with its items in one attribute
abbrev pub Column : Type 0
Column = List (ℕ × List Item)

-- documents ascend, and each has lawful items
pub record IsLawfulColumn (kind : Kind) (column : Column) : Type 0 where
  pub ascends : IsStrictlySortedBy nat_cmp (keys_of column)
  pub numbers : AllByRecursion IsDocNumber (keys_of column)
  pub items : AllByRecursion (λ e. IsLawfulItems kind e.1) column

-- the table of a single attribute: each document has one list of items
abbrev pub table_of_column : Column → Table
table_of_column column = map (λ e. (e.0, e.1 ∷ [])) column

-- the column of the attribute with this number
abbrev pub column_of : ℕ → Table → Column
column_of i table = map (λ e. (e.0, items_in e.1 i)) table

-- the values of the items of a column
abbrev pub column_values : Column → List Value
column_values column = flat_map (λ e. values_of e.1) column

-- the documents that have a value, each with the weight of its first item with that value
abbrev pub documents_with : Value → Column → List (ℕ × ℤ)
documents_with value column =
    filter_map (λ e. option_map (λ item. (e.0, item.weight)) (find (λ item. is_eq (value_cmp value item.value)) e.1)) column

-- the items of a document, or none if it does not exist
abbrev pub items_of : Column → ℕ → List Item
items_of column doc = unwrap_or (lookup (is_at (nat_cmp doc)) column) []

-- the column after a document's items change, or without the document
abbrev pub with_change : Column → ℕ → Option (List Item) → Column
with_change column doc None = remove_entry (is_at (nat_cmp doc)) column
with_change column doc (Some items) = insert_entry nat_cmp column doc items
