-- Bounds on the records that a change of one document's items makes, by what they are and by width.
use Rattle.std.specs.Prelude.{Bool, ℕ, ℤ, ◌+◌, ◌*◌, ◌^◌, ◌<◌, List, [], length, Option}
use Rattle.std.specs.BTreeMap.{is_at}
use Rattle.std.specs.Map.{lookup}
use Rattle.attr_field.specs.Items.{items_record}
use Rattle.index_model.specs.Changes.{first_weights}
use Rattle.index_model.specs.Columns.{Column, documents_with}
use Rattle.index_model.specs.Index.{Index, IsIndexOf}
use Rattle.attr_types.specs.Value.{value_cmp}
use Rattle.attr_types.specs.declared.items.Item.{Item}
use Rattle.attr_types.specs.declared.kind.Kind.{Kind}
use Rattle.attr_types.specs.declared.value.Value.{Value}
use Rattle.value_index.specs.Counts.{added_count, added_forms, added_records, besides, by_width, gone_count, gone_forms, gone_records}
use Rattle.value_index.specs.Counts.{value_nodes}

-- the weight of a value among entries
abbrev pub entry_weight : List (Value × ℤ) → Value → Option ℤ
entry_weight entries value = lookup (is_at (value_cmp value)) entries

-- the weight of a value of items, which is that of the first item with it
abbrev pub item_weights : List Item → Value → Option ℤ
item_weights items = entry_weight (first_weights [] items)

-- the number of values of a document that are new or get another weight, and the number of values that disappear
abbrev pub new_values : List (Value × ℤ) → List (Value × ℤ) → ℕ
new_values old new = added_count (entry_weight old) new

abbrev pub lost_values : List (Value × ℤ) → List (Value × ℤ) → ℕ
lost_values old new = gone_count (entry_weight new) old

-- a bound on the nodes that a document's change makes: in two trees for each such value, and in the tree of documents
abbrev pub field_nodes : List (Value × ℤ) → List (Value × ℤ) → ℕ
field_nodes old new = 34 * new_values old new + 17 + 34 * lost_values old new

-- bounds on the other records, by width, for a document that gets this many items: for each such value its list if
-- that is short, and its own record if no document had it; and one record for the items
abbrev pub field_records : Kind → Column → ℕ → ℕ → List (Value × ℤ) → List (Value × ℤ) → ℕ → ℕ
field_records kind column doc count old new width = added_records (λ value. documents_with value column) doc (entry_weight old) new width
    + items_record kind count width + gone_records (λ value. documents_with value column) doc (entry_weight new) old width

-- the same, by the items before and after
abbrev pub change_records : Kind → Column → ℕ → List Item → List Item → ℕ → ℕ
change_records kind column doc before after =
    field_records kind column doc (length after) (first_weights [] before) (first_weights [] after)

-- bounds on what lists need besides that may be bit vectors
abbrev pub field_forms : Bool → Column → ℕ → List (Value × ℤ) → List (Value × ℤ) → ℕ → ℕ
field_forms dense column doc old new width = added_forms dense (λ value. documents_with value column) doc (entry_weight old) new width
    + gone_forms dense (λ value. documents_with value column) doc (entry_weight new) old width

abbrev pub change_forms : Bool → Column → ℕ → List Item → List Item → ℕ → ℕ
change_forms dense column doc before after = field_forms dense column doc (first_weights [] before) (first_weights [] after)

-- no tree of an attribute gets more levels while a document gets these values, by the number of its values and of its
-- documents
pub record StaysLow (levels : ℕ) (column : Column) (new : List (Value × ℤ)) : Type 0 where
  pub some : 0 < levels
  pub values : (index : Index) → IsIndexOf column index → length index + length new < 2 * 8 ^ levels
  pub documents : length column + 1 < 2 * 8 ^ levels

-- a bound on the nodes that a change makes in such trees
abbrev pub low_nodes : ℕ → List (Value × ℤ) → List (Value × ℤ) → ℕ
low_nodes levels old new = value_nodes levels * new_values old new + (2 * levels + 1) + value_nodes levels * lost_values old new

-- what a change of a document's items makes at most, by width; and in trees that stay low
abbrev pub change_most : Bool → Kind → Column → ℕ → List Item → List Item → ℕ → ℕ
change_most dense kind column doc before after =
    besides (by_width (field_nodes (first_weights [] before) (first_weights [] after)) (change_records kind column doc before after))
    (change_forms dense column doc before after)

abbrev pub low_change_most : ℕ → Bool → Kind → Column → ℕ → List Item → List Item → ℕ → ℕ
low_change_most levels dense kind column doc before after =
    besides (by_width (low_nodes levels (first_weights [] before) (first_weights [] after)) (change_records kind column doc before after))
    (change_forms dense column doc before after)
