-- The widths for which a change of a document's items may be refused.
use Rattle.std.specs.Prelude.{◌⊎◌, Bool, ℕ, List, length, IsSome}
use Rattle.attr_field.specs.DocumentsChanges.{IsDocumentWidth}
use Rattle.index_model.specs.Columns.{Column, documents_with}
use Rattle.index_model.specs.Index.{weight_in}
use Rattle.attr_types.specs.declared.items.Item.{Item}
use Rattle.attr_types.specs.declared.kind.Kind.{Kind}
use Rattle.attr_types.specs.declared.value.Value.{Value}
use Rattle.value_index.specs.Changes.{IsValueWidth}

-- the width of a record that an image of a column has for a value of these items
pub record IsWidthInColumn (dense : Bool) (column : Column) (before after : List Item) (width : ℕ) : Type 0 where
  pub value : Value
  pub had : IsSome (weight_in value before) ⊎ IsSome (weight_in value after)
  pub is : IsValueWidth dense value (length (documents_with value column)) width

-- by the column after a change: the width of nodes, of the document's record, or of a record for a value that the
-- document had or has
abbrev pub IsFieldWidth : Bool → Kind → Column → List Item → List Item → ℕ → Type 0
IsFieldWidth dense kind column before after width =
    IsDocumentWidth kind (length after) width ⊎ IsWidthInColumn dense column before after width
