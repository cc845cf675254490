-- The widths for which an operation may be refused.
use Rattle.std.specs.Prelude.{◌≡◌, Bool, false, ℕ, List, slice_get, Option, Some}
use Rattle.store_api.specs.declared.store.StoreError.{StoreError}
use Rattle.store_api.specs.declared.store.StoreError.TheVariants as errors
use Rattle.attr_field.specs.Forms.{wants}
use Rattle.attr_field.specs.Widths.{IsFieldWidth}
use Rattle.index_model.specs.Columns.{column_of}
use Rattle.attr_types.specs.Table.{Table, after_op, is_skipped}
use Rattle.attr_types.specs.Value.{Document}
use Rattle.attr_types.specs.declared.field.Field.{Field}
use Rattle.attr_types.specs.declared.op.Op.{Op}
use Rattle.attr_operations.specs.Counts.{document_after, document_before, items_if_there}

-- by the table after a document's change: a width for which the change in one attribute may be refused
pub record IsChangedWidth (dense : Bool) (fields : List Field) (table : Table) (before after : Option Document) (width : ℕ) : Type 0 where
  pub number : ℕ
  pub field : Field
  pub field_is : slice_get fields number ≡ Some field
  pub is : IsFieldWidth (wants dense field.kind) field.kind (column_of number table) (items_if_there before number)
      (items_if_there after number) width

-- by the table before an operation, which is not skipped
pub record IsOperationWidth (dense : Bool) (fields : List Field) (table : Table) (op : Op) (width : ℕ) : Type 0 where
  pub changes : is_skipped fields table op ≡ false
  pub is : IsChangedWidth dense fields (after_op fields table op) (document_before table op) (document_after fields table op) width

-- if the store was full, it was full for such a width
abbrev pub IsFullAmong : (ℕ → Type 0) → StoreError → Type 0
IsFullAmong among (errors.Full width active held oldest) = among width
IsFullAmong among errors.Memory = Unit {0}
