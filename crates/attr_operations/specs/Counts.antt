-- Bounds on the records that an operation makes, and on the spare entries of a store that refused it.
use Rattle.std.specs.Prelude.{Bool, ℕ, ℤ, zero, suc, ◌+◌, ◌<◌, ◌≤◌, List, [], length, slice_get, Option, option_map, unwrap_or}
use Rattle.store_api.specs.Ledgers.{Ledger}
use Rattle.store_api.specs.declared.store.StoreError.{StoreError}
use Rattle.store_api.specs.declared.store.StoreError.TheVariants as errors
use Rattle.store_api.specs.Units.{MakesWithin}
use Rattle.attr_field.specs.Counts.{change_forms, change_records, field_nodes, low_nodes, StaysLow}
use Rattle.attr_field.specs.Forms.{wants}
use Rattle.index_model.specs.Changes.{first_weights}
use Rattle.index_model.specs.Columns.{column_of}
use Rattle.attr_types.specs.Query.{items_in}
use Rattle.attr_types.specs.Table.{Table, after_op, document_at, op_doc}
use Rattle.attr_types.specs.Value.{Document}
use Rattle.attr_types.specs.declared.field.Field.{Field}
use Rattle.attr_types.specs.declared.items.Item.{Item}
use Rattle.attr_types.specs.declared.kind.Kind.{Kind}
use Rattle.attr_types.specs.declared.kind.Kind.TheVariants.{Single}
use Rattle.attr_types.specs.declared.op.Op.{Op}
use Rattle.attr_types.specs.declared.value.Value.{Value}
use Rattle.value_index.specs.Counts.{besides, by_width}

-- the items of a document in the attribute with this number, or none if it does not exist; and their values, with
-- first weights
abbrev pub items_if_there : Option Document → ℕ → List Item
items_if_there document field = unwrap_or (option_map (λ d. items_in d field) document) []

abbrev pub weights_at : Option Document → ℕ → List (Value × ℤ)
weights_at document field = first_weights [] (items_if_there document field)

-- the kind of the attribute with this number
abbrev pub kind_at : List Field → ℕ → Kind
kind_at fields field = unwrap_or (option_map (λ f. f.kind) (slice_get fields field)) Single

-- bounds on what the change of a document makes: nodes, and other records by width; sums over the first attributes
abbrev pub document_nodes : Option Document → Option Document → ℕ → ℕ
document_nodes old new zero = 0
document_nodes old new (suc field) = document_nodes old new field + field_nodes (weights_at old field) (weights_at new field)

abbrev pub document_records : List Field → Table → ℕ → Option Document → Option Document → ℕ → ℕ → ℕ
document_records fields table doc old new zero width = 0
document_records fields table doc old new (suc field) width = document_records fields table doc old new field width
    + change_records (kind_at fields field) (column_of field table) doc (items_if_there old field) (items_if_there new field) width

-- and on what lists need besides that may be bit vectors
abbrev pub document_forms : Bool → List Field → Table → ℕ → Option Document → Option Document → ℕ → ℕ → ℕ
document_forms dense fields table doc old new zero width = 0
document_forms dense fields table doc old new (suc field) width = document_forms dense fields table doc old new field width
    + change_forms (wants dense (kind_at fields field)) (column_of field table) doc (items_if_there old field)
    (items_if_there new field) width

-- no tree of the first attributes gets more levels while the document is changed to this one, by the number of values
-- and of documents of each
abbrev pub StayLow : ℕ → Table → Option Document → ℕ → Type 0
StayLow levels table after count = (field : ℕ) → field < count → StaysLow levels (column_of field table) (weights_at after field)

-- a bound on the nodes that the change of a document then makes
abbrev pub low_document : ℕ → Option Document → Option Document → ℕ → ℕ
low_document levels old new zero = 0
low_document levels old new (suc field) = low_document levels old new field + low_nodes levels (weights_at old field) (weights_at new field)

-- bounds on what a change of a document makes in the first `count` attributes: for any trees, and for trees with few
-- levels
pub record MakesDocument {H : Type 0} (dense : Bool) (old new : Ledger H) (fields : List Field) (table : Table) (doc : ℕ)
    (before after : Option Document) (count : ℕ) : Type 0 where
  pub few : MakesWithin old new
      (besides (by_width (document_nodes before after count) (document_records fields table doc before after count))
      (document_forms dense fields table doc before after count))
  pub low : (levels : ℕ) → StayLow levels table after count → MakesWithin old new
      (besides (by_width (low_document levels before after count) (document_records fields table doc before after count))
      (document_forms dense fields table doc before after count))

-- if a store was full for a width, at most this many entries of it are spare at the end of the call
abbrev pub SparesAtMost : {H : Type 0} → Ledger H → (ℕ → ℕ) → StoreError → Type 0
SparesAtMost new most (errors.Full width active held oldest) = (new.of_width width).spare ≤ most width
SparesAtMost new most errors.Memory = Unit {0}

-- the document that an operation changes, before it and after it
abbrev pub document_before : Table → Op → Option Document
document_before table op = document_at table (op_doc op)

abbrev pub document_after : List Field → Table → Op → Option Document
document_after fields table op = document_at (after_op fields table op) (op_doc op)

abbrev pub operation_nodes : List Field → Table → Op → ℕ
operation_nodes fields table op = document_nodes (document_before table op) (document_after fields table op) (length fields)

abbrev pub operation_records : List Field → Table → Op → ℕ → ℕ
operation_records fields table op =
    document_records fields table (op_doc op) (document_before table op) (document_after fields table op) (length fields)

abbrev pub operation_forms : Bool → List Field → Table → Op → ℕ → ℕ
operation_forms dense fields table op =
    document_forms dense fields table (op_doc op) (document_before table op) (document_after fields table op) (length fields)

-- bounds on what an operation makes, and on what is spare if it was refused
abbrev pub MakesOperation : {H : Type 0} → Bool → Ledger H → Ledger H → List Field → Table → Op → Type 0
MakesOperation dense old new fields table op =
    MakesDocument dense old new fields table (op_doc op) (document_before table op) (document_after fields table op) (length fields)

abbrev pub SparesOperation : {H : Type 0} → Bool → Ledger H → List Field → Table → Op → StoreError → Type 0
SparesOperation dense new fields table op error =
    SparesAtMost new (besides (by_width (operation_nodes fields table op) (operation_records fields table op))
    (operation_forms dense fields table op)) error
