-- Bounds on the spare entries of a store that refused an operation, by the values of the operation.
use Rattle.std.specs.Prelude.{◌≡◌, Bool, true, ℕ, ℤ, ◌+◌, ◌*◌, ◌<◌, ◌≤◌, List, [], ◌∷◌, length}
use Rattle.std.specs.List.{AllByRecursion}
use Rattle.arena_api.specs.Works.{free_count}
use Rattle.store_api.specs.Ledgers.{Ledger}
use Rattle.attr_field.specs.Counts.{lost_values}
use Rattle.image_format.specs.declared.TheConstants.{LEAST_DENSE}
use Rattle.index_model.specs.Columns.{Column, column_of, documents_with}
use Rattle.attr_types.specs.Table.{Table}
use Rattle.attr_types.specs.declared.field.Field.{Field}
use Rattle.attr_types.specs.declared.kind.Kind.TheVariants.{Single}
use Rattle.attr_types.specs.declared.op.Op.{Op}
use Rattle.attr_types.specs.declared.value.Value.{Value}
use Rattle.attribute_kinds.specs.declared.answers.AttrError.{AttrError}
use Rattle.attribute_kinds.specs.declared.answers.AttrError.TheVariants.{Full, CommitsSpent, Memory}
use Rattle.value_index.specs.Counts.{besides, by_width}
use Rattle.attr_operations.specs.Counts.{weights_at, document_before, document_after}
use Rattle.attr_operations.specs.Counts.{operation_forms, operation_nodes, operation_records}
use Rattle.attr_operations.specs.Widths.{IsOperationWidth}

-- the number of distinct values of the document's items before or after the operation, in the first attribute
abbrev pub distinct_values : List (Value × ℤ) → List (Value × ℤ) → ℕ
distinct_values old new = length new + lost_values old new

abbrev pub operation_values : List Field → Table → Op → ℕ
operation_values fields table op = distinct_values (weights_at (document_before table op) 0) (weights_at (document_after fields table op) 0)

-- these values have so few documents that one more makes no bit vector
abbrev pub AreShort : Column → List (Value × ℤ) → Type 0
AreShort column entries = AllByRecursion (λ e. 1 + length (documents_with e.0 column) < LEAST_DENSE) entries

-- bit vectors are not wanted, or no value of the document before or after the operation has so many documents, in the
-- first attribute
abbrev pub IsSparse : Bool → List Field → Table → Op → Type 0
IsSparse dense fields table op = dense ≡ true
    → AreShort (column_of 0 table) (weights_at (document_before table op) 0)
    × AreShort (column_of 0 table) (weights_at (document_after fields table op) 0)

-- bit vectors are not wanted, or the table has so few documents that no list is one
abbrev pub HasNoVectors : Bool → Table → Type 0
HasNoVectors dense table = dense ≡ true → length table < LEAST_DENSE

-- a full store has few spare entries of the width at the end of the call; with one attribute, the bound depends on
-- the values alone if lists are sparse
pub record SparesFew {H : Type 0} (dense : Bool) (new : Ledger H) (fields : List Field) (table : Table) (op : Op) (width : ℕ)
    : Type 0 where
  pub few : (new.of_width width).spare
      ≤ besides (by_width (operation_nodes fields table op) (operation_records fields table op))
      (operation_forms dense fields table op) width
  pub one : IsSparse dense fields table op → length fields ≡ 1
      → (new.of_width width).spare < 34 * (operation_values fields table op + 1)

abbrev pub SparesOf : {H : Type 0} → Bool → Ledger H → List Field → Table → Op → AttrError → Type 0
SparesOf dense new fields table op (Full width active held oldest) = SparesFew dense new fields table op width
SparesOf dense new fields table op (CommitsSpent commit) = Unit {0}
SparesOf dense new fields table op Memory = Unit {0}

-- the store was full for the width of nodes, or of a record that an image of the table after the operation has for
-- the document or for a value that the document had or has; if bit vectors are wanted, also for that of blocks
abbrev pub NamesWidth : Bool → List Field → Table → Op → AttrError → Type 0
NamesWidth dense fields table op (Full width active held oldest) = IsOperationWidth dense fields table op width
NamesWidth dense fields table op (CommitsSpent commit) = Unit {0}
NamesWidth dense fields table op Memory = Unit {0}

-- there is one attribute, of kind single
abbrev pub IsOneSingle : List Field → Type 0
IsOneSingle [] = ⊥
IsOneSingle (field ∷ []) = field.kind ≡ Single
IsOneSingle (field ∷ next ∷ fields) = ⊥

-- with one attribute of kind single and sparse lists, the store was full only if fewer than six buffers were free before
abbrev pub LacksBuffers : {H : Type 0} → Bool → Ledger H → List Field → Table → Op → AttrError → Type 0
LacksBuffers dense old fields table op (Full width active held oldest) = IsSparse dense fields table op → IsOneSingle fields
    → free_count old.work.buffer old.work.sizes.buffers < 6
LacksBuffers dense old fields table op (CommitsSpent commit) = Unit {0}
LacksBuffers dense old fields table op Memory = Unit {0}
