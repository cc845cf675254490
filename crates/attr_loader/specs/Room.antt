-- Bounds on what the loading of one attribute makes in its store, by the steps made so far.
use Rattle.std.specs.Prelude.{◌≡◌, ℕ, ◌+◌, ◌<◌, ◌≤◌, Bool, true, false, ◌&&◌, List, [], ◌∷◌, length}
use Rattle.std.specs.List.{sum_by}
use Rattle.store_api.specs.Ledgers.{Ledger, no_counts}
use Rattle.image_format.specs.declared.TheConstants.{LEAST_DENSE}
use Rattle.index_model.specs.Changes.{first_weights}
use Rattle.index_model.specs.Columns.{Column, column_of}
use Rattle.attr_loader.specs.Made.{Steps, HasFewLong, HasMade, IsWithin, after_operation, is_width}
use Rattle.attr_loader.specs.Runs.{Load, capacity}
use Rattle.attr_types.specs.Lawful.{DocumentsHaveType, IsLawfulTable}
use Rattle.attr_types.specs.Table.{Table, after_op}
use Rattle.attr_types.specs.declared.field.Field.{Field}
use Rattle.attr_types.specs.declared.kind.Kind.{Kind}
use Rattle.attr_types.specs.declared.kind.Kind.TheVariants.{Single, Array, WeightedSet}
use Rattle.attr_types.specs.declared.kind.ValueType.{ValueType}
use Rattle.attr_types.specs.declared.kind.ValueType.TheVariants as types
use Rattle.attr_types.specs.declared.op.Op.{Op}
use Rattle.attribute_kinds.specs.Counts.{operation_values}

-- one attribute, of kind single with long values
abbrev pub is_single : Kind → Bool
is_single Single = true
is_single Array = false
is_single WeightedSet = false

abbrev pub is_long : ValueType → Bool
is_long types.Long = true
is_long types.Text = false

abbrev pub is_single_long : List Field → Bool
is_single_long [] = false
is_single_long (field ∷ []) = is_single field.kind && is_long field.value
is_single_long (field ∷ more ∷ fields) = false

-- for each operation, the number of distinct values in the items of its document, before it and after it
abbrev pub values_of : List Field → Table → List Op → List ℕ
values_of fields table [] = []
values_of fields table (op ∷ ops) = operation_values fields table op ∷ values_of fields (after_op fields table op) ops

-- operations that are loaded, and the buffers and the words of each
abbrev pub load_of : ℕ → ℕ → List Field → ℕ → List Op → Load
load_of buffers words fields batch ops = record {
  buffers = buffers;
  words = words;
  single_long = is_single_long fields;
  batch = batch;
  values = values_of fields [] ops;
}

-- the values of the documents of a column, each counted once for each document that has it
abbrev pub column_weight : Column → ℕ
column_weight column = sum_by (λ e. length (first_weights [] e.1)) column

-- the steps after operations on this many values each
abbrev pub after_values : Steps → List ℕ → Steps
after_values steps [] = steps
after_values steps (t ∷ values) = after_values (after_operation steps t) values

-- nothing was made yet
pub record HasMadeNothing {H : Type 0} (ledger : Ledger H) : Type 0 where
  pub counts : (width : ℕ) → ledger.of_width width ≡ no_counts

-- bit vectors are not wanted, or these are so few operations that no list becomes one
abbrev pub AreSparse : Bool → Steps → Type 0
AreSparse dense steps = dense ≡ true → steps.operations < LEAST_DENSE

-- the store of one attribute has made at most what these steps allow, if they are sparse, and its table has at most as
-- many values and documents; without a compaction, it has made entries of these widths alone
pub record IsMade {H : Type 0} (dense : Bool) (ledger : Ledger H) (fields : List Field) (table : Table) (steps : Steps) : Type 0 where
  pub one : length fields ≡ 1
  pub most : ℕ → ℕ
  pub has : HasMade (is_single_long fields) steps most
  pub long : HasFewLong steps most
  pub plain : steps.keys ≡ 0 → (width : ℕ) → is_width width ≡ false → most width ≡ 0
  pub within : AreSparse dense steps → IsWithin most (λ width. (ledger.of_width width).made) (λ width. (ledger.of_width width).buffers)
  pub lawful : IsLawfulTable fields table
  pub typed : DocumentsHaveType fields table
  pub values : column_weight (column_of 0 table) ≤ steps.values
  pub documents : length (column_of 0 table) ≤ steps.operations

-- if the last operation was refused a record of 512 words, it made none of 1024
pub record IsRefusedBy {H : Type 0} (dense : Bool) (ledger : Ledger H) (fields : List Field) (table : Table) (steps : Steps) (width : ℕ)
    : Type 0 where
  pub made : IsMade dense ledger fields table steps
  pub apart : width ≡ 512 → made.most 1024 < steps.operations + steps.keys

-- what these steps make, without a compaction, fills no buffer of these widths
pub record LeavesRoom (words : ℕ) (single_long : Bool) (steps : Steps) : Type 0 where
  pub none : steps.keys ≡ 0
  pub each : (most : ℕ → ℕ) → HasMade single_long steps most → HasFewLong steps most
      → (width : ℕ) → is_width width ≡ true → most width < capacity words width
