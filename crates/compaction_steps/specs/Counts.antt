-- Bounds on the records that a compaction makes while it visits keys.
use Rattle.std.specs.Prelude.{◌≡◌, ℕ, ◌+◌, ◌*◌, ◌<◌, ◌≤◌, List, length}
use Rattle.std.specs.List.{AllByRecursion}
use Rattle.store_api.specs.Ledgers.{Ledger}
use Rattle.index_model.specs.Columns.{column_of}
use Rattle.attr_types.specs.Table.{Table}
use Rattle.attr_types.specs.declared.field.Field.{Field}
use Rattle.attr_types.specs.declared.kind.Kind.TheVariants.{Single}
use Rattle.attr_types.specs.declared.kind.ValueType.TheVariants.{Long}
use Rattle.compaction_moves.specs.Counts.{key_nodes, most_nodes, IsLowColumn}
use Rattle.value_index.specs.Counts.{by_width, record_sum}

-- of each width at most this many entries were made, and at most this many buffers were taken
pub record RisesBy {H : Type 0} (old new : Ledger H) (most : ℕ → ℕ) : Type 0 where
  pub made : (width : ℕ) → (new.of_width width).made ≤ (old.of_width width).made + most width
  pub buffers : (width : ℕ) → (new.of_width width).buffers ≤ (old.of_width width).buffers + most width

-- each attribute is of kind single, with long values
abbrev pub AreSingleLong : List Field → Type 0
AreSingleLong fields = AllByRecursion (λ field. (field.kind ≡ Single) × (field.value ≡ Long)) fields

-- no tree of these attributes has more levels
abbrev pub AreLow : ℕ → List Field → Table → Type 0
AreLow levels fields table = (field : ℕ) → field < length fields → IsLowColumn levels (column_of field table)

-- bounds for this many keys of attributes with this table: for each key the nodes of its move and one other record. If no
-- list is a bit vector (`plain`), then the nodes are those of trees of 8 levels, or fewer by their levels, and attributes
-- of kind single with long values make no other record of more than 16 words
pub record MakesKeys {H : Type 0} (plain : Type 0) (fields : List Field) (table : Table) (old new : Ledger H) (keys : ℕ) : Type 0 where
  pub records : ℕ → ℕ
  pub few : record_sum records ≤ keys
  pub narrow : plain → AreSingleLong fields → (width : ℕ) → 16 < width → records width ≡ 0
  pub counts : RisesBy old new (by_width (most_nodes * keys) records)
  pub trees : plain → RisesBy old new (by_width (key_nodes 8 * keys) records)
  pub low : plain → (levels : ℕ) → AreLow levels fields table → RisesBy old new (by_width (key_nodes levels * keys) records)
