-- Bounds on the records that the move of one key makes.
use Rattle.std.specs.Prelude.{◌≡◌, ℕ, ◌+◌, ◌*◌, ◌^◌, ◌<◌, ◌≤◌, nat_eq, if◌then◌else◌, length}
use Rattle.store_api.specs.Ledgers.{Ledger}
use Rattle.store_api.specs.Units.{MakesWithin}
use Rattle.index_model.specs.Columns.{Column}
use Rattle.index_model.specs.Index.{Index, IsIndexOf}
use Rattle.attr_types.specs.declared.kind.Kind.{Kind}
use Rattle.attr_types.specs.declared.kind.Kind.TheVariants.{Single}
use Rattle.attr_types.specs.declared.kind.ValueType.{ValueType}
use Rattle.attr_types.specs.declared.kind.ValueType.TheVariants.{Long}
use Rattle.value_index.specs.Counts.{by_width}

-- the nodes, if no tree has more levels: in two trees, one of each level in a list, and two of each level and a root
-- in the dictionary
abbrev pub key_nodes : ℕ → ℕ
key_nodes levels = 3 * levels + 1

-- the nodes, whatever the trees: a list that is a bit vector gets at most two more than a tree of 8 levels
abbrev pub most_nodes : ℕ
most_nodes = 27

abbrev pub one_record : ℕ → ℕ → ℕ
one_record width w = if nat_eq w width then 1 else 0

-- no tree of an attribute with this column has more levels, by the number of its values and of its documents
pub record IsLowColumn (levels : ℕ) (column : Column) : Type 0 where
  pub some : 0 < levels
  pub values : (index : Index) → IsIndexOf column index → length index < 2 * 8 ^ levels
  pub documents : length column < 2 * 8 ^ levels

-- nodes are made, and one record of some width: for a value, a short list, a block of a bit vector, or a document's items.
-- If no list is a bit vector (`plain`), then the nodes are those of trees of 8 levels, or fewer by their levels, and for
-- an attribute of kind single with long values that width is at most 16
pub record MakesKey {H : Type 0} (plain : Type 0) (kind : Kind) (type : ValueType) (column : Column) (old new : Ledger H) : Type 0 where
  pub width : ℕ
  pub narrow : plain → kind ≡ Single → type ≡ Long → width ≤ 16
  pub counts : MakesWithin old new (by_width most_nodes (one_record width))
  pub trees : plain → MakesWithin old new (by_width (key_nodes 8) (one_record width))
  pub low : plain → (levels : ℕ) → IsLowColumn levels column → MakesWithin old new (by_width (key_nodes levels) (one_record width))
