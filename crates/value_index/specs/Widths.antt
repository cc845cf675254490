-- The widths for which a walk may be refused.
use Rattle.std.specs.Prelude.{◌≡◌, ◌⊎◌, ℕ, ℤ, Bool, length, Option, IsSome}
use Rattle.tree_read.specs.declared.node_format.TheConstants.{NODE_WORDS}
use Rattle.index_model.specs.Changes.{settled}
use Rattle.index_model.specs.Index.{Index, list_of}
use Rattle.attr_types.specs.declared.value.Value.{Value}
use Rattle.value_index.specs.Changes.{IsValueWidth}

-- the width of a record that the index has after the walks, for a value whose weight is added or removed
pub record IsWalkedWidth (dense : Bool) (start : Index) (doc : ℕ) (added removed : Value → Option ℤ) (width : ℕ) : Type 0 where
  pub value : Value
  pub walked : IsSome (added value) ⊎ IsSome (removed value)
  pub is : IsValueWidth dense value (length (settled (added value) (removed value) doc (list_of value start))) width

-- such a width, or that of nodes
abbrev pub IsWalkWidth : Bool → Index → ℕ → (Value → Option ℤ) → (Value → Option ℤ) → ℕ → Type 0
IsWalkWidth dense start doc added removed width = (width ≡ NODE_WORDS) ⊎ IsWalkedWidth dense start doc added removed width
