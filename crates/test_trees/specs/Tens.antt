-- Keys by their tens, and a tree of them in a unit.
use Rattle.std.specs.Prelude.{◌≡◌, ℕ, ◌/◌, [], ◌∷◌, true}
use Rattle.std.specs.Ordering.{nat_cmp}
use Rattle.entry_ref.specs.Records.{Records}
use Rattle.tree_read.specs.Keys.{IsKeyedTree}
use Rattle.store_api.specs.Ledgers.{Ledger}
use Rattle.store_api.specs.Parts.{Owns}
use Rattle.frozen_btree.specs.Changes.{tree}

-- a key is the number of its tens
abbrev pub by_tens : Records → ℕ → ℕ
by_tens m key = key / 10

-- a tree by tens whose nodes are in use, within a unit
pub record HoldsTens {H : Type 0} (ledger : Ledger H) (m : Records) (root : ℕ) : Type 0 where
  pub unit : ledger.unit ≡ true
  pub keyed : IsKeyedTree nat_cmp by_tens (λ n key. Unit {0}) (λ n key. []) m root
  pub owns : Owns ledger m (tree root ∷ [])
