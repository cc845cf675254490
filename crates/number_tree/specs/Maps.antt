-- A map by number: a tree that is all that a store has in use.
use Rattle.std.specs.Prelude.{◌≡◌, ℕ, List, [], ◌∷◌, Option, None, Some, false}
use Rattle.std.specs.declared.cmp.Ordering.{Ordering}
use Rattle.std.specs.Ordering.{nat_cmp}
use Rattle.arena_api.specs.declared.answers.Oldest.{Oldest}
use Rattle.entry_ref.specs.Records.{Records}
use Rattle.tree_read.specs.Trees.{by_number, IsTree}
use Rattle.tree_read.specs.declared.node_format.TheConstants.{NODE_WORDS}
use Rattle.store_api.specs.Calls.{IsFull, Undoes}
use Rattle.store_api.specs.Ledgers.{Ledger}
use Rattle.store_api.specs.Parts.{OwnsAll}
use Rattle.store_api.specs.declared.store.StoreError.{StoreError}
use Rattle.store_api.specs.declared.store.StoreError.TheVariants.{Full, Memory}
use Rattle.frozen_btree.specs.Changes.{tree}
use Rattle.frozen_btree.specs.Makes.{CountsNodes}

-- a tree in a store: its pairs, its root, the numbers of commits made and possible, and the buffers of the store
pub record MapView (S : Type 0) : Type 0 where
  pub store : S
  pub pairs : List (ℕ × ℕ)
  pub root : ℕ
  pub commits : ℕ
  pub most : ℕ
  pub buffers : ℕ

-- compares a stored key with a number
abbrev pub beside_number : ℕ → ℕ → Ordering
beside_number key stored = nat_cmp stored key

-- the first pair, if there is one
abbrev pub first_of : List (ℕ × ℕ) → Option (ℕ × ℕ)
first_of [] = None
first_of (p ∷ ps) = Some p

-- the nodes of a tree by number are exactly what is in use, no unit is open, and no buffer is about to go on hold
pub record HoldsTree {H : Type 0} (ledger : Ledger H) (m : Records) (root : ℕ) : Type 0 where
  pub is_tree : IsTree nat_cmp by_number m root
  pub owns : OwnsAll ledger m (tree root ∷ [])
  pub unit : ledger.unit ≡ false
  pub finished : ledger.finished ≡ None

-- the map is unchanged; its store may have reclaimed what no reader can reach
pub record IsSameMap {S : Type 0} (old new : MapView S) : Type 0 where
  pub pairs : new.pairs ≡ old.pairs
  pub root : new.root ≡ old.root
  pub commits : new.commits ≡ old.commits
  pub most : new.most ≡ old.most
  pub buffers : new.buffers ≡ old.buffers

-- the store was full for a node, after at most this many nodes had been made, which were given back
pub record IsFullForNode {H : Type 0} (old new : Ledger H) (n : Records) (most width active held : ℕ) (oldest : Oldest) : Type 0 where
  pub node : width ≡ NODE_WORDS
  pub mid : Ledger H
  pub counts : CountsNodes old mid most
  pub full : IsFull old mid width active held oldest
  pub undoes : Undoes mid new n

-- why nothing changed: the store was full for a node, or memory is exhausted
abbrev pub IsRefusal : {H : Type 0} → Ledger H → Ledger H → Records → ℕ → StoreError → Type 0
IsRefusal old new n most (Full width active held oldest) = IsFullForNode old new n most width active held oldest
IsRefusal old new n most Memory = Unit {0}
