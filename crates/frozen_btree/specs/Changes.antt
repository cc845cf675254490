-- How a change of a tree changes a store.
use Rattle.std.specs.Prelude.{◌≡◌, ℕ, zero, suc, ◌+◌, ◌<◌, ◌≤◌, List, [], ◌∷◌}
use Rattle.entry_ref.specs.Records.{Records}
use Rattle.tree_read.specs.ProofsForTrees.{tree_nodes-same}
use Rattle.tree_read.specs.Trees.{root_level, tree_pairs, tree_nodes, IsRootNode}
use Rattle.store_api.specs.Ledgers.{Ledger}
use Rattle.store_api.specs.Units.{MayDo, MakesAtMost}
use Rattle.tree_read.specs.Slots.{slot_pairs, slot_nodes}
use Rattle.frozen_nodes.specs.Makes.{MakesNodes}
use Rattle.store_api.specs.Parts.{Part, times, uses, entries, Turns}

-- a tree, by its nodes
abbrev pub tree : ℕ → Part
tree root = record { reach = λ m. tree_nodes m root; stays = λ m n same. tree_nodes-same m n root same }

-- the number of levels of a tree; root 0 has none
abbrev pub levels : Records → ℕ → ℕ
levels m zero = 0
levels m (suc ref) = suc (root_level m (suc ref))

-- the entries of a list are dropped, and nothing else changes
pub record DropsEntries {H : Type 0} (old new : Ledger H) (m n : Records) (refs : List ℕ) : Type 0 where
  pub turns : Turns old new m n (entries refs ∷ []) []
  pub records : (r : ℕ) → times r refs ≡ 0 → n r ≡ m r
  pub none_made : (c width : ℕ) → MakesAtMost c 0 (old.of_width width) (new.of_width width)
  pub may : MayDo old new

-- a tree with these pairs was made, in place of another tree, of which it lacks these nodes
pub record Rebuilds {H : Type 0} (old new : Ledger H) (m n : Records) (root next : ℕ) (gone : List ℕ) (pairs : List (ℕ × ℕ)) : Type 0 where
  pub node : 0 < next → IsRootNode n next
  pub pairs_are : tree_pairs n next ≡ pairs
  pub balance : (r : ℕ) → times r (tree_nodes m root) + uses new r ≡ uses old r + times r gone + times r (tree_nodes n next)
  pub gone_of : (r : ℕ) → times r gone ≤ times r (tree_nodes m root)

-- the slots of a root in memory became a node, or gave way to a single child
pub record MakesRoot {H : Type 0} (old new : Ledger H) (m n : Records) (level : ℕ) (keys values : List ℕ) (root : ℕ) : Type 0 where
  pub node : 0 < root → IsRootNode n root
  pub pairs_are : tree_pairs n root ≡ slot_pairs m level keys values
  pub balance : (r : ℕ) → times r (tree_nodes n root) + uses old r ≡ uses new r + times r (slot_nodes m level values)
  pub makes : MakesNodes old new m n 1
