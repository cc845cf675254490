-- How a store changes when nodes are made.
use Rattle.std.specs.Prelude.{◌≡◌, ◌≢◌, ℕ, ◌+◌, ◌<◌, ◌≤◌, List, [], ◌∷◌, length}
use Rattle.entry_ref.specs.Records.{Records}
use Rattle.store_api.specs.Ledgers.{Ledger, capacity}
use Rattle.store_api.specs.Units.{MayDo, MakesAtMost}
use Rattle.store_api.specs.Parts.{times, uses}
use Rattle.tree_read.specs.Trees.{pairs_below, nodes_below, last_key, IsNode, Keeps}
use Rattle.tree_read.specs.Slots.{slot_pairs, slot_nodes}
use Rattle.frozen_nodes.specs.declared.make.MadeNode.{MadeNode}
use Rattle.tree_read.specs.declared.node_format.TheConstants.{NODE_WORDS}

-- at most `most` tree nodes were made, and no entry of another width
pub record CountsNodes {H : Type 0} (old new : Ledger H) (most : ℕ) : Type 0 where
  pub nodes : MakesAtMost (capacity old.work.sizes.words NODE_WORDS) most (old.of_width NODE_WORDS) (new.of_width NODE_WORDS)
  pub others : (c width : ℕ) → width ≢ NODE_WORDS → MakesAtMost c 0 (old.of_width width) (new.of_width width)

-- at most `most` nodes were made, and nothing else changed: all records stay, and what was in use still is
pub record MakesNodes {H : Type 0} (old new : Ledger H) (m n : Records) (most : ℕ) : Type 0 where
  pub keeps : Keeps m n
  pub stays : (r : ℕ) → uses old r ≤ uses new r
  pub counts : CountsNodes old new most
  pub may : MayDo old new

-- a node with these slots was made, at a reference that had no record
pub record MakesNode {H : Type 0} (old new : Ledger H) (m n : Records) (level : ℕ) (keys values : List ℕ) (ref : ℕ) : Type 0 where
  pub some : 0 < ref
  pub node : IsNode n (length keys) level ref
  pub pairs : pairs_below n level ref ≡ slot_pairs m level keys values
  pub nodes : nodes_below n level ref ≡ ref ∷ slot_nodes m level values
  pub used : (r : ℕ) → uses new r ≡ uses old r + times r (ref ∷ [])
  pub makes : MakesNodes old new m n 1

-- the same for a part, with its last key
pub record MakesPart {H : Type 0} (old new : Ledger H) (m n : Records) (level : ℕ) (keys values : List ℕ) (part : MadeNode) : Type 0 where
  pub node : MakesNode old new m n level keys values part.node
  pub key : part.key ≡ last_key (pairs_below n level part.node)
