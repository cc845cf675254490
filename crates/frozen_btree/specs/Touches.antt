-- How a touch changes a node and those below it.
use Rattle.std.specs.Prelude.{◌≡◌, ℕ, suc, ◌+◌, ◌<◌, ◌≤◌, List, [], ◌∷◌, length, false}
use Rattle.std.specs.declared.cmp.Ordering.{Ordering}
use Rattle.entry_ref.specs.References.{buffer_of}
use Rattle.entry_ref.specs.Records.{Records}
use Rattle.store_api.specs.Ledgers.{Ledger}
use Rattle.store_api.specs.Parts.{times, uses}
use Rattle.tree_read.specs.Nodes.{used_of}
use Rattle.tree_read.specs.Trees.{pairs_below, nodes_below, IsNode}
use Rattle.frozen_nodes.specs.Makes.{MakesNodes}
use Rattle.frozen_btree.specs.Paths.{NoneIn, path_below}

-- a node with exactly these words was made, in a buffer that is not sealed
pub record CopiesNode {H : Type 0} (bits : ℕ) (old new : Ledger H) (m n : Records) (words : List ℕ) (ref : ℕ) : Type 0 where
  pub some : 0 < ref
  pub words_are : n ref ≡ words
  pub used : (r : ℕ) → uses new r ≡ uses old r + times r (ref ∷ [])
  pub unsealed : new.sealed (buffer_of bits ref) ≡ false
  pub makes : MakesNodes old new m n 1

-- a node replaces another with the same pairs; on the way to the key none of its nodes lies in the buffer
pub record Touches {H : Type 0} (bits buffer : ℕ) (c : ℕ → Ordering) (old new : Ledger H) (m n : Records) (level node next : ℕ)
    (before after : List ℕ) : Type 0 where
  pub some : 0 < next
  pub node_is : IsNode n (used_of (m node)) level next
  pub pairs_are : pairs_below n level next ≡ pairs_below m level node
  pub path : length after ≤ length before + suc level
  pub gone : (r : ℕ) → times r after ≤ times r before + times r (nodes_below m level node)
  pub balance : (r : ℕ) → times r (nodes_below m level node) + times r before + uses new r
      ≡ uses old r + times r after + times r (nodes_below n level next)
  pub apart : NoneIn bits buffer (path_below n c level next)
