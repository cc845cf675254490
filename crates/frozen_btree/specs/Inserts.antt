-- How an insertion changes a node, and a root.
use Rattle.std.specs.Prelude.{◌≡◌, ℕ, suc, ◌+◌, ◌<◌, ◌≤◌, Bool, true, false, List, ◌∷◌, ◌++◌, length, take, drop, insert}
use Rattle.std.specs.List.{flat_map}
use Rattle.std.specs.declared.cmp.Ordering.{Ordering}
use Rattle.entry_ref.specs.Records.{Records}
use Rattle.store_api.specs.Ledgers.{Ledger}
use Rattle.tree_read.specs.Nodes.{used_of}
use Rattle.tree_read.specs.Trees.{pairs_below, nodes_below, IsNode, root_least}
use Rattle.tree_read.specs.Pairs.{put}
use Rattle.store_api.specs.Parts.{times, uses}
use Rattle.frozen_nodes.specs.declared.parts.Parts.{Parts}
use Rattle.frozen_nodes.specs.Parts.{AreParts, part_nodes}
use Rattle.frozen_nodes.specs.Makes.{MakesNodes}

-- a word replaces another if that was found, or is inserted before it
abbrev pub put_at : Bool → ℕ → ℕ → List ℕ → List ℕ
put_at true place word words = take place words ++ (word ∷ drop (suc place) words)
put_at false place word words = insert words place word

-- a pair is inserted below a node: parts replace the node, and its path is added to the replaced nodes
pub record Inserts {H : Type 0} (c : ℕ → Ordering) (pair : ℕ × ℕ) (old new : Ledger H) (m n : Records) (level node : ℕ)
    (before after : List ℕ) (parts : Parts) : Type 0 where
  pub parts_are : AreParts n (used_of (m node)) level parts (put c pair (pairs_below m level node))
  pub path : length after ≡ length before + suc level
  pub gone : (ref : ℕ) → times ref after ≤ times ref before + times ref (nodes_below m level node)
  -- the nodes of the parts are those of the node without the replaced ones, and the entries newly in use
  pub balance : (ref : ℕ) → times ref (nodes_below m level node) + times ref before + uses new ref
      ≡ uses old ref + times ref after + times ref (flat_map (nodes_below n level) (part_nodes parts))

-- a root over the parts of a level: the single part, or a node of the next level over two
pub record IsRootOver {H : Type 0} (old new : Ledger H) (m n : Records) (level : ℕ) (parts : Parts) (root : ℕ) : Type 0 where
  pub height : ℕ
  pub low : height ≤ 7
  pub some : 0 < root
  pub node : IsNode n (root_least height) height root
  pub pairs : pairs_below n height root ≡ flat_map (pairs_below m level) (part_nodes parts)
  pub makes : MakesNodes old new m n 1
  pub balance : (ref : ℕ) → times ref (flat_map (nodes_below m level) (part_nodes parts)) + uses new ref
      ≡ uses old ref + times ref (nodes_below n height root)
