-- How a removal changes a node and a tree.
use Rattle.std.specs.Prelude.{◌≡◌, ◌^◌, ℕ, suc, ◌+◌, ◌*◌, ◌<◌, ◌≤◌, List, ◌∷◌, ◌++◌, length, take, drop, slice_index, IsSome}
use Rattle.std.specs.declared.cmp.Ordering.{Ordering}
use Rattle.entry_ref.specs.Records.{Records}
use Rattle.tree_read.specs.Nodes.{used_of}
use Rattle.tree_read.specs.Trees.{pairs_below, nodes_below, IsNode}
use Rattle.tree_read.specs.Pairs.{lookup, take_out}
use Rattle.store_api.specs.Ledgers.{Ledger}
use Rattle.store_api.specs.Parts.{times, uses}
use Rattle.frozen_nodes.specs.Makes.{MakesNodes}
use Rattle.tree_read.specs.Slots.{slot_pairs, slot_nodes, IsInHand}
use Rattle.tree_read.specs.declared.node_format.TheConstants.{MOST_SLOTS, LEAST_SLOTS}

-- the pairs below slots, with these pairs in place of those of one child
abbrev pub spliced : Records → ℕ → ℕ → List ℕ → List ℕ → List (ℕ × ℕ) → List (ℕ × ℕ)
spliced m level place keys values pairs =
    slot_pairs m (suc level) (take place keys) (take place values)
    ++ (pairs ++ slot_pairs m (suc level) (drop (suc place) keys) (drop (suc place) values))

-- the nodes below all children but one
abbrev pub nodes_beside : Records → ℕ → ℕ → List ℕ → List ℕ
nodes_beside m level place values =
    slot_nodes m (suc level) (take place values) ++ slot_nodes m (suc level) (drop (suc place) values)

-- the slots of a child with at least 8
pub record IsChild (m : Records) (level child : ℕ) (keys values : List ℕ) : Type 0 where
  pub hand : IsInHand m level keys values
  pub pairs_are : pairs_below m level child ≡ slot_pairs m level keys values
  pub nodes_are : nodes_below m level child ≡ child ∷ slot_nodes m level values
  pub least : LEAST_SLOTS ≤ length keys
  pub room : length keys ≤ MOST_SLOTS

-- a child in memory was made, together with a sibling if it was one slot short, and is in its parent, which has lost
-- at most one slot
pub record PutsBack {H : Type 0} (old new : Ledger H) (m n : Records) (level place : ℕ)
    (keys values child_keys child_values before after keys_after values_after : List ℕ) : Type 0 where
  pub hand : IsInHand n (suc level) keys_after values_after
  pub pairs_are : slot_pairs n (suc level) keys_after values_after
      ≡ spliced m level place keys values (slot_pairs m level child_keys child_values)
  pub balance : (r : ℕ) → times r (slot_nodes n (suc level) values_after) + times r after + uses old r
      ≡ uses new r + times r before + times r (nodes_beside m level place values) + times r (slot_nodes m level child_values)
  pub gone : (r : ℕ) → times r after ≤ times r before + times r (nodes_beside m level place values)
  pub path : length after ≤ suc (length before)
  -- 1 if it has lost none
  pub extra : ℕ
  pub one : extra ≤ 1
  pub filled : extra + length keys ≡ suc (length keys_after)
  pub most : ℕ
  pub makes : MakesNodes old new m n most
  pub most_is : most ≤ suc extra
  pub whole : LEAST_SLOTS ≤ length child_keys → most ≤ extra

-- the child of a node of this level under which a key lies
pub record IsStep (c : ℕ → Ordering) (m : Records) (level node : ℕ) (keys values : List ℕ) (place child : ℕ) : Type 0 where
  pub hand : IsInHand m (suc level) keys values
  pub nodes_are : nodes_below m (suc level) node ≡ node ∷ slot_nodes m (suc level) values
  pub used : used_of (m node) ≡ length keys
  pub many : 2 ≤ length keys
  pub room : length keys ≤ MOST_SLOTS
  pub few : length (pairs_below m (suc level) node) < 2 ^ 32
  pub within : place < length keys
  pub child_is : child ≡ slice_index values place
  pub child_node : IsNode m LEAST_SLOTS level child
  pub there : IsSome (lookup c (pairs_below m level child))
  pub out : take_out c (pairs_below m (suc level) node) ≡ spliced m level place keys values (take_out c (pairs_below m level child))

-- a pair was removed below a node, which is in memory and has lost at most one slot
pub record Removes {H : Type 0} (c : ℕ → Ordering) (old new : Ledger H) (m n : Records) (level node : ℕ)
    (before after keys values : List ℕ) : Type 0 where
  pub hand : IsInHand n level keys values
  pub pairs_are : slot_pairs n level keys values ≡ take_out c (pairs_below m level node)
  pub balance : (r : ℕ) → times r (slot_nodes n level values) + times r after + uses old r
      ≡ uses new r + times r before + times r (nodes_below m level node)
  pub gone : (r : ℕ) → times r after ≤ times r before + times r (nodes_below m level node)
  pub path : length after ≤ length before + (2 * level + 1)
  -- 1 if it has lost none
  pub extra : ℕ
  pub one : extra ≤ 1
  pub filled : extra + used_of (m node) ≡ suc (length keys)
  pub makes : MakesNodes old new m n (level + extra)
