-- Nodes made in place of one child or of two neighbours.
use Rattle.std.specs.Prelude.{◌≡◌, ℕ, suc, ◌+◌, ◌<◌, ◌≤◌, List, ◌++◌, length, take, drop}
use Rattle.entry_ref.specs.Records.{Records}
use Rattle.store_api.specs.Ledgers.{Ledger}
use Rattle.store_api.specs.Parts.{times, uses}
use Rattle.frozen_nodes.specs.Makes.{MakesNodes}
use Rattle.tree_read.specs.Slots.{slot_pairs, slot_nodes, IsInHand}

-- nodes of a level were made, with these slots: the pairs below them are these, and the nodes below them are these
-- and the entries newly in use
pub record MakesSlots {H : Type 0} (old new : Ledger H) (m n : Records) (level : ℕ) (pairs : List (ℕ × ℕ))
    (nodes keys values : List ℕ) : Type 0 where
  pub hand : IsInHand n (suc level) keys values
  pub pairs_are : slot_pairs n (suc level) keys values ≡ pairs
  pub balance : (r : ℕ) → times r (slot_nodes n (suc level) values) + uses old r ≡ uses new r + times r nodes
  pub makes : MakesNodes old new m n (length values)

-- the same, with their slots in a parent, in place of `width` slots from `first` on
pub record SettlesSlots {H : Type 0} (old new : Ledger H) (m n : Records) (level : ℕ) (pairs : List (ℕ × ℕ)) (nodes : List ℕ)
    (first width : ℕ) (keys values keys_after values_after : List ℕ) : Type 0 where
  pub made_keys : List ℕ
  pub made_values : List ℕ
  pub stands : MakesSlots old new m n level pairs nodes made_keys made_values
  pub some : 0 < length made_values
  pub few : length made_values ≤ width
  pub keys_are : keys_after ≡ take first keys ++ (made_keys ++ drop (first + width) keys)
  pub values_are : values_after ≡ take first values ++ (made_values ++ drop (first + width) values)
