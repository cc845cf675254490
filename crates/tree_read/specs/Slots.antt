-- Slots: the keys and values that a node of some level can hold. A leaf has level 0.
use Rattle.std.specs.Prelude.{◌≡◌, ℕ, zero, suc, List, [], length, map}
use Rattle.std.specs.List.{zip, flat_map, AllByRecursion}
use Rattle.entry_ref.specs.Records.{Records}
use Rattle.tree_read.specs.Trees.{pairs_below, nodes_below, last_key, IsNode}
use Rattle.tree_read.specs.declared.node_format.TheConstants.{LEAST_SLOTS}

-- the pairs below slots: those of a leaf, or the pairs of the children in order
unfoldable pub slot_pairs : Records → ℕ → List ℕ → List ℕ → List (ℕ × ℕ)
slot_pairs m zero keys values = zip keys values
slot_pairs m (suc level) keys values = flat_map (pairs_below m level) values

-- the references of all nodes below slots
unfoldable pub slot_nodes : Records → ℕ → List ℕ → List ℕ
slot_nodes m zero values = []
slot_nodes m (suc level) values = flat_map (nodes_below m level) values

-- above the leaves the values are nodes with at least 8 slots, and each key is the last key of its child
unfoldable pub HaveChildren : Records → ℕ → List ℕ → List ℕ → Type 0
HaveChildren m zero keys values = Unit {0}
HaveChildren m (suc level) keys values =
    (keys ≡ map (λ child. last_key (pairs_below m level child)) values) × AllByRecursion (IsNode m LEAST_SLOTS level) values

-- slots in memory: as many keys as values, with children of the right level
pub record IsInHand (m : Records) (level : ℕ) (keys values : List ℕ) : Type 0 where
  pub even : length keys ≡ length values
  pub children : HaveChildren m level keys values
