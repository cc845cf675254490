-- One or two nodes in place of one.
use Rattle.std.specs.Prelude.{◌≡◌, ℕ, ◌+◌, ◌<◌, List, [], ◌∷◌, length, map}
use Rattle.std.specs.List.{flat_map, AllByRecursion}
use Rattle.entry_ref.specs.Records.{Records}
use Rattle.store_api.specs.Ledgers.{Ledger}
use Rattle.tree_read.specs.Nodes.{count_of}
use Rattle.tree_read.specs.Trees.{pairs_below, nodes_below, last_key, IsNode}
use Rattle.store_api.specs.Parts.{times, uses}
use Rattle.tree_read.specs.Slots.{slot_pairs, slot_nodes}
use Rattle.frozen_nodes.specs.Makes.{MakesNodes}
use Rattle.frozen_nodes.specs.declared.parts.Parts.{Parts}
use Rattle.frozen_nodes.specs.declared.parts.Parts.TheVariants.{One, Two}
use Rattle.tree_read.specs.declared.node_format.TheConstants.{LEAST_SLOTS}

abbrev pub part_keys : Parts → List ℕ
part_keys (One part) = part.key ∷ []
part_keys (Two first second) = first.key ∷ second.key ∷ []

abbrev pub part_nodes : Parts → List ℕ
part_nodes (One part) = part.node ∷ []
part_nodes (Two first second) = first.node ∷ second.node ∷ []

-- the number of pairs below parts, according to the counts of their nodes
abbrev pub parts_count : Records → Parts → ℕ
parts_count m (One part) = count_of (m part.node)
parts_count m (Two first second) = count_of (m first.node) + count_of (m second.node)

-- a single part has as many slots as the node that it replaces; two parts have at least 8 each
abbrev pub parts_least : ℕ → Parts → ℕ
parts_least least (One part) = least
parts_least least (Two first second) = LEAST_SLOTS

-- parts with their last keys, and these pairs below them
pub record AreParts (n : Records) (least level : ℕ) (parts : Parts) (pairs : List (ℕ × ℕ)) : Type 0 where
  pub nodes : AllByRecursion (IsNode n (parts_least least parts) level) (part_nodes parts)
  pub some : AllByRecursion (λ ref. 0 < ref) (part_nodes parts)
  pub keys : part_keys parts ≡ map (λ ref. last_key (pairs_below n level ref)) (part_nodes parts)
  pub pairs_are : flat_map (pairs_below n level) (part_nodes parts) ≡ pairs

-- slots in memory became parts
pub record MakesParts {H : Type 0} (old new : Ledger H) (m n : Records) (level : ℕ) (keys values : List ℕ) (parts : Parts) : Type 0 where
  pub parts_are : AreParts n (length keys) level parts (slot_pairs m level keys values)
  pub makes : MakesNodes old new m n 2
  -- the nodes of the parts are those below the slots, and the entries newly in use
  pub balance : (ref : ℕ) → times ref (slot_nodes m level values) + uses new ref
      ≡ uses old ref + times ref (flat_map (nodes_below n level) (part_nodes parts))
