-- The meaning of the definitions, as laws.
use Rattle.std.specs.Prelude.{◌≡◌, ℕ, ◌*◌, ◌<◌, ◌≤◌, ◌^◌, List, length, nat_eq, slice_index, map}
use Rattle.std.specs.List.{IsDistinct}
use Rattle.std.specs.Ordering.{nat_cmp}
use Rattle.entry_ref.specs.Records.{Records, SameAt}
use Rattle.tree_read.specs.declared.node_format.TheConstants.{MOST_SLOTS, LEAST_SLOTS}
use Rattle.tree_read.specs.Nodes.{level_of, count_of, node_keys, node_values, node_words, IsNodeForm}
use Rattle.tree_read.specs.Trees.{tree_pairs, tree_nodes, by_number, IsRootNode, IsTree, Keeps}

-- if the records of a tree's nodes are the same, its pairs are the same
abbrev pub PairsStay : Type 0
PairsStay = (m n : Records) (root : ℕ) → SameAt (tree_nodes m root) m n → tree_pairs n root ≡ tree_pairs m root

-- after records are added, an old root has the same pairs and is still a root
abbrev pub OldPairsStay : Type 0
OldPairsStay = (m n : Records) (root : ℕ) → Keeps m n → 0 < root → IsRootNode m root → tree_pairs n root ≡ tree_pairs m root

abbrev pub OldRootStays : Type 0
OldRootStays = (m n : Records) (root : ℕ) → Keeps m n → 0 < root → IsRootNode m root → IsRootNode n root

-- the keys of a tree by number ascend, so no two are equal
abbrev pub KeysAscend : Type 0
KeysAscend = (m : Records) (root i j : ℕ) → IsTree nat_cmp by_number m root → i < j → j < length (tree_pairs m root)
    → slice_index (map (λ p. p.0) (tree_pairs m root)) i < slice_index (map (λ p. p.0) (tree_pairs m root)) j

-- the count at a root is the number of its pairs
abbrev pub CountIsLength : Type 0
CountIsLength = (m : Records) (root : ℕ) → 0 < root → IsRootNode m root → count_of (m root) ≡ length (tree_pairs m root)

-- a tree of several levels has many pairs
abbrev pub HasManyPairs : Type 0
HasManyPairs = (m : Records) (root : ℕ) → 0 < root → IsRootNode m root → 0 < level_of (m root)
    → 2 * LEAST_SLOTS ^ level_of (m root) ≤ length (tree_pairs m root)

-- no node occurs twice in a tree, however its keys are read
abbrev pub NodesAreDistinct : Type 0
NodesAreDistinct = (m : Records) (root : ℕ) → IsTree nat_cmp by_number m root → IsDistinct nat_eq (tree_nodes m root)

-- a node made of slots has the form of a node, and reads as these slots
abbrev pub NodeIsFormed : Type 0
NodeIsFormed = (level count : ℕ) (keys values : List ℕ) → length keys ≡ length values → length keys ≤ MOST_SLOTS → count < 2 ^ 32
    → IsNodeForm level (length keys) (node_words level count keys values)

abbrev pub NodeReads : Type 0
NodeReads = (level count : ℕ) (keys values : List ℕ) → length keys ≡ length values → length keys ≤ MOST_SLOTS
    → (node_keys (node_words level count keys values) ≡ keys) × (node_values (node_words level count keys values) ≡ values)
