-- Trees of nodes over records, by recursion on the level. A leaf has level 0.
use Rattle.std.specs.Prelude.{◌≡◌, ℕ, zero, suc, ◌<◌, min, List, [], ◌∷◌, length, map}
use Rattle.std.specs.declared.cmp.Ordering.{Ordering}
use Rattle.std.specs.List.{zip, flat_map, AllByRecursion}
use Rattle.std.specs.List.Sorted.{IsStrictlySortedBy}
use Rattle.entry_ref.specs.Records.{Records}
use Rattle.tree_read.specs.declared.node_format.TheConstants.{LEAST_SLOTS}
use Rattle.tree_read.specs.Nodes.{level_of, count_of, node_keys, node_values, IsNodeForm}

-- the pairs below a node: the keys of a leaf with its values, or the pairs of the children in order
unfoldable pub pairs_below : Records → ℕ → ℕ → List (ℕ × ℕ)
pairs_below m zero ref = zip (node_keys (m ref)) (node_values (m ref))
pairs_below m (suc level) ref = flat_map (pairs_below m level) (node_values (m ref))

-- the references of a node and of all nodes below it
unfoldable pub nodes_below : Records → ℕ → ℕ → List ℕ
nodes_below m zero ref = ref ∷ []
nodes_below m (suc level) ref = ref ∷ flat_map (nodes_below m level) (node_values (m ref))

abbrev pub last_key : List (ℕ × ℕ) → ℕ
last_key [] = 0
last_key (p ∷ []) = p.0
last_key (p ∷ q ∷ ps) = last_key (q ∷ ps)

-- the keys of a node are the last keys of its children
abbrev pub HasLastKeys : Records → ℕ → List ℕ → Type 0
HasLastKeys m level ws = node_keys ws ≡ map (λ child. last_key (pairs_below m level child)) (node_values ws)

-- the count of a node is the number of its pairs
abbrev pub HasCount : Records → ℕ → ℕ → Type 0
HasCount m level ref = count_of (m ref) ≡ length (pairs_below m level ref)

-- a node of a level with at least `least` used slots; each child has at least 8
unfoldable pub IsNode : Records → ℕ → ℕ → ℕ → Type 0
IsNode m least zero ref = IsNodeForm 0 least (m ref) × HasCount m 0 ref
IsNode m least (suc level) ref = IsNodeForm (suc level) least (m ref) × HasCount m (suc level) ref
    × HasLastKeys m level (m ref) × AllByRecursion (IsNode m LEAST_SLOTS level) (node_values (m ref))

-- a tree has at most 8 levels: a root's level above 7 counts as 7
abbrev pub root_level : Records → ℕ → ℕ
root_level m root = min 7 (level_of (m root))

-- a root that is a leaf has at least one used slot; a root above the leaves has at least two
abbrev pub root_least : ℕ → ℕ
root_least zero = 1
root_least (suc level) = 2

-- the pairs of a tree by its root; root 0 has none
abbrev pub tree_pairs : Records → ℕ → List (ℕ × ℕ)
tree_pairs m zero = []
tree_pairs m (suc ref) = pairs_below m (root_level m (suc ref)) (suc ref)

-- the references of all nodes of a tree
abbrev pub tree_nodes : Records → ℕ → List ℕ
tree_nodes m zero = []
tree_nodes m (suc ref) = nodes_below m (root_level m (suc ref)) (suc ref)

-- the root of a tree, with all nodes below it
abbrev pub IsRootNode : Records → ℕ → Type 0
IsRootNode m root = IsNode m (root_least (root_level m root)) (root_level m root) root

-- a tree whose keys ascend strictly, in an order of what they read as
pub record IsTree {V : Type 0} (order : V → V → Ordering) (read : Records → ℕ → V) (m : Records) (root : ℕ) : Type 0 where
  pub node : 0 < root → IsRootNode m root
  pub ascends : IsStrictlySortedBy order (map (λ p. read m p.0) (tree_pairs m root))

-- a key that is its own number
abbrev pub by_number : Records → ℕ → ℕ
by_number m key = key

-- each record of the first is the same in the second
abbrev pub Keeps : Records → Records → Type 0
Keeps m n = (ref : ℕ) → 0 < length (m ref) → n ref ≡ m ref
