-- The nodes of a tree and the ways to its keys, as laws.
use Rattle.std.specs.Prelude.{◌≢◌, ℕ, List, map}
use Rattle.std.specs.declared.cmp.Ordering.{Ordering}
use Rattle.entry_ref.specs.References.{buffer_of}
use Rattle.entry_ref.specs.Records.{Records, Among}
use Rattle.tree_read.specs.Keys.{seen_by}
use Rattle.tree_read.specs.Nodes.{level_of}
use Rattle.tree_read.specs.Trees.{pairs_below, tree_nodes, tree_pairs, IsTree}
use Rattle.frozen_btree.specs.Paths.{path_nodes, NoneIn}

-- the keys of a tree, and those below one of its nodes
abbrev pub tree_keys : Records → ℕ → List ℕ
tree_keys m root = map (λ p. p.0) (tree_pairs m root)

abbrev pub keys_below : Records → ℕ → List ℕ
keys_below m node = map (λ p. p.0) (pairs_below m (level_of (m node)) node)

-- a node is on the way to each key below it
abbrev pub NodesStandOnWays : {V : Type 0} → (V → V → Ordering) → (Records → ℕ → V) → Type 0
NodesStandOnWays order read = (m : Records) (root node key : ℕ) → IsTree order read m root → Among node (tree_nodes m root)
    → Among key (keys_below m node) → Among node (path_nodes m (seen_by read order (read m key) m) root)

-- there is a key of the tree below each node
abbrev pub NodesHaveKeys : {V : Type 0} → (V → V → Ordering) → (Records → ℕ → V) → Type 0
NodesHaveKeys order read = (m : Records) (root node : ℕ) → IsTree order read m root → Among node (tree_nodes m root)
    → (key : ℕ) × Among key (keys_below m node) × Among key (tree_keys m root)

-- if no node on the way to any key lies in a buffer, no node of the tree does
abbrev pub WaysHaveAllNodes : {V : Type 0} → ℕ → (V → V → Ordering) → (Records → ℕ → V) → Type 0
WaysHaveAllNodes bits order read = (m : Records) (root buffer : ℕ) → IsTree order read m root
    → ((key : ℕ) → Among key (tree_keys m root) → NoneIn bits buffer (path_nodes m (seen_by read order (read m key) m) root))
    → (node : ℕ) → Among node (tree_nodes m root) → buffer_of bits node ≢ buffer
