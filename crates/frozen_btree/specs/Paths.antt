-- The way from a node down to the leaf in which a key is sought. `c k` compares a stored key k with the sought one.
use Rattle.std.specs.Prelude.{◌≢◌, ℕ, zero, suc, List, [], ◌∷◌, slice_index}
use Rattle.std.specs.declared.cmp.Ordering.{Ordering}
use Rattle.std.specs.List.{AllByRecursion}
use Rattle.entry_ref.specs.References.{buffer_of}
use Rattle.entry_ref.specs.Records.{Records}
use Rattle.tree_read.specs.Pairs.{choose}
use Rattle.tree_read.specs.Nodes.{node_keys, node_values}
use Rattle.tree_read.specs.Trees.{root_level}

-- the child of the first key that is not below the sought one, otherwise the last child
abbrev pub child_of : (ℕ → Ordering) → List ℕ → List ℕ → ℕ
child_of c [] values = 0
child_of c (k ∷ []) values = slice_index values 0
child_of c (k ∷ l ∷ keys) [] = 0
child_of c (k ∷ l ∷ keys) (v ∷ values) = choose (c k) (child_of c (l ∷ keys) values) v v

-- the nodes from one of a level down to the leaf
unfoldable pub path_below : Records → (ℕ → Ordering) → ℕ → ℕ → List ℕ
path_below m c zero ref = ref ∷ []
path_below m c (suc level) ref = ref ∷ path_below m c level (child_of c (node_keys (m ref)) (node_values (m ref)))

-- the nodes of a tree on the way to a key
abbrev pub path_nodes : Records → (ℕ → Ordering) → ℕ → List ℕ
path_nodes m c zero = []
path_nodes m c (suc ref) = path_below m c (root_level m (suc ref)) (suc ref)

-- none of these nodes lies in the buffer
abbrev pub NoneIn : ℕ → ℕ → List ℕ → Type 0
NoneIn bits buffer refs = AllByRecursion (λ r. buffer_of bits r ≢ buffer) refs
