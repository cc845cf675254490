-- Positions in the pairs of a tree.
use Rattle.std.specs.Prelude.{◌≡◌, ℕ, suc, ◌+◌, ◌<◌, List, [], ◌∷◌, ◌++◌, drop, nat_lt, if◌then◌else◌}
use Rattle.std.specs.List.{flat_map}
use Rattle.entry_ref.specs.Records.{Records, word_at}
use Rattle.tree_read.specs.Nodes.{level_of, used_of, node_values}
use Rattle.tree_read.specs.Trees.{pairs_below, root_level, IsRootNode}
use Rattle.tree_read.specs.Steps.{PathStep}
use Rattle.tree_read.specs.declared.node_format.TheConstants.{FIRST_VALUE}

-- a slot of a leaf, with the path to the leaf: the nodes above it, from the lowest up, with their slots. `used` is
-- the number of used slots of the leaf; at the end, past all pairs, `slot` is not below it. The words of the leaf are
-- in memory
pub record CursorPlace : Type 0 where
  pub root : ℕ
  pub path : List PathStep
  pub leaf : ℕ
  pub slot : ℕ
  pub used : ℕ
  pub words : List ℕ

-- a path leads from the root, of level `top`, down to a node of a level
abbrev pub LeadsTo : Records → ℕ → ℕ → List PathStep → ℕ → ℕ → Type 0
LeadsTo m top root [] level ref = (level ≡ top) × (ref ≡ root)
LeadsTo m top root (step ∷ path) level ref = (step.slot < used_of (m step.node)) × (ref ≡ word_at m step.node (FIRST_VALUE + step.slot))
    × LeadsTo m top root path (suc level) step.node

-- a path leads down to a node of a tree
pub record Leads (m : Records) (root : ℕ) (path : List PathStep) (ref : ℕ) : Type 0 where
  pub some : 0 < root
  pub tree : IsRootNode m root
  pub leads : LeadsTo m (root_level m root) root path (level_of (m ref)) ref

-- the pairs below the children after the path, which leads to a node of a level
abbrev pub pairs_behind : Records → ℕ → List PathStep → List (ℕ × ℕ)
pairs_behind m level [] = []
pairs_behind m level (step ∷ path) = flat_map (pairs_below m level) (drop (suc step.slot) (node_values (m step.node)))
    ++ pairs_behind m (suc level) path

-- a pair follows
abbrev pub HasPair : CursorPlace → Type 0
HasPair at = at.slot < at.used

-- the pairs from a position on
abbrev pub pairs_from : Records → CursorPlace → List (ℕ × ℕ)
pairs_from m at = if nat_lt at.slot at.used then drop at.slot (pairs_below m 0 at.leaf) ++ pairs_behind m 0 at.path else []

-- a position before a pair is in a leaf of the tree
pub record IsInLeaf (m : Records) (at : CursorPlace) : Type 0 where
  pub leads : Leads m at.root at.path at.leaf
  pub leaf : level_of (m at.leaf) ≡ 0
  pub used : at.used ≡ used_of (m at.leaf)
  pub words : at.words ≡ m at.leaf

-- the position is in the tree
abbrev pub IsAt : Records → CursorPlace → Type 0
IsAt m at = HasPair at → IsInLeaf m at

abbrev pub first_key : List (ℕ × ℕ) → ℕ
first_key [] = 0
first_key (p ∷ ps) = p.0

abbrev pub first_value : List (ℕ × ℕ) → ℕ
first_value [] = 0
first_value (p ∷ ps) = p.1
