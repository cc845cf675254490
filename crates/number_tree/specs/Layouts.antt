-- The layout whose root is the root of a tree by number.
use Rattle.std.specs.Prelude.{ℕ, List}
use Rattle.std.specs.Ordering.{nat_cmp}
use Rattle.entry_ref.specs.Records.{Records}
use Rattle.tree_read.specs.Trees.{tree_nodes, by_number, IsTree}

-- a root reaches the nodes of its tree
abbrev pub tree_reaches : ℕ → Records → ℕ → List ℕ
tree_reaches shape m root = tree_nodes m root

-- a root is lawful if it is the root of a tree
abbrev pub tree_lawful : ℕ → Records → ℕ → Type 0
tree_lawful shape m root = IsTree nat_cmp by_number m root
