-- The words of a node in memory.
use Rattle.std.specs.Prelude.{◌≡◌, ℕ, ◌≤◌, List, length}
use Rattle.tree_read.specs.Nodes.{node_words}
use Rattle.tree_read.specs.declared.node_format.TheConstants.{MOST_SLOTS}

-- these are the words of a node of this level, with this count and these slots
pub record AreWords (level count : ℕ) (keys values words : List ℕ) : Type 0 where
  pub words_are : words ≡ node_words level count keys values
  pub even : length keys ≡ length values
  pub few : length keys ≤ MOST_SLOTS
