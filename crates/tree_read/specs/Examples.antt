-- A tree made by hand: keys 1 to 17, each with value 1, in a leaf of 9 and a leaf of 8.
use Rattle.std.specs.Prelude.{◌≡◌, [], ◌∷◌, ◌++◌, replicate}
use Rattle.std.specs.List.{range_with_len, zip}
use Rattle.std.specs.Ordering.{nat_cmp}
use Rattle.entry_ref.specs.Images.{words_at}
use Rattle.entry_ref.specs.declared.images.Image.{Image}
use Rattle.tree_read.specs.Nodes.{node_words}
use Rattle.tree_read.specs.Trees.{tree_pairs, by_number, IsTree}

-- the image of the tree, with the words of its root as they are stored
abbrev pub two_leaves : Image
two_leaves = record {
  root = 3074;
  records = (3074, 258 ∷ 17 ∷ 9 ∷ 17 ∷ replicate 14 0 ++ 1026 ∷ 2050 ∷ replicate 14 0)
      ∷ (1026, node_words 0 9 (range_with_len 1 9) (replicate 9 1))
      ∷ (2050, node_words 0 8 (range_with_len 10 8) (replicate 8 1)) ∷ [];
}

abbrev pub TwoLeavesAreATree : Type 0
TwoLeavesAreATree = IsTree nat_cmp by_number (words_at two_leaves) two_leaves.root

abbrev pub TwoLeavesRead : Type 0
TwoLeavesRead = tree_pairs (words_at two_leaves) two_leaves.root ≡ zip (range_with_len 1 17) (replicate 17 1)
