-- The tree of two leaves is a tree with the pairs that it was made of.
use Rattle.std.proofs.Common.{◌≡◌, ℕ, zero, suc, ◌+◌, ◌<◌, ◌∷◌, [], refl, sym, arith, Less, replicate}
use Rattle.std.specs.Cmp.{nat_cmp_is}
use Rattle.std.specs.List.{range_with_len, AllByRecursion}
use Rattle.std.specs.List.Sorted.{IsStrictlySortedBy}
use Rattle.std.specs.Ordering.{nat_cmp}
use borrow.Author.Tests.{ltb-true, leb-true}
use Rattle.entry_ref.specs.Images.{words_at}
use Rattle.tree_read.proofs.NodeLemmas.{node_formed}
use Rattle.tree_read.specs.Examples.{two_leaves, TwoLeavesAreATree, TwoLeavesRead}
use Rattle.tree_read.specs.Nodes.{IsNodeForm}
use Rattle.tree_read.specs.Trees.{pairs_below, IsNode}

all_above : (a b n : ℕ) → a < b → AllByRecursion (λ y. nat_cmp a y ≡ Less) (range_with_len b n)
all_above a b zero less = tt
all_above a b (suc n) less = (sym (nat_cmp_is a b Less less), all_above a (b + 1) n (omega arith))

-- numbers one after another ascend
range_ascends : (a n : ℕ) → IsStrictlySortedBy nat_cmp (range_with_len a n)
unfolding IsStrictlySortedBy
range_ascends a zero = tt
range_ascends a (suc n) = (all_above a (a + 1) n (omega arith), range_ascends (a + 1) n)

pub two_leaves_are_a_tree : TwoLeavesAreATree
unfolding pairs_below IsNode
two_leaves_are_a_tree =
    let root = node_formed 1 17 (9 ∷ 17 ∷ []) (1026 ∷ 2050 ∷ []) refl (leb-true _ _ refl) (ltb-true _ _ refl) in
    let first = node_formed 0 9 (range_with_len 1 9) (replicate 9 1) refl (leb-true _ _ refl) (ltb-true _ _ refl) in
    let second = node_formed 0 8 (range_with_len 10 8) (replicate 8 1) refl (leb-true _ _ refl) (ltb-true _ _ refl) in
    let more : IsNodeForm 0 8 (words_at two_leaves 1026) = record {
      size = first.size;
      at_level = first.at_level;
      filled = leb-true _ _ refl;
      room = first.room;
      no_key = first.no_key;
      no_value = first.no_value;
      few = first.few;
    } in
    record { node = λ some. (root, refl, refl, ((more, refl), ((second, refl), tt))); ascends = range_ascends 1 17 }

pub two_leaves_read : TwoLeavesRead
unfolding pairs_below
two_leaves_read = refl
