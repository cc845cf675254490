-- The tree at a root.
use Rattle.std.proofs.Common.{◌≡◌, ℕ, zero, suc, ◌<◌, ◌≤◌, List, [], ◌++◌, refl, sym, ap, subst, ◌∙◌, arith}
use Rattle.entry_ref.specs.Records.{Records}
use Rattle.tree_read.proofs.TreeLemmas.{IsNode-form}
use Rattle.tree_read.specs.Nodes.{level_of}
use Rattle.tree_read.specs.Trees.{pairs_below, tree_pairs, root_level, root_least, IsNode}
use Rattle.check_images.proofs.KeyLemmas.{ascends-none, make_tree, tree-node, tree-ascends}
use Rattle.check_images.specs.Keys.{PairsAscend, IsTreeOf}
use Rattle.check_images.specs.declared.keys.Keys.{Keys}

-- root 0 is the empty tree
pub empty_tree : (keys : Keys) (m : Records) (root : ℕ) → root ≡ 0 → IsTreeOf keys m root
empty_tree keys m zero none = make_tree keys m 0 (λ some. absurd (omega arith)) (ascends-none keys m)
empty_tree keys m (suc ref) none = absurd (omega arith)

root_reads : (m : Records) (root level : ℕ) → level ≡ level_of (m root) → level ≤ 7 → root_level m root ≡ level
root_reads m root level is low = omega arith

module _ (keys : Keys) (m : Records) (root level : ℕ) (some : 0 < root) (is : level ≡ level_of (m root)) (low : level ≤ 7) where
  root_pairs : tree_pairs m root ≡ pairs_below m level root
  root_pairs = go root some refl
    where
      go : (r : ℕ) → 0 < r → r ≡ root → tree_pairs m root ≡ pairs_below m level root
      go zero none e = absurd (omega arith)
      go (suc r) more e = subst (λ q. tree_pairs m q ≡ pairs_below m level q) e (ap (λ l. pairs_below m l (suc r)) (root_reads m (suc r) level (is ∙ ap (λ q. level_of (m q)) (sym e)) low))

  pub root-pairs : (pairs : List (ℕ × ℕ)) → pairs ≡ [] ++ pairs_below m level root → pairs ≡ tree_pairs m root
  root-pairs pairs found = found ∙ sym root_pairs

  pub root-tree : (pairs : List (ℕ × ℕ)) → IsNode m (root_least level) level root → pairs ≡ [] ++ pairs_below m level root → PairsAscend keys m pairs → IsTreeOf keys m root
  root-tree pairs node found up =
      make_tree keys m root
      (λ more. subst (λ l. IsNode m (root_least l) l root) (sym (root_reads m root level is low)) node)
      (subst (PairsAscend keys m) (found ∙ sym root_pairs) up)

  -- where the root is a tree's, the node stands and its pairs ascend
  root-stands : IsTreeOf keys m root → IsNode m (root_least level) level root × PairsAscend keys m ([] ++ pairs_below m level root)
  root-stands tree = (
    subst (λ l. IsNode m (root_least l) l root) (root_reads m root level is low) (tree-node keys m root tree some),
    subst (PairsAscend keys m) root_pairs (tree-ascends keys m root tree),
  )

  -- what a walk from the root finds, behind no pairs
  module _ (least : ℕ) (old : List (ℕ × ℕ)) (none : old ≡ []) (slots : least ≡ root_least level) where
    found_behind : (pairs : List (ℕ × ℕ)) → pairs ≡ old ++ pairs_below m level root → pairs ≡ [] ++ pairs_below m level root
    found_behind pairs found = found ∙ ap (λ ps. ps ++ pairs_below m level root) none

    pub found-pairs : (pairs : List (ℕ × ℕ)) → pairs ≡ old ++ pairs_below m level root → pairs ≡ tree_pairs m root
    found-pairs pairs found = root-pairs pairs (found_behind pairs found)

    pub found-tree : (pairs : List (ℕ × ℕ)) → IsNode m least level root → pairs ≡ old ++ pairs_below m level root → PairsAscend keys m pairs → IsTreeOf keys m root
    found-tree pairs node found up =
        root-tree pairs (subst (λ n. IsNode m n level root) slots node) (found_behind pairs found) up

    pub found-whole : IsTreeOf keys m root → IsNode m least level root × PairsAscend keys m (old ++ pairs_below m level root)
    found-whole tree =
        let both = root-stands tree in
        (subst (λ n. IsNode m n level root) (sym slots) both.0, subst (λ ps. PairsAscend keys m (ps ++ pairs_below m level root)) (sym none) both.1)

-- a root's level is at most 7
pub root-low : (keys : Keys) (m : Records) (root : ℕ) → 0 < root → IsTreeOf keys m root → level_of (m root) ≤ 7
root-low keys m root some tree =
    let form = IsNode-form m (root_least (root_level m root)) (root_level m root) root (tree-node keys m root tree some) in
    let at = form.at_level in
    omega arith
