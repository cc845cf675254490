-- The top of a tree that is not empty.
use Rattle.std.proofs.Common.{◌≡◌, ℕ, zero, suc, ◌<◌, ◌≤◌, min, length, refl, sym, ap, subst, ◌∙◌, arith}
use Rattle.std.specs.declared.cmp.Ordering.{Ordering}
use Rattle.entry_ref.specs.Records.{Records, SameAt}
use Rattle.tree_read.proofs.TreeLemmas.{IsNode-form}
use Rattle.tree_read.specs.Nodes.{level_of, used_of}
use Rattle.tree_read.specs.ProofsForTrees.{node-same}
use Rattle.tree_read.specs.Trees.{pairs_below, nodes_below, IsNode, root_level, root_least, tree_pairs, tree_nodes, IsTree}
use Rattle.tree_read.proofs.ChildLemmas.{IsNode-lower}
use Rattle.tree_read.proofs.RootLemmas.{root_least-some, tree_pairs-is, tree_nodes-is}
use Rattle.frozen_btree.specs.Changes.{levels}

levels-at : (n : Records) (root : ℕ) → 0 < root → levels n root ≡ suc (root_level n root)
levels-at n zero some = absurd (omega arith)
levels-at n (suc ref) some = refl

-- a tree has as many levels where its nodes stay
pub levels-same : (m n : Records) (root : ℕ) → SameAt (tree_nodes m root) m n → levels n root ≡ levels m root
levels-same m n zero same = refl
levels-same m n (suc ref) same = ap (λ ws. suc (min 7 (level_of ws))) (node-same m n (root_level m (suc ref)) (suc ref) same)

module _ {V : Type 0} (order : V → V → Ordering) (read : Records → ℕ → V) (m : Records) (root : ℕ) (tree : IsTree order read m root) (some : 0 < root) where
  pub root-size : length (m root) ≡ 34
  root-size = (IsNode-form m (root_least (root_level m root)) (root_level m root) root (tree.node some)).size

  pub root-level : level_of (m root) ≡ root_level m root
  root-level = (IsNode-form m (root_least (root_level m root)) (root_level m root) root (tree.node some)).at_level

  module _ (level : ℕ) (level_is : level ≡ root_level m root) where
    pub root-low : level ≤ 7
    root-low = omega arith

    pub root-node : IsNode m (root_least level) level root
    root-node = subst (λ l. IsNode m (root_least l) l root) (sym level_is) (tree.node some)

    pub root-one : IsNode m 1 level root
    root-one = IsNode-lower m (root_least level) 1 level root (root_least-some level) root-node

    pub root-used : root_least level ≤ used_of (m root)
    root-used = (IsNode-form m (root_least level) level root root-node).filled

    pub root-pairs : tree_pairs m root ≡ pairs_below m level root
    root-pairs = tree_pairs-is m (root_least level) level root root-low some root-node

    pub root-nodes : tree_nodes m root ≡ nodes_below m level root
    root-nodes = tree_nodes-is m (root_least level) level root root-low some root-node

    pub root-levels : levels m root ≡ suc level
    root-levels = levels-at m root some ∙ ap suc (sym level_is)
