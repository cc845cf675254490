-- What a node is as the root of a tree.
use Rattle.std.proofs.Common.{◌≡◌, ℕ, zero, suc, ◌<◌, ◌≤◌, min, refl, sym, ap, subst, ◌∙◌, arith}
use Rattle.entry_ref.specs.Records.{Records}
use Rattle.tree_read.proofs.TreeLemmas.{IsNode-form}
use Rattle.tree_read.specs.Trees.{pairs_below, nodes_below, IsNode, root_level, root_least, tree_pairs, tree_nodes, IsRootNode}
use Rattle.tree_read.proofs.ChildLemmas.{IsNode-lower}

pub root_least-some : (level : ℕ) → 1 ≤ root_least level
root_least-some zero = omega arith
root_least-some (suc level) = omega arith

pub root_least-few : (level : ℕ) → root_least level ≤ 8
root_least-few zero = omega arith
root_least-few (suc level) = omega arith

pub tree_pairs-at : (n : Records) (root : ℕ) → 0 < root → tree_pairs n root ≡ pairs_below n (root_level n root) root
tree_pairs-at n zero some = absurd (omega arith)
tree_pairs-at n (suc ref) some = refl

pub tree_nodes-at : (n : Records) (root : ℕ) → 0 < root → tree_nodes n root ≡ nodes_below n (root_level n root) root
tree_nodes-at n zero some = absurd (omega arith)
tree_nodes-at n (suc ref) some = refl

module _ (n : Records) (least level root : ℕ) (low : level ≤ 7) (node : IsNode n least level root) where
  pub root_level-is : root_level n root ≡ level
  root_level-is = ap (min 7) (IsNode-form n least level root node).at_level ∙ (let e : min 7 level ≡ level = omega arith in e)

  pub root_node-is : root_least level ≤ least → IsRootNode n root
  root_node-is more = subst (λ l. IsNode n (root_least l) l root) (sym root_level-is) (IsNode-lower n least (root_least level) level root more node)

pub tree_pairs-is : (n : Records) (least level root : ℕ) → level ≤ 7 → 0 < root → IsNode n least level root → tree_pairs n root ≡ pairs_below n level root
tree_pairs-is n least level root low some node = tree_pairs-at n root some ∙ ap (λ l. pairs_below n l root) (root_level-is n least level root low node)

pub tree_nodes-is : (n : Records) (least level root : ℕ) → level ≤ 7 → 0 < root → IsNode n least level root → tree_nodes n root ≡ nodes_below n level root
tree_nodes-is n least level root low some node = tree_nodes-at n root some ∙ ap (λ l. nodes_below n l root) (root_level-is n least level root low node)
