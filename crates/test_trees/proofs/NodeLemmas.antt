-- The children of a node that was read.
use Rattle.std.proofs.Common.{◌≡◌, ℕ, suc, ◌<◌, ◌≤◌, length, get_or, sym, subst, arith}
use Rattle.list_lemmas.proofs.Each.{AllByRecursion-at}
use Rattle.entry_ref.specs.Records.{Records}
use Rattle.tree_read.specs.Nodes.{node_values}
use Rattle.tree_read.specs.Trees.{IsNode, IsRootNode, root_level, root_least}
use Rattle.tree_read.proofs.ChildLemmas.{IsNode-lower}
use Rattle.tree_read.proofs.ReadLemmas.{hand-read}
use Rattle.tree_read.proofs.RootLemmas.{root_least-some}
use Rattle.tree_read.proofs.SlotLemmas.{child_nodes}

pub child-is : (m : Records) (l node i : ℕ) → IsNode m 1 (suc l) node → i < length (node_values (m node))
    → IsNode m 1 l (get_or (node_values (m node)) i 0)
child-is m l node i is low =
    let few : 1 ≤ 8 = omega arith in
    IsNode-lower m 8 1 l (get_or (node_values (m node)) i 0) few
    (AllByRecursion-at (IsNode m 8 l) (node_values (m node)) i 0 low (child_nodes m l _ _ (hand-read m 1 (suc l) node is)))

pub top-is : (m : Records) (root level : ℕ) → level ≡ root_level m root → IsRootNode m root → IsNode m 1 level root
top-is m root level is node =
    let top = root_level m root in
    subst (λ k. IsNode m 1 k root) (sym is) (IsNode-lower m (root_least top) 1 top root (root_least-some top) node)
