-- A tree touched at its root, and its way to the key once the replaced nodes are dropped.
use Rattle.std.proofs.Common.{◌≡◌, ℕ, zero, suc, ◌<◌, ◌≤◌, List, [], ◌∷◌, refl, sym, ap, subst, ◌∙◌, arith}
use Rattle.std.specs.declared.cmp.Ordering.{Ordering}
use Rattle.entry_ref.specs.Records.{Records, SameAt}
use Rattle.store_api.specs.Ledgers.{Ledger}
use Rattle.store_api.specs.Parts.{times, Owns}
use Rattle.store_api.proofs.PartLemmas.{same_at}
use Rattle.store_api.proofs.Times.{all_from_times}
use Rattle.store_api.proofs.Uses.{uses-few}
use Rattle.tree_read.specs.Nodes.{used_of}
use Rattle.tree_read.specs.Trees.{root_level, root_least, tree_pairs, tree_nodes, IsRootNode, IsTree}
use Rattle.tree_read.specs.ProofsForTrees.{node-same}
use Rattle.tree_read.proofs.RootLemmas.{root_least-some, tree_pairs-is, tree_nodes-is, root_node-is}
use Rattle.frozen_btree.specs.Changes.{DropsEntries, Rebuilds, tree}
use Rattle.frozen_btree.proofs.TopLemmas.{root-pairs, root-nodes, root-used}
use Rattle.frozen_btree.specs.Paths.{NoneIn, path_nodes, path_below}
use Rattle.frozen_btree.specs.Touches.{Touches}
use Rattle.frozen_btree.proofs.PathLemmas.{path-same, path_nodes-is}

-- the root was touched
module _ {H : Type 0} {V : Type 0} (order : V → V → Ordering) (read : Records → ℕ → V) (m n : Records) (old mid : Ledger H) (bits buffer : ℕ) (c : ℕ → Ordering) (root level : ℕ)
    (tree_is : IsTree order read m root) (some : 0 < root) (level_is : level ≡ root_level m root) (low : level ≤ 7) (next : ℕ) (gone : List ℕ)
    (x : Touches bits buffer c old mid m n level root next [] gone) where
  pub root-touched : Rebuilds old mid m n root next gone (tree_pairs m root)
  root-touched = record {
    node = λ there. root_node-is n (used_of (m root)) level next low x.node_is (root-used order read m root tree_is some level level_is);
    pairs_are = tree_pairs-is n (used_of (m root)) level next low x.some x.node_is ∙ x.pairs_are ∙ sym (root-pairs order read m root tree_is some level level_is);
    balance = λ r.
        let even = x.balance r in
        let was = ap (times r) (root-nodes order read m root tree_is some level level_is) in
        let now = ap (times r) (tree_nodes-is n (used_of (m root)) level next low x.some x.node_is) in
        omega arith;
    gone_of = λ r. let few = x.gone r in let was = ap (times r) (root-nodes order read m root tree_is some level level_is) in omega arith;
  }

  pub root-apart : NoneIn bits buffer (path_nodes n c next)
  root-apart = subst (NoneIn bits buffer) (sym (path_nodes-is n c (used_of (m root)) level next low x.some x.node_is)) x.apart

-- no tree stays none
pub none-rebuilt : {H : Type 0} (ledger : Ledger H) (m : Records) (root : ℕ) → root ≡ 0 → Rebuilds ledger ledger m m root root [] (tree_pairs m root)
none-rebuilt ledger m zero none = record {
  node = λ some. absurd (omega arith);
  pairs_are = refl;
  balance = λ r. omega arith;
  gone_of = λ r. omega arith;
}
none-rebuilt ledger m (suc ref) none = absurd (omega arith)

pub none-apart : (bits buffer : ℕ) (m : Records) (c : ℕ → Ordering) (root : ℕ) → root ≡ 0 → NoneIn bits buffer (path_nodes m c root)
none-apart bits buffer m c zero none = tt
none-apart bits buffer m c (suc ref) none = absurd (omega arith)

-- the way is the same in a tree whose nodes are the same
pub path_nodes-same : (m n : Records) (c : ℕ → Ordering) (root : ℕ) → SameAt (tree_nodes m root) m n → (0 < root → IsRootNode m root) → path_nodes n c root ≡ path_nodes m c root
path_nodes-same m n c zero same node = refl
path_nodes-same m n c (suc ref) same node =
    let level = root_level m (suc ref) in
    ap (λ l. path_below n c l (suc ref)) (level-same m n (suc ref) (omega arith) same)
    ∙ path-same m n c (root_least level) level (suc ref) (root_least-some level) same (node (omega arith))
  where
    level-same : (j k : Records) (r : ℕ) → 0 < r → SameAt (tree_nodes j r) j k → root_level k r ≡ root_level j r
    level-same j k zero there s = absurd (omega arith)
    level-same j k (suc r) there s = ap (λ ws. root_level (λ q. ws) (suc r)) (node-same j k (root_level j (suc r)) (suc r) s)

-- what is dropped is no node of the new tree
pub nodes-left : {H : Type 0} (old mid new : Ledger H) (m n o : Records) (root next : ℕ) (gone : List ℕ) (pairs : List (ℕ × ℕ)) → Owns old m (tree root ∷ [])
    → Rebuilds old mid m n root next gone pairs → DropsEntries mid new n o gone → SameAt (tree_nodes n next) n o
nodes-left old mid new m n o root next gone pairs owns it drops =
    same_at n o (tree_nodes n next) (all_from_times (λ r. o r ≡ n r) (tree_nodes n next) (λ r there.
    drops.records r (let even = it.balance r in let few = uses-few mid r in let own = owns.each r in omega arith)))
