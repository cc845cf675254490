-- The way to a key: it goes through the place that is found, and is the same where the nodes are.
use Rattle.std.proofs.Common.{◌≡◌, ◌≢◌, inl, inr, ⊎_elim, ℕ, zero, suc, ◌<◌, ◌≤◌, List, [], ◌∷◌, length, get_or, refl, ap, ◌∙◌, arith}
use Rattle.std.specs.declared.cmp.Ordering.{Ordering}
use Rattle.std.specs.declared.cmp.Ordering.TheVariants.{Less, Equal, Greater}
use Rattle.std.specs.List.{AllByRecursion}
use Rattle.entry_ref.specs.Records.{Records, SameAt}
use Rattle.tree_read.specs.Pairs.{choose}
use Rattle.tree_read.proofs.TreeLemmas.{nodes-kept}
use Rattle.tree_read.specs.Nodes.{node_keys, node_values}
use Rattle.tree_read.specs.ProofsForTrees.{all-same}
use Rattle.tree_read.specs.Trees.{nodes_below, root_level, IsNode, Keeps}
use Rattle.tree_read.proofs.ChildLemmas.{keys-length}
use Rattle.tree_read.proofs.ReadLemmas.{node-even}
use Rattle.tree_read.proofs.RootLemmas.{root_level-is}
use Rattle.tree_read.specs.NodePlaces.{IsPlace}
use Rattle.frozen_btree.specs.Paths.{child_of, path_below, path_nodes}

stops : (o : Ordering) (a v : ℕ) → o ≢ Less → choose o a v v ≡ v
stops Less a v ne = absurd (ne refl)
stops Equal a v ne = refl
stops Greater a v ne = refl

-- the way goes through the slot under which the key is sought
pub child-place : (c : ℕ → Ordering) (ks vs : List ℕ) (i : ℕ) → length ks ≡ length vs → IsPlace c ks i → child_of c ks vs ≡ get_or vs i 0
child-place c [] vs i even place = let within = place.within in absurd (omega arith)
child-place c (k ∷ []) vs zero even place = refl
child-place c (k ∷ []) vs (suc i) even place = let within = place.within in absurd (omega arith)
child-place c (k ∷ l ∷ ks) [] i even place = absurd (omega arith)
child-place c (k ∷ l ∷ ks) (v ∷ vs) zero even place =
    ⊎_elim (λ ne. stops (c k) (child_of c (l ∷ ks) vs) v ne) (λ (last : 1 ≡ suc (suc (length ks))). absurd (omega arith)) place.at
child-place c (k ∷ l ∷ ks) (v ∷ vs) (suc i) even place =
    ap (λ o. choose o (child_of c (l ∷ ks) vs) v v) (place.before 0 (omega arith))
    ∙ child-place c (l ∷ ks) vs i (omega arith) (record {
      within = let within = place.within in omega arith;
      before = λ j h. place.before (suc j) (omega arith);
      at = ⊎_elim (λ ne. inl ne) (λ (last : suc (suc i) ≡ suc (suc (length ks))). inr (omega arith)) place.at;
    })

-- what holds of each child holds of the one on the way
child-all : (P : ℕ → Type 0) (c : ℕ → Ordering) (ks vs : List ℕ) → length ks ≡ length vs → 0 < length ks → AllByRecursion P vs → P (child_of c ks vs)
child-all P c [] vs even some all = absurd (omega arith)
child-all P c (k ∷ []) [] even some all = absurd (omega arith)
child-all P c (k ∷ []) (v ∷ vs) even some all = all.0
child-all P c (k ∷ l ∷ ks) [] even some all = absurd (omega arith)
child-all P c (k ∷ l ∷ ks) (v ∷ vs) even some all =
    elim (c k) as (λ o. P (choose o (child_of c (l ∷ ks) vs) v v)) [
      | Less ↦ child-all P c (l ∷ ks) vs (omega arith) (omega arith) all.1
      | Equal ↦ all.0
      | Greater ↦ all.0
    ]

pub path-leaf : (m : Records) (c : ℕ → Ordering) (ref : ℕ) → path_below m c 0 ref ≡ ref ∷ []
unfolding path_below
path-leaf m c ref = refl

pub path-over : (m : Records) (c : ℕ → Ordering) (level ref : ℕ) → path_below m c (suc level) ref ≡ ref ∷ path_below m c level (child_of c (node_keys (m ref)) (node_values (m ref)))
unfolding path_below
path-over m c level ref = refl

-- the way is the same where the nodes are
pub path-same : (m n : Records) (c : ℕ → Ordering) (least level ref : ℕ) → 0 < least → SameAt (nodes_below m level ref) m n → IsNode m least level ref
    → path_below n c level ref ≡ path_below m c level ref
unfolding path_below nodes_below IsNode
path-same m n c least zero ref some same node = refl
path-same m n c least (suc level) ref some same node =
    let here : IsNode m least (suc level) ref = node in
    let ks = node_keys (m ref) in
    let vs = node_values (m ref) in
    let used = keys-length m least (suc level) ref here in
    let filled = node.0.filled in
    let all = all-same m n (nodes_below m level) (IsNode m 8 level) (λ v. path_below n c level v ≡ path_below m c level v)
    (λ v s is. path-same m n c 8 level v (omega arith) s is) vs same.1 node.3 in
    ap (λ ws. ref ∷ path_below n c level (child_of c (node_keys ws) (node_values ws))) same.0
    ∙ ap (λ qs. ref ∷ qs) (child-all (λ v. path_below n c level v ≡ path_below m c level v) c ks vs (node-even m least (suc level) ref here) (omega arith) all)

pub path-kept : (m n : Records) (c : ℕ → Ordering) (least level ref : ℕ) → 0 < least → Keeps m n → IsNode m least level ref
    → path_below n c level ref ≡ path_below m c level ref
path-kept m n c least level ref some keeps node = path-same m n c least level ref some (nodes-kept m n least level ref keeps node) node

path_nodes-at : (n : Records) (c : ℕ → Ordering) (root : ℕ) → 0 < root → path_nodes n c root ≡ path_below n c (root_level n root) root
path_nodes-at n c zero some = absurd (omega arith)
path_nodes-at n c (suc ref) some = refl

pub path_nodes-is : (n : Records) (c : ℕ → Ordering) (least level root : ℕ) → level ≤ 7 → 0 < root → IsNode n least level root → path_nodes n c root ≡ path_below n c level root
path_nodes-is n c least level root low some node = path_nodes-at n c root some ∙ ap (λ l. path_below n c l root) (root_level-is n least level root low node)
