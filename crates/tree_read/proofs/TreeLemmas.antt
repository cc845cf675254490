-- What the form of nodes says of a tree, and that new records leave old trees.
use Rattle.std.proofs.Common.{◌≡◌, ℕ, zero, suc, ◌*◌, ◌^◌, ◌<◌, ◌≤◌, List, [], ◌∷◌, length, map, refl, sym, subst, ◌∙◌, arith, length-take, length-drop, length-append, get_or, mul-le-mul_right, suc-mul, ◌++◌}
use Rattle.std.proofs.lemmas.List.{length-map}
use Rattle.std.proofs.lemmas.Map.Keys.{below_from_sorted}
use Rattle.std.proofs.Math.Nat.{pow-suc}
use Rattle.std.specs.List.{flat_map, AllByRecursion, zip}
use Rattle.std.specs.Ordering.{nat_cmp}
use Rattle.list_lemmas.proofs.Pairs.{length-zip_even}
use Rattle.list_lemmas.proofs.Each.{AllByRecursion-weaker}
use Rattle.entry_ref.specs.Records.{Records, SameAt}
use Rattle.tree_read.specs.Nodes.{level_of, used_of, count_of, node_keys, node_values, IsNodeForm}
use Rattle.tree_read.specs.ProofsForTrees.{nodes_there, tree_pairs-same, IsRootNode-same}
use Rattle.tree_read.specs.Trees.{pairs_below, nodes_below, IsNode, root_level, root_least, tree_pairs, tree_nodes, IsRootNode, IsTree, by_number, Keeps, last_key}

pub IsNode-form : (m : Records) (least level ref : ℕ) → IsNode m least level ref → IsNodeForm level least (m ref)
unfolding IsNode
IsNode-form m least zero ref node = node.0
IsNode-form m least (suc level) ref node = node.0

pub IsNode-count : (m : Records) (least level ref : ℕ) → IsNode m least level ref → count_of (m ref) ≡ length (pairs_below m level ref)
unfolding IsNode
IsNode-count m least zero ref node = node.1
IsNode-count m least (suc level) ref node = node.1

module _ (level least : ℕ) (ws : List ℕ) (form : IsNodeForm level least ws) where
  pub length-node_keys : length (node_keys ws) ≡ used_of ws
  length-node_keys = let s = form.size in let b = form.room in simp (length-take, length-drop) (omega arith)

  pub length-node_values : length (node_values ws) ≡ used_of ws
  length-node_values = let s = form.size in let b = form.room in simp (length-take, length-drop) (omega arith)

SameAt-kept : (m n : Records) → Keeps m n → (qs : List ℕ) → AllByRecursion (λ q. 0 < length (m q)) qs → SameAt qs m n
SameAt-kept m n keeps [] all = tt
SameAt-kept m n keeps (q ∷ qs) all = (keeps q all.0, SameAt-kept m n keeps qs all.1)

-- so new records leave them as they are
pub nodes-kept : (m n : Records) (least level ref : ℕ) → Keeps m n → IsNode m least level ref → SameAt (nodes_below m level ref) m n
nodes-kept m n least level ref keeps node = SameAt-kept m n keeps (nodes_below m level ref) (nodes_there m least level ref node)

tree_nodes-kept : (m n : Records) (root : ℕ) → Keeps m n → 0 < root → IsRootNode m root → SameAt (tree_nodes m root) m n
tree_nodes-kept m n zero keeps some node = tt
tree_nodes-kept m n (suc ref) keeps some node = nodes-kept m n (root_least (root_level m (suc ref))) (root_level m (suc ref)) (suc ref) keeps node

pub tree_pairs-kept : (m n : Records) (root : ℕ) → Keeps m n → 0 < root → IsRootNode m root → tree_pairs n root ≡ tree_pairs m root
tree_pairs-kept m n root keeps some node = tree_pairs-same m n root (tree_nodes-kept m n root keeps some node)

pub IsRootNode-kept : (m n : Records) (root : ℕ) → Keeps m n → 0 < root → IsRootNode m root → IsRootNode n root
IsRootNode-kept m n root keeps some node = IsRootNode-same m n root (tree_nodes-kept m n root keeps some node) some node

pub keys_ascend : (m : Records) (root i j : ℕ) → IsTree nat_cmp by_number m root → i < j → j < length (tree_pairs m root)
    → get_or (map (λ p. p.0) (tree_pairs m root)) i 0 < get_or (map (λ p. p.0) (tree_pairs m root)) j 0
keys_ascend m root i j tree less below = below_from_sorted (map (λ p. p.0) (tree_pairs m root)) i j 0 tree.ascends less (subst (λ n. j < n) (sym (length-map (tree_pairs m root) (λ (p : ℕ × ℕ). p.0))) below)

pub root_count : (m : Records) (root : ℕ) → 0 < root → IsRootNode m root → count_of (m root) ≡ length (tree_pairs m root)
root_count m zero some node = absurd (omega arith)
root_count m (suc ref) some node = IsNode-count m (root_least (root_level m (suc ref))) (root_level m (suc ref)) (suc ref) node

-- lists of so many each make so many together
length-flat_map : {X : Type 0} (f : ℕ → List X) (k : ℕ) (cs : List ℕ) → AllByRecursion (λ c. k ≤ length (f c)) cs → length cs * k ≤ length (flat_map f cs)
length-flat_map f k [] all = omega arith
length-flat_map f k (c ∷ cs) all =
    let here = all.0 in
    let rest = length-flat_map f k cs all.1 in
    simp length-append (omega (arith, suc-mul (length cs) k))

-- a node of a level has many pairs
pub pairs_many : (m : Records) (least level ref : ℕ) → IsNode m least level ref → least * 8 ^ level ≤ length (pairs_below m level ref)
unfolding IsNode pairs_below
pairs_many m least zero ref node =
    let keys = length-node_keys 0 least (m ref) node.0 in
    let values = length-node_values 0 least (m ref) node.0 in
    let is = length-zip_even (node_keys (m ref)) (node_values (m ref)) (keys ∙ sym values) in
    let filled = node.0.filled in
    omega arith
pairs_many m least (suc level) ref node =
    let values = length-node_values (suc level) least (m ref) node.0 in
    let each = AllByRecursion-weaker (IsNode m 8 level) (λ c. 8 * 8 ^ level ≤ length (pairs_below m level c)) (pairs_many m 8 level) (node_values (m ref)) node.3 in
    let all : length (node_values (m ref)) * (8 * 8 ^ level) ≤ length (flat_map (pairs_below m level) (node_values (m ref))) = length-flat_map (pairs_below m level) (8 * 8 ^ level) (node_values (m ref)) each in
    let filled : least ≤ length (node_values (m ref)) = let f = node.0.filled in omega arith in
    let less : least * (8 * 8 ^ level) ≤ length (node_values (m ref)) * (8 * 8 ^ level) = mul-le-mul_right (8 * 8 ^ level) filled in
    let power : 8 ^ suc level ≡ 8 * 8 ^ level = omega (arith, pow-suc 8 level) in
    subst (λ k. least * k ≤ length (flat_map (pairs_below m level) (node_values (m ref)))) (sym power) (omega arith)

pub root_least-above : (level : ℕ) → 0 < level → root_least level ≡ 2
root_least-above zero some = absurd (omega arith)
root_least-above (suc level) some = refl

pub many_pairs : (m : Records) (root : ℕ) → 0 < root → IsRootNode m root → 0 < level_of (m root) → 2 * 8 ^ level_of (m root) ≤ length (tree_pairs m root)
many_pairs m zero some node above = absurd (omega arith)
many_pairs m (suc ref) some node above =
    let is : level_of (m (suc ref)) ≡ root_level m (suc ref) = (IsNode-form m (root_least (root_level m (suc ref))) (root_level m (suc ref)) (suc ref) node).at_level in
    let least : root_least (root_level m (suc ref)) ≡ 2 = root_least-above (root_level m (suc ref)) (subst (λ l. 0 < l) is above) in
    let many = pairs_many m (root_least (root_level m (suc ref))) (root_level m (suc ref)) (suc ref) node in
    subst (λ l. 2 * 8 ^ l ≤ length (pairs_below m (root_level m (suc ref)) (suc ref))) (sym is)
    (subst (λ k. k * 8 ^ root_level m (suc ref) ≤ length (pairs_below m (root_level m (suc ref)) (suc ref))) least many)

-- a leaf's pairs
pub leaf_pairs : (m : Records) (ref : ℕ) → pairs_below m 0 ref ≡ zip (node_keys (m ref)) (node_values (m ref))
unfolding pairs_below
leaf_pairs m ref = refl

pub last_key-append : (xs ys : List (ℕ × ℕ)) → 0 < length ys → last_key (xs ++ ys) ≡ last_key ys
last_key-append [] ys some = refl
last_key-append (x ∷ []) [] some = absurd (omega arith)
last_key-append (x ∷ []) (y ∷ ys) some = refl
last_key-append (x ∷ z ∷ xs) ys some = last_key-append (z ∷ xs) ys some

-- a tree of many pairs has a root
pub root_of_many : (m : Records) (root : ℕ) → 8 < length (tree_pairs m root) → 0 < root
root_of_many m zero many = absurd (omega arith)
root_of_many m (suc ref) many = omega arith
