-- Proofs, which are in specs/ since the laws of a layout cite them. They are not part of the specification.
-- If the records of a tree are the same in two maps, the tree is the same.
use Rattle.std.proofs.Common.{◌≡◌, ℕ, zero, suc, ◌<◌, List, [], ◌∷◌, ◌++◌, length, map, refl, sym, ap, subst, ◌∙◌, arith}
use Rattle.std.specs.Prelude.{min}
use Rattle.std.specs.declared.cmp.Ordering.{Ordering}
use Rattle.std.specs.List.{zip, flat_map, AllByRecursion}
use Rattle.std.specs.List.Sorted.{IsStrictlySortedBy}
use Rattle.list_lemmas.proofs.Each.{AllByRecursion-flat_map}
use Rattle.entry_ref.specs.Records.{Records, SameAt, AllThere}
use Rattle.tree_read.specs.Nodes.{level_of, count_of, node_keys, node_values, IsNodeForm}
use Rattle.tree_read.specs.Trees.{pairs_below, nodes_below, last_key, HasLastKeys, HasCount, IsNode, root_level, root_least, tree_pairs}
use Rattle.tree_read.specs.Trees.{tree_nodes, IsRootNode, IsTree}

pub SameAt-left : (m n : Records) (xs ys : List ℕ) → SameAt (xs ++ ys) m n → SameAt xs m n
SameAt-left m n [] ys h = tt
SameAt-left m n (x ∷ xs) ys h = (h.0, SameAt-left m n xs ys h.1)

pub SameAt-right : (m n : Records) (xs ys : List ℕ) → SameAt (xs ++ ys) m n → SameAt ys m n
SameAt-right m n [] ys h = h
SameAt-right m n (x ∷ xs) ys h = SameAt-right m n xs ys h.1

-- what holds for each element by the records that it reaches holds for the whole list
module _ {X : Type 0} (m n : Records) (reach : X → List ℕ) where
  pub flat_map-same : {Y : Type 0} (f g : X → List Y) → ((x : X) → SameAt (reach x) m n → g x ≡ f x)
      → (xs : List X) → SameAt (flat_map reach xs) m n → flat_map g xs ≡ flat_map f xs
  flat_map-same f g same [] h = refl
  flat_map-same f g same (x ∷ xs) h =
      let here = same x (SameAt-left m n (reach x) (flat_map reach xs) h) in
      let rest = flat_map-same f g same xs (SameAt-right m n (reach x) (flat_map reach xs) h) in
      ap (λ ys. ys ++ flat_map g xs) here ∙ ap (λ ys. f x ++ ys) rest

  pub map-same : {Y : Type 0} (f g : X → Y) → ((x : X) → SameAt (reach x) m n → g x ≡ f x)
      → (xs : List X) → SameAt (flat_map reach xs) m n → map g xs ≡ map f xs
  map-same f g same [] h = refl
  map-same f g same (x ∷ xs) h =
      let here = same x (SameAt-left m n (reach x) (flat_map reach xs) h) in
      let rest = map-same f g same xs (SameAt-right m n (reach x) (flat_map reach xs) h) in
      ap (λ y. y ∷ map g xs) here ∙ ap (λ ys. f x ∷ ys) rest

  pub all-same : (P Q : X → Type 0) → ((x : X) → SameAt (reach x) m n → P x → Q x)
      → (xs : List X) → SameAt (flat_map reach xs) m n → AllByRecursion P xs → AllByRecursion Q xs
  all-same P Q same [] h all = tt
  all-same P Q same (x ∷ xs) h all = (
    same x (SameAt-left m n (reach x) (flat_map reach xs) h) all.0,
    all-same P Q same xs (SameAt-right m n (reach x) (flat_map reach xs) h) all.1,
  )

pub pairs-same : (m n : Records) (level ref : ℕ) → SameAt (nodes_below m level ref) m n → pairs_below n level ref ≡ pairs_below m level ref
unfolding pairs_below nodes_below
pairs-same m n zero ref h = ap (λ ws. zip (node_keys ws) (node_values ws)) h.0
pairs-same m n (suc level) ref h =
    ap (λ ws. flat_map (pairs_below n level) (node_values ws)) h.0
    ∙ flat_map-same m n (nodes_below m level) (pairs_below m level) (pairs_below n level) (pairs-same m n level) (node_values (m ref)) h.1

pub nodes-same : (m n : Records) (level ref : ℕ) → SameAt (nodes_below m level ref) m n → nodes_below n level ref ≡ nodes_below m level ref
unfolding nodes_below
nodes-same m n zero ref h = refl
nodes-same m n (suc level) ref h =
    ap (λ ws. ref ∷ flat_map (nodes_below n level) (node_values ws)) h.0
    ∙ ap (λ qs. ref ∷ qs) (flat_map-same m n (nodes_below m level) (nodes_below m level) (nodes_below n level) (nodes-same m n level)
    (node_values (m ref)) h.1)

pub IsNode-same : (m n : Records) (least level ref : ℕ) → SameAt (nodes_below m level ref) m n → IsNode m least level ref
    → IsNode n least level ref
unfolding IsNode nodes_below
IsNode-same m n least zero ref h node =
    (subst (IsNodeForm 0 least) (sym h.0) node.0, ap count_of h.0 ∙ node.1 ∙ sym (ap length (pairs-same m n zero ref h)))
IsNode-same m n least (suc level) ref h node =
    let count : HasCount n (suc level) ref = ap count_of h.0 ∙ node.1 ∙ sym (ap length (pairs-same m n (suc level) ref h)) in
    let keys : HasLastKeys n level (m ref) =
    node.2 ∙ sym (map-same m n (nodes_below m level) (λ c. last_key (pairs_below m level c)) (λ c. last_key (pairs_below n level c))
    (λ c s. ap last_key (pairs-same m n level c s)) (node_values (m ref)) h.1) in
    let below : AllByRecursion (IsNode n 8 level) (node_values (m ref)) =
    all-same m n (nodes_below m level) (IsNode m 8 level) (IsNode n 8 level) (IsNode-same m n 8 level)
    (node_values (m ref)) h.1 node.3 in (
      subst (IsNodeForm (suc level) least) (sym h.0) node.0,
      count,
      subst (HasLastKeys n level) (sym h.0) keys,
      subst (λ ws. AllByRecursion (IsNode n 8 level) (node_values ws)) (sym h.0) below,
    )

-- a node is the first of the nodes that it reaches
pub node-same : (m n : Records) (level ref : ℕ) → SameAt (nodes_below m level ref) m n → n ref ≡ m ref
unfolding nodes_below
node-same m n zero ref h = h.0
node-same m n (suc level) ref h = h.0

pub tree_pairs-same : (m n : Records) (root : ℕ) → SameAt (tree_nodes m root) m n → tree_pairs n root ≡ tree_pairs m root
tree_pairs-same m n zero h = refl
tree_pairs-same m n (suc ref) h =
    ap (λ ws. pairs_below n (min 7 (level_of ws)) (suc ref)) (node-same m n (root_level m (suc ref)) (suc ref) h)
    ∙ pairs-same m n (root_level m (suc ref)) (suc ref) h

pub tree_nodes-same : (m n : Records) (root : ℕ) → SameAt (tree_nodes m root) m n → tree_nodes n root ≡ tree_nodes m root
tree_nodes-same m n zero h = refl
tree_nodes-same m n (suc ref) h =
    ap (λ ws. nodes_below n (min 7 (level_of ws)) (suc ref)) (node-same m n (root_level m (suc ref)) (suc ref) h)
    ∙ nodes-same m n (root_level m (suc ref)) (suc ref) h

pub IsRootNode-same : (m n : Records) (root : ℕ) → SameAt (tree_nodes m root) m n → 0 < root → IsRootNode m root → IsRootNode n root
IsRootNode-same m n zero h some node = absurd (omega arith)
IsRootNode-same m n (suc ref) h some node =
    let same = node-same m n (root_level m (suc ref)) (suc ref) h in
    subst (λ ws. IsNode n (root_least (min 7 (level_of ws))) (min 7 (level_of ws)) (suc ref)) (sym same)
    (IsNode-same m n (root_least (root_level m (suc ref))) (root_level m (suc ref)) (suc ref) h node)

-- a tree stays the same while its nodes and what its keys read as stay the same
pub IsTree-same : {V : Type 0} (order : V → V → Ordering) (read : Records → ℕ → V) (m n : Records) (root : ℕ)
    → SameAt (tree_nodes m root) m n
    → map (λ p. read n p.0) (tree_pairs m root) ≡ map (λ p. read m p.0) (tree_pairs m root) → IsTree order read m root
    → IsTree order read n root
IsTree-same order read m n root h reads tree = record {
  node = λ some. IsRootNode-same m n root h some (tree.node some);
  ascends = subst (IsStrictlySortedBy order) (sym (ap (λ ps. map (λ p. read n p.0) ps) (tree_pairs-same m n root h) ∙ reads)) tree.ascends;
}

-- every node of a tree exists
pub nodes_there : (m : Records) (least level ref : ℕ) → IsNode m least level ref
    → AllByRecursion (λ q. 0 < length (m q)) (nodes_below m level ref)
unfolding IsNode nodes_below
nodes_there m least zero ref node = (let s = node.0.size in omega arith, tt)
nodes_there m least (suc level) ref node = (
  let s = node.0.size in
      omega arith,
  AllByRecursion-flat_map (λ q. 0 < length (m q)) (IsNode m 8 level) (nodes_below m level) (nodes_there m 8 level)
      (node_values (m ref)) node.3,
)

pub there-both : (m : Records) (xs ys : List ℕ) → AllThere xs m → AllThere ys m → AllThere (xs ++ ys) m
there-both m [] ys a b = b
there-both m (x ∷ xs) ys a b = (a.0, there-both m xs ys a.1 b)

there-all : (m : Records) (xs : List ℕ) → AllByRecursion (λ q. 0 < length (m q)) xs → AllThere xs m
there-all m [] all = tt
there-all m (x ∷ xs) all = (all.0, there-all m xs all.1)

pub tree_there : (m : Records) (root : ℕ) → (0 < root → IsRootNode m root) → AllThere (tree_nodes m root) m
tree_there m zero node = tt
tree_there m (suc ref) node =
    there-all m (nodes_below m (root_level m (suc ref)) (suc ref))
    (nodes_there m (root_least (root_level m (suc ref))) (root_level m (suc ref)) (suc ref) (node (omega arith)))
