-- The nodes and the keys below a node that two trees have.
use Rattle.std.proofs.Common.{◌≡◌, ℕ, zero, suc, ◌<◌, List, [], ◌∷◌, ◌++◌, map, inl, inr, refl, sym, ap, subst, ◌∙◌, arith}
use Rattle.std.specs.List.{flat_map, AllByRecursion}
use Rattle.entry_ref.proofs.Among.{Among-all, SameAt-among}
use Rattle.value_index.proofs.KeyLemmas.{among_left, among_right}
use Rattle.entry_ref.specs.References.{buffer_of}
use Rattle.entry_ref.specs.Records.{Records, SameAt, Among}
use Rattle.tree_read.proofs.TreeLemmas.{IsNode-form}
use Rattle.tree_read.specs.Nodes.{level_of, node_values}
use Rattle.tree_read.specs.ProofsForTrees.{pairs-same, tree_nodes-same, IsRootNode-same}
use Rattle.tree_read.specs.Trees.{nodes_below, pairs_below, root_least, root_level, tree_nodes, IsNode, IsRootNode}
use Rattle.frozen_btree.proofs.WayLemmas.{find_child, keys_flat}
use Rattle.frozen_btree.specs.Ways.{keys_below, tree_keys}
use Rattle.compaction_moves.specs.Cleared.{NodesAreCleared}

abbrev keys : List (ℕ × ℕ) → List ℕ
keys ps = map (λ p. p.0) ps

-- ---- among lists one after another
pub among_flat : (f : ℕ → List ℕ) (vs : List ℕ) (v r : ℕ) → Among v vs → Among r (f v) → Among r (flat_map f vs)
among_flat f [] v r there among = absurd there
among_flat f (w ∷ vs) v r (inl e) among = among_left r (f w) (flat_map f vs) (subst (λ x. Among r (f x)) e among)
among_flat f (w ∷ vs) v r (inr later) among = among_right r (f w) (flat_map f vs) (among_flat f vs v r later among)

-- ---- nodes and keys below a node of a tree are the tree's
module _ (m : Records) where
  level_is : (least level ref r : ℕ) → r ≡ ref → IsNode m least level ref → level_of (m r) ≡ level
  level_is least level ref r e node = ap (λ x. level_of (m x)) e ∙ (IsNode-form m least level ref node).at_level

  nodes_of : (least level ref : ℕ) → IsNode m least (suc level) ref → AllByRecursion (IsNode m 8 level) (node_values (m ref))
  unfolding IsNode
  nodes_of least level ref node = node.3

  own_keys : (least level ref r k : ℕ) → r ≡ ref → IsNode m least level ref → Among k (keys_below m r) → Among k (keys (pairs_below m level ref))
  own_keys least level ref r k e node among =
      subst (λ x. Among k (keys (pairs_below m level x))) e (subst (λ l. Among k (keys (pairs_below m l r))) (level_is least level ref r e node) among)

  own_nodes : (least level ref r x : ℕ) → r ≡ ref → IsNode m least level ref → Among x (nodes_below m (level_of (m r)) r) → Among x (nodes_below m level ref)
  own_nodes least level ref r x e node among =
      subst (λ q. Among x (nodes_below m level q)) e (subst (λ l. Among x (nodes_below m l r)) (level_is least level ref r e node) among)

  flat_keys : (l r k : ℕ) → Among k (keys (flat_map (pairs_below m l) (node_values (m r)))) → Among k (keys (pairs_below m (suc l) r))
  unfolding pairs_below
  flat_keys l r k among = among

  keys_of_node : (least level ref : ℕ) → IsNode m least level ref → (r k : ℕ) → Among r (nodes_below m level ref) → Among k (keys_below m r)
      → Among k (keys (pairs_below m level ref))
  unfolding nodes_below
  keys_of_node least zero ref node r k (inl e) among = own_keys least 0 ref r k e node among
  keys_of_node least zero ref node r k (inr later) among = absurd later
  keys_of_node least (suc level) ref node r k (inl e) among = own_keys least (suc level) ref r k e node among
  keys_of_node least (suc level) ref node r k (inr later) among =
      let found = find_child (nodes_below m level) (node_values (m ref)) r later in
      let child = Among-all (IsNode m 8 level) (node_values (m ref)) (nodes_of least level ref node) found.0 found.1 in
      flat_keys level ref k (keys_flat (pairs_below m level) (node_values (m ref)) found.0 k found.1 (keys_of_node 8 level found.0 child r k found.2 among))

  flat_nodes : (l r x : ℕ) → Among x (flat_map (nodes_below m l) (node_values (m r))) → Among x (nodes_below m (suc l) r)
  unfolding nodes_below
  flat_nodes l r x among = inr among

  nodes_of_node : (least level ref : ℕ) → IsNode m least level ref → (r x : ℕ) → Among r (nodes_below m level ref) → Among x (nodes_below m (level_of (m r)) r)
      → Among x (nodes_below m level ref)
  unfolding nodes_below
  nodes_of_node least zero ref node r x (inl e) among = own_nodes least 0 ref r x e node among
  nodes_of_node least zero ref node r x (inr later) among = absurd later
  nodes_of_node least (suc level) ref node r x (inl e) among = own_nodes least (suc level) ref r x e node among
  nodes_of_node least (suc level) ref node r x (inr later) among =
      let found = find_child (nodes_below m level) (node_values (m ref)) r later in
      let child = Among-all (IsNode m 8 level) (node_values (m ref)) (nodes_of least level ref node) found.0 found.1 in
      flat_nodes level ref x (among_flat (nodes_below m level) (node_values (m ref)) found.0 x found.1 (nodes_of_node 8 level found.0 child r x found.2 among))

  pub keys_of_tree : (root node k : ℕ) → (0 < root → IsRootNode m root) → Among node (tree_nodes m root) → Among k (keys_below m node) → Among k (tree_keys m root)
  keys_of_tree zero node k is among below = absurd among
  keys_of_tree (suc ref) node k is among below =
      keys_of_node (root_least (root_level m (suc ref))) (root_level m (suc ref)) (suc ref) (is (omega arith)) node k among below

  pub nodes_of_tree : (root node x : ℕ) → (0 < root → IsRootNode m root) → Among node (tree_nodes m root) → Among x (nodes_below m (level_of (m node)) node)
      → Among x (tree_nodes m root)
  nodes_of_tree zero node x is among below = absurd among
  nodes_of_tree (suc ref) node x is among below =
      nodes_of_node (root_least (root_level m (suc ref))) (root_level m (suc ref)) (suc ref) (is (omega arith)) node x among below

-- ---- where the records of the nodes that are below in both are the same, all below is the same
module _ (m n : Records) where
  same_both : (xs ys : List ℕ) → SameAt xs m n → SameAt ys m n → SameAt (xs ++ ys) m n
  same_both [] ys first second = second
  same_both (x ∷ xs) ys first second = (first.0, same_both xs ys first.1 second)

  same_children : (f : ℕ → List ℕ) (vs : List ℕ) → ((v : ℕ) → Among v vs → SameAt (f v) m n) → SameAt (flat_map f vs) m n
  same_children f [] each = tt
  same_children f (v ∷ vs) each = same_both (f v) (flat_map f vs) (each v (inl refl)) (same_children f vs (λ w later. each w (inr later)))

  below_same : (level ref : ℕ) → ((x : ℕ) → Among x (nodes_below m level ref) → Among x (nodes_below n level ref) → n x ≡ m x) → SameAt (nodes_below m level ref) m n
  unfolding nodes_below
  below_same zero ref each = (each ref (inl refl) (inl refl), tt)
  below_same (suc level) ref each =
      let here : n ref ≡ m ref = each ref (inl refl) (inl refl) in (
        here,
        same_children (nodes_below m level) (node_values (m ref)) (λ v there. below_same level v (λ x old new.
            each x (inr (among_flat (nodes_below m level) (node_values (m ref)) v x there old))
            (inr (among_flat (nodes_below n level) (node_values (n ref)) v x (subst (λ ws. Among v (node_values ws)) (sym here) there) new)))),
      )

  -- so a node of both trees has the same keys below it
  pub keys_below_same : (root next node : ℕ) → (0 < root → IsRootNode m root) → (0 < next → IsRootNode n next) → Among node (tree_nodes m root) → Among node (tree_nodes n next)
      → ((x : ℕ) → Among x (tree_nodes m root) → Among x (tree_nodes n next) → n x ≡ m x) → keys_below n node ≡ keys_below m node
  keys_below_same root next node is next_is old new common =
      let here : n node ≡ m node = common node old new in
      let level = level_of (m node) in
      let at : level_of (n node) ≡ level = ap level_of here in
      let same = below_same level node (λ x a b. common x (nodes_of_tree m root node x is old a)
      (nodes_of_tree n next node x next_is new (subst (λ l. Among x (nodes_below n l node)) (sym at) b))) in
      ap (λ l. keys (pairs_below n l node)) at ∙ ap (λ ps. keys ps) (pairs-same m n level node same)

-- ---- a tree in place of another, whose nodes in the buffer are nodes of the other
pub nodes_moved : (bits buffer : ℕ) (m n : Records) (root next : ℕ) → (0 < root → IsRootNode m root) → (0 < next → IsRootNode n next)
    → ((node : ℕ) → Among node (tree_nodes n next) → buffer_of bits node ≡ buffer → Among node (tree_nodes m root))
    → ((x : ℕ) → Among x (tree_nodes m root) → Among x (tree_nodes n next) → n x ≡ m x) → (before after : ℕ → Type 0)
    → ((node key : ℕ) → Among node (tree_nodes n next) → buffer_of bits node ≡ buffer → Among key (keys_below n node) → Among key (tree_keys m root) → after key → before key)
    → NodesAreCleared bits buffer m before root → NodesAreCleared bits buffer n after next
nodes_moved bits buffer m n root next is next_is was common before after still cleared node among lies key below visited =
    let old = was node among lies in
    let there = subst (λ ks. Among key ks) (keys_below_same m n root next node is next_is old among common) below in
    cleared node old lies key there (still node key among lies below (keys_of_tree m root node key is old there) visited)

-- a tree that stays
pub nodes_stay : (bits buffer : ℕ) (m n : Records) (root : ℕ) → (0 < root → IsRootNode m root) → SameAt (tree_nodes m root) m n → (before after : ℕ → Type 0)
    → ((key : ℕ) → Among key (tree_keys m root) → after key → before key) → NodesAreCleared bits buffer m before root → NodesAreCleared bits buffer n after root
nodes_stay bits buffer m n root is same before after still cleared =
    nodes_moved bits buffer m n root root is (λ some. IsRootNode-same m n root same some (is some))
    (λ node among lies. subst (λ rs. Among node rs) (tree_nodes-same m n root same) among)
    (λ x old new. SameAt-among m n (tree_nodes m root) same x old)
    before after (λ node key among lies below there visited. still key there visited) cleared
