-- What is below a node of a tree, in one tree and in two that have nodes in common.
use Rattle.std.proofs.Common.{◌≡◌, ℕ, zero, suc, List, [], ◌∷◌, map, length, inl, inr, ◌⊎◌, refl, sym, ap, subst, ◌∙◌, arith}
use Rattle.std.specs.declared.cmp.Ordering.{Ordering}
use Rattle.std.specs.List.{flat_map, AllByRecursion}
use Rattle.entry_ref.proofs.Pairs.{same-from}
use Rattle.entry_ref.proofs.Among.{Among-all, Among-append, SameAt-among}
use Rattle.compaction_moves.proofs.BelowLemmas.{among_flat}
use Rattle.entry_ref.specs.Records.{Records, Among, SameAt}
use Rattle.tree_read.proofs.TreeLemmas.{IsNode-form}
use Rattle.tree_read.specs.Nodes.{level_of, node_values}
use Rattle.tree_read.specs.ProofsForTrees.{pairs-same}
use Rattle.tree_read.specs.Trees.{nodes_below, pairs_below, root_least, root_level, tree_nodes, IsNode, IsTree}
use Rattle.tree_read.specs.declared.node_format.TheConstants.{NODE_WORDS}
use Rattle.frozen_btree.proofs.WayLemmas.{keys_flat}
use Rattle.frozen_btree.specs.Ways.{keys_below, tree_keys}
use Rattle.compaction_steps.proofs.StepsLists.{same_flat}

abbrev keys : List (ℕ × ℕ) → List ℕ
keys ps = map (λ p. p.0) ps

-- what is below some child is below one of them
record Child (f : ℕ → List ℕ) (vs : List ℕ) (r : ℕ) : Type 0 where
  child : ℕ
  there : Among child vs
  below : Among r (f child)

find_child : (f : ℕ → List ℕ) (vs : List ℕ) (r : ℕ) → Among r (flat_map f vs) → Child f vs r
find_child f [] r among = absurd among
find_child f (w ∷ vs) r among = told (λ behind. find_child f vs r behind) (Among-append r (f w) (flat_map f vs) among)
  where
    told : (Among r (flat_map f vs) → Child f vs r) → Among r (f w) ⊎ Among r (flat_map f vs) → Child f (w ∷ vs) r
    told more (inl here) = record { child = w; there = inl refl; below = here }
    told more (inr behind) = let found = more behind in record { child = found.child; there = inr found.there; below = found.below }

-- ---- one tree
module _ (m : Records) where
  level_is : (least level ref r : ℕ) → r ≡ ref → IsNode m least level ref → level_of (m r) ≡ level
  level_is least level ref r e node = ap (λ x. level_of (m x)) e ∙ (IsNode-form m least level ref node).at_level

  own_keys : (least level ref r k : ℕ) → r ≡ ref → IsNode m least level ref → Among k (keys_below m r) → Among k (keys (pairs_below m level ref))
  own_keys least level ref r k e node among =
      subst (λ x. Among k (keys (pairs_below m level x))) e (subst (λ l. Among k (keys (pairs_below m l r))) (level_is least level ref r e node) among)

  own_nodes : (least level ref r q : ℕ) → r ≡ ref → IsNode m least level ref → Among q (nodes_below m (level_of (m r)) r) → Among q (nodes_below m level ref)
  own_nodes least level ref r q e node among =
      subst (λ x. Among q (nodes_below m level x)) e (subst (λ l. Among q (nodes_below m l r)) (level_is least level ref r e node) among)

  own_size : (least level ref r : ℕ) → r ≡ ref → IsNode m least level ref → length (m r) ≡ NODE_WORDS
  own_size least level ref r e node = ap (λ x. length (m x)) e ∙ (IsNode-form m least level ref node).size

  nodes_of : (least level ref : ℕ) → IsNode m least (suc level) ref → AllByRecursion (IsNode m 8 level) (node_values (m ref))
  unfolding IsNode
  nodes_of least level ref node = node.3

  child_node : (least level ref child : ℕ) → IsNode m least (suc level) ref → Among child (node_values (m ref)) → IsNode m 8 level child
  child_node least level ref child node there = Among-all (IsNode m 8 level) (node_values (m ref)) (nodes_of least level ref node) child there

  flat_keys : (l r k : ℕ) → Among k (keys (flat_map (pairs_below m l) (node_values (m r)))) → Among k (keys (pairs_below m (suc l) r))
  unfolding pairs_below
  flat_keys l r k among = among

  keys_of_node : (least level ref : ℕ) → IsNode m least level ref → (r k : ℕ) → Among r (nodes_below m level ref) → Among k (keys_below m r)
      → Among k (keys (pairs_below m level ref))
  unfolding nodes_below
  keys_of_node least zero ref node r k (inl e) among = own_keys least 0 ref r k e node among
  keys_of_node least zero ref node r k (inr later) among = absurd later
  keys_of_node least (suc level) ref node r k (inl e) among = own_keys least (suc level) ref r k e node among
  keys_of_node least (suc level) ref node r k (inr later) among =
      let found = find_child (nodes_below m level) (node_values (m ref)) r later in
      flat_keys level ref k (keys_flat (pairs_below m level) (node_values (m ref)) found.child k found.there
      (keys_of_node 8 level found.child (child_node least level ref found.child node found.there) r k found.below among))

  nodes_of_node : (least level ref : ℕ) → IsNode m least level ref → (r q : ℕ) → Among r (nodes_below m level ref) → Among q (nodes_below m (level_of (m r)) r)
      → Among q (nodes_below m level ref)
  unfolding nodes_below
  nodes_of_node least zero ref node r q (inl e) among = own_nodes least 0 ref r q e node among
  nodes_of_node least zero ref node r q (inr later) among = absurd later
  nodes_of_node least (suc level) ref node r q (inl e) among = own_nodes least (suc level) ref r q e node among
  nodes_of_node least (suc level) ref node r q (inr later) among =
      let found = find_child (nodes_below m level) (node_values (m ref)) r later in
      inr (among_flat (nodes_below m level) (node_values (m ref)) found.child q found.there
      (nodes_of_node 8 level found.child (child_node least level ref found.child node found.there) r q found.below among))

  size_of_node : (least level ref : ℕ) → IsNode m least level ref → (r : ℕ) → Among r (nodes_below m level ref) → length (m r) ≡ NODE_WORDS
  unfolding nodes_below
  size_of_node least zero ref node r (inl e) = own_size least 0 ref r e node
  size_of_node least zero ref node r (inr later) = absurd later
  size_of_node least (suc level) ref node r (inl e) = own_size least (suc level) ref r e node
  size_of_node least (suc level) ref node r (inr later) =
      let found = find_child (nodes_below m level) (node_values (m ref)) r later in
      size_of_node 8 level found.child (child_node least level ref found.child node found.there) r found.below

  module _ {V : Type 0} (order : V → V → Ordering) (read : Records → ℕ → V) where
    pub keys_in_tree : (root : ℕ) → IsTree order read m root → (node k : ℕ) → Among node (tree_nodes m root) → Among k (keys_below m node) → Among k (tree_keys m root)
    keys_in_tree zero is node k there among = absurd there
    keys_in_tree (suc ref) is node k there among =
        keys_of_node (root_least (root_level m (suc ref))) (root_level m (suc ref)) (suc ref) (is.node (omega arith)) node k there among

    pub nodes_in_tree : (root : ℕ) → IsTree order read m root → (node q : ℕ) → Among node (tree_nodes m root) → Among q (nodes_below m (level_of (m node)) node)
        → Among q (tree_nodes m root)
    nodes_in_tree zero is node q there among = absurd there
    nodes_in_tree (suc ref) is node q there among =
        nodes_of_node (root_least (root_level m (suc ref))) (root_level m (suc ref)) (suc ref) (is.node (omega arith)) node q there among

    pub node_size : (root : ℕ) → IsTree order read m root → (node : ℕ) → Among node (tree_nodes m root) → length (m node) ≡ NODE_WORDS
    node_size zero is node there = absurd there
    node_size (suc ref) is node there =
        size_of_node (root_least (root_level m (suc ref))) (root_level m (suc ref)) (suc ref) (is.node (omega arith)) node there

-- ---- a tree whose nodes stay
module _ {V : Type 0} (order : V → V → Ordering) (read : Records → ℕ → V) (m n : Records) (root : ℕ) (is : IsTree order read m root) (same : SameAt (tree_nodes m root) m n) where
  pub keys_stay : (node : ℕ) → Among node (tree_nodes m root) → keys_below n node ≡ keys_below m node
  keys_stay node there =
      let here = SameAt-among m n (tree_nodes m root) same node there in
      let below = same-from (nodes_below m (level_of (m node)) node) m n (λ q among. SameAt-among m n (tree_nodes m root) same q (nodes_in_tree m order read root is node q there among)) in
      ap (λ ws. keys (pairs_below n (level_of ws) node)) here ∙ ap keys (pairs-same m n (level_of (m node)) node below)

-- ---- two trees: what is a node of both is the same
module _ (m n : Records) (P Q : ℕ → Type 0) (same : (q : ℕ) → P q → Q q → n q ≡ m q) where
  below_same : (level ref : ℕ) → ((q : ℕ) → Among q (nodes_below m level ref) → P q) → ((q : ℕ) → Among q (nodes_below n level ref) → Q q)
      → SameAt (nodes_below m level ref) m n
  unfolding nodes_below
  below_same zero ref before after = (same ref (before ref (inl refl)) (after ref (inl refl)), tt)
  below_same (suc level) ref before after =
      let here = same ref (before ref (inl refl)) (after ref (inl refl)) in (
        here,
        same_flat m n (nodes_below m level) (node_values (m ref)) (λ v there. below_same level v
            (λ q among. before q (inr (among_flat (nodes_below m level) (node_values (m ref)) v q there among)))
            (λ q among. after q (inr (subst (λ ws. Among q (flat_map (nodes_below n level) (node_values ws))) (sym here)
            (among_flat (nodes_below n level) (node_values (m ref)) v q there among))))),
      )

  module _ {V W : Type 0} (order : V → V → Ordering) (read : Records → ℕ → V) (root : ℕ) (is : IsTree order read m root) (before : (q : ℕ) → Among q (tree_nodes m root) → P q)
      (other : W → W → Ordering) (reads : Records → ℕ → W) (next : ℕ) (next_is : IsTree other reads n next) (after : (q : ℕ) → Among q (tree_nodes n next) → Q q) where
    pub keys_both : (node : ℕ) → Among node (tree_nodes m root) → Among node (tree_nodes n next) → keys_below n node ≡ keys_below m node
    keys_both node here there =
        let words = same node (before node here) (after node there) in
        let below = below_same (level_of (m node)) node (λ q among. before q (nodes_in_tree m order read root is node q here among))
        (λ q among. after q (nodes_in_tree n other reads next next_is node q there (subst (λ ws. Among q (nodes_below n (level_of ws) node)) (sym words) among))) in
        ap (λ ws. keys (pairs_below n (level_of ws) node)) words ∙ ap keys (pairs-same m n (level_of (m node)) node below)
