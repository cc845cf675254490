-- Slots put together and taken apart, and what stays of them under more records.
use Rattle.std.proofs.Common.{◌≡◌, ℕ, zero, suc, List, [], ◌∷◌, ◌++◌, length, map, take, drop, min, refl, sym, ap, subst, ◌∙◌, ◌≤◌, arith, length-append, length-take}
use Rattle.std.proofs.lemmas.List.{map-append, take_at, drop_at, append-nil, take-append-drop, length-map}
use Rattle.std.proofs.lemmas.Grind.{flat_map-append}
use Rattle.std.specs.List.{zip, flat_map, AllByRecursion}
use Rattle.list_lemmas.proofs.Pairs.{zip-append}
use Rattle.list_lemmas.proofs.Each.{AllByRecursion-append, AllByRecursion-left, AllByRecursion-right, AllByRecursion-weaker}
use Rattle.entry_ref.specs.Records.{Records}
use Rattle.tree_read.specs.ProofsForTrees.{pairs-same, nodes-same, IsNode-same}
use Rattle.tree_read.specs.Nodes.{node_keys, node_values}
use Rattle.tree_read.specs.Trees.{pairs_below, nodes_below, last_key, IsNode, Keeps}
use Rattle.tree_read.proofs.TreeLemmas.{nodes-kept}
use Rattle.tree_read.specs.Slots.{slot_pairs, slot_nodes, HaveChildren, IsInHand}

first_part : (xs ys zs ws : List ℕ) → length xs ≡ length zs → xs ++ ys ≡ zs ++ ws → xs ≡ zs
first_part xs ys zs ws size e =
    sym (take_at xs ys (length xs) refl) ∙ ap (take (length xs)) e ∙ ap (λ n. take n (zs ++ ws)) size ∙ take_at zs ws (length zs) refl

second_part : (xs ys zs ws : List ℕ) → length xs ≡ length zs → xs ++ ys ≡ zs ++ ws → ys ≡ ws
second_part xs ys zs ws size e =
    sym (drop_at xs ys (length xs) refl) ∙ ap (drop (length xs)) e ∙ ap (λ n. drop n (zs ++ ws)) size ∙ drop_at zs ws (length zs) refl

module _ (m : Records) where
  pub slot_pairs-append : (level : ℕ) (k1 v1 k2 v2 : List ℕ) → length k1 ≡ length v1 → slot_pairs m level (k1 ++ k2) (v1 ++ v2) ≡ slot_pairs m level k1 v1 ++ slot_pairs m level k2 v2
  unfolding slot_pairs
  slot_pairs-append zero k1 v1 k2 v2 e = zip-append k1 v1 k2 v2 e
  slot_pairs-append (suc level) k1 v1 k2 v2 e = flat_map-append (pairs_below m level) v1 v2

  pub slot_nodes-append : (level : ℕ) (v1 v2 : List ℕ) → slot_nodes m level (v1 ++ v2) ≡ slot_nodes m level v1 ++ slot_nodes m level v2
  unfolding slot_nodes
  slot_nodes-append zero v1 v2 = refl
  slot_nodes-append (suc level) v1 v2 = flat_map-append (nodes_below m level) v1 v2

  children-append : (level : ℕ) (k1 v1 k2 v2 : List ℕ) → HaveChildren m level k1 v1 → HaveChildren m level k2 v2 → HaveChildren m level (k1 ++ k2) (v1 ++ v2)
  unfolding HaveChildren
  children-append zero k1 v1 k2 v2 a b = tt
  children-append (suc level) k1 v1 k2 v2 a b = (
    ap (λ ks. ks ++ k2) a.0 ∙ ap (λ ks. map (λ child. last_key (pairs_below m level child)) v1 ++ ks) b.0 ∙ sym (map-append (λ child. last_key (pairs_below m level child)) v1 v2),
    AllByRecursion-append (IsNode m 8 level) v1 v2 a.1 b.1,
  )

  children-left : (level : ℕ) (k1 v1 k2 v2 : List ℕ) → length k1 ≡ length v1 → HaveChildren m level (k1 ++ k2) (v1 ++ v2) → HaveChildren m level k1 v1
  unfolding HaveChildren
  children-left zero k1 v1 k2 v2 e a = tt
  children-left (suc level) k1 v1 k2 v2 e a =
      let f : ℕ → ℕ = λ child. last_key (pairs_below m level child) in
      (first_part k1 k2 (map f v1) (map f v2) (e ∙ sym (length-map v1 f)) (a.0 ∙ map-append f v1 v2), AllByRecursion-left (IsNode m 8 level) v1 v2 a.1)

  children-right : (level : ℕ) (k1 v1 k2 v2 : List ℕ) → length k1 ≡ length v1 → HaveChildren m level (k1 ++ k2) (v1 ++ v2) → HaveChildren m level k2 v2
  unfolding HaveChildren
  children-right zero k1 v1 k2 v2 e a = tt
  children-right (suc level) k1 v1 k2 v2 e a =
      let f : ℕ → ℕ = λ child. last_key (pairs_below m level child) in
      (second_part k1 k2 (map f v1) (map f v2) (e ∙ sym (length-map v1 f)) (a.0 ∙ map-append f v1 v2), AllByRecursion-right (IsNode m 8 level) v1 v2 a.1)

  pub hand-append : (level : ℕ) (k1 v1 k2 v2 : List ℕ) → IsInHand m level k1 v1 → IsInHand m level k2 v2 → IsInHand m level (k1 ++ k2) (v1 ++ v2)
  hand-append level k1 v1 k2 v2 a b = record {
    even = let x = a.even in let y = b.even in omega (arith, length-append k1 k2, length-append v1 v2);
    children = children-append level k1 v1 k2 v2 a.children b.children;
  }

  pub hand-left : (level : ℕ) (k1 v1 k2 v2 : List ℕ) → length k1 ≡ length v1 → IsInHand m level (k1 ++ k2) (v1 ++ v2) → IsInHand m level k1 v1
  hand-left level k1 v1 k2 v2 e a = record { even = e; children = children-left level k1 v1 k2 v2 e a.children }

  pub hand-right : (level : ℕ) (k1 v1 k2 v2 : List ℕ) → length k1 ≡ length v1 → IsInHand m level (k1 ++ k2) (v1 ++ v2) → IsInHand m level k2 v2
  hand-right level k1 v1 k2 v2 e a = record {
    even = let x = a.even in omega (arith, length-append k1 k2, length-append v1 v2);
    children = children-right level k1 v1 k2 v2 e a.children;
  }

  -- slots of a leaf, no slots, and one child
  pub hand-leaf : (k v : List ℕ) → length k ≡ length v → IsInHand m 0 k v
  unfolding HaveChildren
  hand-leaf k v e = record { even = e; children = tt }

  pub hand-none : (level : ℕ) → IsInHand m level [] []
  unfolding HaveChildren
  hand-none zero = record { even = refl; children = tt }
  hand-none (suc level) = record { even = refl; children = (refl, tt) }

  pub hand-one : (level k v : ℕ) → k ≡ last_key (pairs_below m level v) → IsNode m 8 level v → IsInHand m (suc level) (k ∷ []) (v ∷ [])
  unfolding HaveChildren
  hand-one level k v e node = record { even = refl; children = (ap (λ x. x ∷ []) e, (node, tt)) }

  -- slots above the leaves are children with their last keys
  pub hand-children : (level : ℕ) (ks vs : List ℕ) → ks ≡ map (λ child. last_key (pairs_below m level child)) vs → AllByRecursion (IsNode m 8 level) vs → IsInHand m (suc level) ks vs
  unfolding HaveChildren
  hand-children level ks vs e all = record { even = ap length e ∙ length-map vs (λ child. last_key (pairs_below m level child)); children = (e, all) }

  pub child_keys : (level : ℕ) (ks vs : List ℕ) → IsInHand m (suc level) ks vs → ks ≡ map (λ child. last_key (pairs_below m level child)) vs
  unfolding HaveChildren
  child_keys level ks vs hand = hand.children.0

  pub child_nodes : (level : ℕ) (ks vs : List ℕ) → IsInHand m (suc level) ks vs → AllByRecursion (IsNode m 8 level) vs
  unfolding HaveChildren
  child_nodes level ks vs hand = hand.children.1

  pub slot_pairs-leaf : (ks vs : List ℕ) → slot_pairs m 0 ks vs ≡ zip ks vs
  unfolding slot_pairs
  slot_pairs-leaf ks vs = refl

  pub slot_pairs-inner : (level : ℕ) (ks vs : List ℕ) → slot_pairs m (suc level) ks vs ≡ flat_map (pairs_below m level) vs
  unfolding slot_pairs
  slot_pairs-inner level ks vs = refl

  pub slot_pairs-one : (level k v : ℕ) → slot_pairs m (suc level) (k ∷ []) (v ∷ []) ≡ pairs_below m level v
  unfolding slot_pairs
  slot_pairs-one level k v = append-nil (pairs_below m level v)

  pub slot_nodes-leaf : (vs : List ℕ) → slot_nodes m 0 vs ≡ []
  unfolding slot_nodes
  slot_nodes-leaf vs = refl

  pub slot_nodes-inner : (level : ℕ) (vs : List ℕ) → slot_nodes m (suc level) vs ≡ flat_map (nodes_below m level) vs
  unfolding slot_nodes
  slot_nodes-inner level vs = refl

  pub slot_nodes-one : (level v : ℕ) → slot_nodes m (suc level) (v ∷ []) ≡ nodes_below m level v
  unfolding slot_nodes
  slot_nodes-one level v = append-nil (nodes_below m level v)

-- where records stay
module _ (m n : Records) (keeps : Keeps m n) where
  pub pairs-kept : (least level ref : ℕ) → IsNode m least level ref → pairs_below n level ref ≡ pairs_below m level ref
  pairs-kept least level ref node = pairs-same m n level ref (nodes-kept m n least level ref keeps node)

  pub nodes_below-kept : (least level ref : ℕ) → IsNode m least level ref → nodes_below n level ref ≡ nodes_below m level ref
  nodes_below-kept least level ref node = nodes-same m n level ref (nodes-kept m n least level ref keeps node)

  pub node-kept : (least level ref : ℕ) → IsNode m least level ref → IsNode n least level ref
  node-kept least level ref node = IsNode-same m n least level ref (nodes-kept m n least level ref keeps node) node

  pub all_pairs-kept : (least level : ℕ) (vs : List ℕ) → AllByRecursion (IsNode m least level) vs → flat_map (pairs_below n level) vs ≡ flat_map (pairs_below m level) vs
  all_pairs-kept least level [] all = refl
  all_pairs-kept least level (v ∷ vs) all =
      ap (λ ps. ps ++ flat_map (pairs_below n level) vs) (pairs-kept least level v all.0) ∙ ap (λ ps. pairs_below m level v ++ ps) (all_pairs-kept least level vs all.1)

  pub all_nodes-kept : (least level : ℕ) (vs : List ℕ) → AllByRecursion (IsNode m least level) vs → flat_map (nodes_below n level) vs ≡ flat_map (nodes_below m level) vs
  all_nodes-kept least level [] all = refl
  all_nodes-kept least level (v ∷ vs) all =
      ap (λ ps. ps ++ flat_map (nodes_below n level) vs) (nodes_below-kept least level v all.0) ∙ ap (λ ps. nodes_below m level v ++ ps) (all_nodes-kept least level vs all.1)

  pub last_keys-kept : (least level : ℕ) (vs : List ℕ) → AllByRecursion (IsNode m least level) vs
      → map (λ child. last_key (pairs_below n level child)) vs ≡ map (λ child. last_key (pairs_below m level child)) vs
  last_keys-kept least level [] all = refl
  last_keys-kept least level (v ∷ vs) all =
      ap (λ ps. last_key ps ∷ map (λ child. last_key (pairs_below n level child)) vs) (pairs-kept least level v all.0)
      ∙ ap (λ ks. last_key (pairs_below m level v) ∷ ks) (last_keys-kept least level vs all.1)

  pub slot_pairs-kept : (level : ℕ) (ks vs : List ℕ) → IsInHand m level ks vs → slot_pairs n level ks vs ≡ slot_pairs m level ks vs
  unfolding slot_pairs HaveChildren
  slot_pairs-kept zero ks vs hand = refl
  slot_pairs-kept (suc level) ks vs hand = all_pairs-kept 8 level vs hand.children.1

  pub slot_nodes-kept : (level : ℕ) (ks vs : List ℕ) → IsInHand m level ks vs → slot_nodes n level vs ≡ slot_nodes m level vs
  unfolding slot_nodes HaveChildren
  slot_nodes-kept zero ks vs hand = refl
  slot_nodes-kept (suc level) ks vs hand = all_nodes-kept 8 level vs hand.children.1

  pub hand-kept : (level : ℕ) (ks vs : List ℕ) → IsInHand m level ks vs → IsInHand n level ks vs
  unfolding HaveChildren
  hand-kept zero ks vs hand = record { even = hand.even; children = tt }
  hand-kept (suc level) ks vs hand = record {
    even = hand.even;
    children = (hand.children.0 ∙ sym (last_keys-kept 8 level vs hand.children.1), AllByRecursion-weaker (IsNode m 8 level) (IsNode n 8 level) (node-kept 8 level) vs hand.children.1);
  }

-- the slots of a node are in hand
module _ (m : Records) (least : ℕ) where
  pub hand-node : (level ref : ℕ) → IsNode m least level ref → length (node_keys (m ref)) ≡ length (node_values (m ref)) → IsInHand m level (node_keys (m ref)) (node_values (m ref))
  unfolding IsNode HaveChildren
  hand-node zero ref node e = record { even = e; children = tt }
  hand-node (suc level) ref node e = record { even = e; children = (node.2, node.3) }

pub pairs-slots : (m : Records) (level ref : ℕ) → pairs_below m level ref ≡ slot_pairs m level (node_keys (m ref)) (node_values (m ref))
unfolding pairs_below slot_pairs
pairs-slots m zero ref = refl
pairs-slots m (suc level) ref = refl

pub nodes-slots : (m : Records) (level ref : ℕ) → nodes_below m level ref ≡ ref ∷ slot_nodes m level (node_values (m ref))
unfolding nodes_below slot_nodes
nodes-slots m zero ref = refl
nodes-slots m (suc level) ref = refl

-- slots cut in two
module _ (m : Records) (level : ℕ) (ks vs : List ℕ) (hand : IsInHand m level ks vs) (i : ℕ) where
  pub cut : IsInHand m level (take i ks ++ drop i ks) (take i vs ++ drop i vs)
  cut =
      subst (λ xs. IsInHand m level xs (take i vs ++ drop i vs)) (sym (take-append-drop i ks))
      (subst (λ xs. IsInHand m level ks xs) (sym (take-append-drop i vs)) hand)

  pub even-take : length (take i ks) ≡ length (take i vs)
  even-take = length-take i ks ∙ ap (min i) hand.even ∙ sym (length-take i vs)

  pub hand-take : IsInHand m level (take i ks) (take i vs)
  hand-take = hand-left m level (take i ks) (take i vs) (drop i ks) (drop i vs) even-take cut

  pub hand-drop : IsInHand m level (drop i ks) (drop i vs)
  hand-drop = hand-right m level (take i ks) (take i vs) (drop i ks) (drop i vs) even-take cut

  pub pairs-cut : slot_pairs m level ks vs ≡ slot_pairs m level (take i ks) (take i vs) ++ slot_pairs m level (drop i ks) (drop i vs)
  pairs-cut =
      ap (λ xs. slot_pairs m level xs vs) (sym (take-append-drop i ks))
      ∙ ap (slot_pairs m level (take i ks ++ drop i ks)) (sym (take-append-drop i vs))
      ∙ slot_pairs-append m level (take i ks) (take i vs) (drop i ks) (drop i vs) even-take

  pub few-take : length (slot_pairs m level (take i ks) (take i vs)) ≤ length (slot_pairs m level ks vs)
  few-take = let all = ap length pairs-cut in let both = length-append (slot_pairs m level (take i ks) (take i vs)) (slot_pairs m level (drop i ks) (drop i vs)) in omega arith

  pub few-drop : length (slot_pairs m level (drop i ks) (drop i vs)) ≤ length (slot_pairs m level ks vs)
  few-drop = let all = ap length pairs-cut in let both = length-append (slot_pairs m level (take i ks) (take i vs)) (slot_pairs m level (drop i ks) (drop i vs)) in omega arith
