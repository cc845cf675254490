-- The nodes of a tree are distinct, since the keys below them ascend.
use Rattle.std.proofs.Common.{◌≡◌, ◌≢◌, ◌⊎◌, inl, inr, ⊎_elim, ℕ, zero, suc, ◌^◌, ◌<◌, ◌≤◌, List, [], ◌∷◌, ◌++◌, length, map, false, nat_eq, refl, sym, ap, subst, ◌∙◌, arith, ne_eqb, Ordering, Less, Greater, is_lt}
use Rattle.std.proofs.Common.{true≢false}
use Rattle.std.proofs.Math.Nat.{one-le-pow}
use Rattle.std.specs.Cmp.{IsTotalOrder}
use Rattle.std.specs.List.{flat_map, AllByRecursion, IsDistinct}
use Rattle.std.specs.List.Sorted.{IsStrictlySortedBy}
use Rattle.std.specs.Ordering.{ordering_reverse}
use Rattle.list_lemmas.proofs.Each.{AllByRecursion-append, AllByRecursion-left}
use Rattle.entry_ref.specs.Records.{Records}
use Rattle.tree_read.proofs.TreeLemmas.{IsNode-form, pairs_many}
use Rattle.tree_read.specs.Nodes.{level_of, node_values}
use Rattle.tree_read.specs.Trees.{pairs_below, nodes_below, IsNode, root_level, root_least, tree_pairs, tree_nodes, IsTree}

-- an element of a list
abbrev pub In : {X : Type 0} → X → List X → Type 0
In x [] = ⊥
In x (y ∷ ys) = (x ≡ y) ⊎ In x ys

In-left : {X : Type 0} (x : X) (xs ys : List X) → In x xs → In x (xs ++ ys)
In-left x [] ys h = absurd h
In-left x (z ∷ xs) ys (inl e) = inl e
In-left x (z ∷ xs) ys (inr h) = inr (In-left x xs ys h)

In-right : {X : Type 0} (x : X) (xs ys : List X) → In x ys → In x (xs ++ ys)
In-right x [] ys h = h
In-right x (z ∷ xs) ys h = inr (In-right x xs ys h)

In-split : {X : Type 0} (x : X) (xs ys : List X) → In x (xs ++ ys) → In x xs ⊎ In x ys
In-split x [] ys h = inr h
In-split x (z ∷ xs) ys (inl e) = inl (inl e)
In-split x (z ∷ xs) ys (inr h) = ⊎_elim (λ a. inl (inr a)) (λ b. inr b) (In-split x xs ys h)

all_in : {X : Type 0} (P : X → Type 0) (xs : List X) (x : X) → AllByRecursion P xs → In x xs → P x
all_in P [] x all h = absurd h
all_in P (z ∷ xs) x all (inl e) = subst P (sym e) all.0
all_in P (z ∷ xs) x all (inr h) = all_in P xs x all.1 h

first_in : {X : Type 0} (xs : List X) → 0 < length xs → (x : X) × In x xs
first_in [] some = absurd (omega arith)
first_in (x ∷ xs) some = (x, inl refl)

-- a number beside no number of a list
all_apart : (x : ℕ) (ys : List ℕ) → ((y : ℕ) → In y ys → x ≢ y) → AllByRecursion (λ y. nat_eq x y ≡ false) ys
all_apart x [] apart = tt
all_apart x (y ∷ ys) apart = (ne_eqb x y (apart y (inl refl)), all_apart x ys (λ z h. apart z (inr h)))

distinct-append : (xs ys : List ℕ) → IsDistinct nat_eq xs → IsDistinct nat_eq ys → ((q : ℕ) → In q xs → In q ys → ⊥) → IsDistinct nat_eq (xs ++ ys)
unfolding IsDistinct
distinct-append [] ys a b apart = b
distinct-append (x ∷ xs) ys a b apart =
    (AllByRecursion-append (λ y. nat_eq x y ≡ false) xs ys a.0 (all_apart x ys (λ y h e. apart x (inl refl) (subst (λ z. In z ys) (sym e) h))), distinct-append xs ys a.1 b (λ q h k. apart q (inr h) k))

module _ {V : Type 0} (order : V → V → Ordering) (read : ℕ → V) where
  -- the keys of pairs ascend
  abbrev pub Rises : List (ℕ × ℕ) → Type 0
  Rises [] = Unit {0}
  Rises (p ∷ ps) = AllByRecursion (λ q. order (read p.0) (read q.0) ≡ Less) ps × Rises ps

  all_read : (v : V) (ps : List (ℕ × ℕ)) → AllByRecursion (λ w. order v w ≡ Less) (map (λ p. read p.0) ps) → AllByRecursion (λ q. order v (read q.0) ≡ Less) ps
  all_read v [] all = tt
  all_read v (p ∷ ps) all = (all.0, all_read v ps all.1)

  pub rises_from : (ps : List (ℕ × ℕ)) → IsStrictlySortedBy order (map (λ p. read p.0) ps) → Rises ps
  unfolding IsStrictlySortedBy
  rises_from [] sorted = tt
  rises_from (p ∷ ps) sorted = (all_read (read p.0) ps sorted.0, rises_from ps sorted.1)

  pub rises_left : (xs ys : List (ℕ × ℕ)) → Rises (xs ++ ys) → Rises xs
  rises_left [] ys h = tt
  rises_left (x ∷ xs) ys h = (AllByRecursion-left (λ q. order (read x.0) (read q.0) ≡ Less) xs ys h.0, rises_left xs ys h.1)

  pub rises_right : (xs ys : List (ℕ × ℕ)) → Rises (xs ++ ys) → Rises ys
  rises_right [] ys h = h
  rises_right (x ∷ xs) ys h = rises_right xs ys h.1

  module _ (strict : (v : V) → order v v ≢ Less) where
    -- no pair is in both parts
    rises_apart : (xs ys : List (ℕ × ℕ)) → Rises (xs ++ ys) → (p : ℕ × ℕ) → In p xs → In p ys → ⊥
    rises_apart [] ys rises p h k = h
    rises_apart (x ∷ xs) ys rises p (inl e) k =
        strict (read x.0) (subst (λ q. order (read x.0) (read q.0) ≡ Less) e (all_in (λ q. order (read x.0) (read q.0) ≡ Less) (xs ++ ys) p rises.0 (In-right p xs ys k)))
    rises_apart (x ∷ xs) ys rises p (inr h) k = rises_apart xs ys rises.1 p h k

    module _ (m : Records) where
      -- a node below others: its pairs are among theirs
      record IsBelow (top : ℕ) (pairs : List (ℕ × ℕ)) (q : ℕ) : Type 0 where
        height : ℕ
        low : height ≤ top
        node : IsNode m 8 height q
        inside : (p : ℕ × ℕ) → In p (pairs_below m height q) → In p pairs

      below_all : (level : ℕ) → ((c q : ℕ) → IsNode m 8 level c → In q (nodes_below m level c) → IsBelow level (pairs_below m level c) q)
          → (cs : List ℕ) (q : ℕ) → AllByRecursion (IsNode m 8 level) cs → In q (flat_map (nodes_below m level) cs) → IsBelow level (flat_map (pairs_below m level) cs) q
      below_all level each [] q all h = absurd h
      below_all level each (c ∷ cs) q all h =
          ⊎_elim
          (λ a. let b = each c q all.0 a in record { height = b.height; low = b.low; node = b.node; inside = λ p i. In-left p (pairs_below m level c) (flat_map (pairs_below m level) cs) (b.inside p i) })
          (λ a. let b = below_all level each cs q all.1 a in record {
            height = b.height;
            low = b.low;
            node = b.node;
            inside = λ p i. In-right p (pairs_below m level c) (flat_map (pairs_below m level) cs)
                (b.inside p i);
          })
          (In-split q (nodes_below m level c) (flat_map (nodes_below m level) cs) h)

      itself : (level ref q : ℕ) → q ≡ ref → IsNode m 8 level ref → IsBelow level (pairs_below m level ref) q
      itself level ref q e node = record {
        height = level;
        low = omega arith;
        node = subst (IsNode m 8 level) (sym e) node;
        inside = λ p i. subst (λ r. In p (pairs_below m level r)) e i;
      }

      below : (level ref q : ℕ) → IsNode m 8 level ref → In q (nodes_below m level ref) → IsBelow level (pairs_below m level ref) q
      unfolding nodes_below pairs_below IsNode
      below zero ref q node (inl e) = itself zero ref q e node
      below zero ref q node (inr h) = absurd h
      below (suc level) ref q node (inl e) = itself (suc level) ref q e node
      below (suc level) ref q node (inr h) =
          let b = below_all level (below level) (node_values (m ref)) q node.3 h in
          record { height = b.height; low = let low = b.low in omega arith; node = b.node; inside = b.inside }

      some_pair : (level ref : ℕ) → IsNode m 8 level ref → (p : ℕ × ℕ) × In p (pairs_below m level ref)
      some_pair level ref node =
          let many = pairs_many m 8 level ref node in
          let one : 1 ≤ 8 ^ level = one-le-pow level 8 (omega arith) in
          first_in (pairs_below m level ref) (omega arith)

      children_distinct : (level : ℕ) → ((c : ℕ) → IsNode m 8 level c → Rises (pairs_below m level c) → IsDistinct nat_eq (nodes_below m level c))
          → (cs : List ℕ) → AllByRecursion (IsNode m 8 level) cs → Rises (flat_map (pairs_below m level) cs) → IsDistinct nat_eq (flat_map (nodes_below m level) cs)
      unfolding IsDistinct
      children_distinct level each [] all rises = tt
      children_distinct level each (c ∷ cs) all rises =
          distinct-append (nodes_below m level c) (flat_map (nodes_below m level) cs)
          (each c all.0 (rises_left (pairs_below m level c) (flat_map (pairs_below m level) cs) rises))
          (children_distinct level each cs all.1 (rises_right (pairs_below m level c) (flat_map (pairs_below m level) cs) rises))
          (λ q a b.
          let first = below level c q all.0 a in
          let second = below_all level (below level) cs q all.1 b in
          let same : first.height ≡ second.height = sym (IsNode-form m 8 first.height q first.node).at_level ∙ (IsNode-form m 8 second.height q second.node).at_level in
          let pair = some_pair first.height q first.node in
          rises_apart (pairs_below m level c) (flat_map (pairs_below m level) cs) rises pair.0 (first.inside pair.0 pair.1) (second.inside pair.0 (subst (λ h. In pair.0 (pairs_below m h q)) same pair.1)))

      pub nodes_distinct : (least level ref : ℕ) → IsNode m least level ref → Rises (pairs_below m level ref) → IsDistinct nat_eq (nodes_below m level ref)
      unfolding IsDistinct IsNode nodes_below pairs_below
      nodes_distinct least zero ref node rises = (tt, tt)
      nodes_distinct least (suc level) ref node rises = (
        all_apart ref (flat_map (nodes_below m level) (node_values (m ref))) (λ q h e.
            let b = below_all level (below level) (node_values (m ref)) q node.3 h in
            let here : level_of (m ref) ≡ suc level = node.0.at_level in
            let there : level_of (m q) ≡ b.height = (IsNode-form m 8 b.height q b.node).at_level in
            let same : level_of (m ref) ≡ level_of (m q) = ap (λ r. level_of (m r)) e in
            let low = b.low in
            absurd (omega arith)),
        children_distinct level (nodes_distinct 8 level) (node_values (m ref)) node.3 rises,
      )

-- an order has nothing below itself
strict_order : {V : Type 0} {order : V → V → Ordering} → IsTotalOrder order → (v : V) → order v v ≢ Less
strict_order {order = order} total v less =
    let back : order v v ≡ Greater = total.antisymm v v ∙ ap ordering_reverse less in
    true≢false (sym (ap is_lt less) ∙ ap is_lt back)

pub tree_nodes_distinct : {V : Type 0} (order : V → V → Ordering) → IsTotalOrder order → (read : Records → ℕ → V) (m : Records) (root : ℕ)
    → IsTree order read m root → IsDistinct nat_eq (tree_nodes m root)
unfolding IsDistinct
tree_nodes_distinct order total read m zero tree = tt
tree_nodes_distinct order total read m (suc ref) tree =
    nodes_distinct order (read m) (strict_order total) m (root_least (root_level m (suc ref))) (root_level m (suc ref)) (suc ref) (tree.node (omega arith))
    (rises_from order (read m) (tree_pairs m (suc ref)) tree.ascends)
