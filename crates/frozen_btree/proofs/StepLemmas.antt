-- Where a key is that is there: in a leaf its slot, above the leaves the child under which it is.
use Rattle.std.proofs.Common.{◌≡◌, ◌≢◌, ℕ, zero, suc, ◌<◌, ◌≤◌, List, [], ◌∷◌, ◌++◌, length, take, drop, get_or, refl, sym, ap, subst, ◌∙◌, arith, inl, inr}
use Rattle.std.specs.Prelude.{None, Some, IsSome}
use Rattle.std.proofs.lemmas.Bool.{cases_lt}
use Rattle.std.proofs.lemmas.List.{take_all}
use Rattle.std.specs.Cmp.{IsTotalOrder}
use Rattle.std.specs.List.{zip, flat_map, remove, AllByRecursion}
use Rattle.std.specs.declared.cmp.Ordering.{Ordering}
use Rattle.std.specs.declared.cmp.Ordering.TheVariants.{Less, Equal, Greater}
use Rattle.list_lemmas.proofs.Each.{AllByRecursion-at}
use Rattle.entry_ref.specs.Records.{Records}
use Rattle.tree_read.proofs.TreeLemmas.{IsNode-form, IsNode-count}
use Rattle.tree_read.proofs.ReadLemmas.{node-even}
use Rattle.tree_read.proofs.ChildLemmas.{keys-length, pairs-some}
use Rattle.tree_read.specs.Nodes.{node_keys, node_values}
use Rattle.tree_read.specs.Trees.{pairs_below, last_key, IsNode}
use Rattle.tree_read.proofs.OrderLemmas.{ascends-child, children-below}
use Rattle.tree_read.proofs.PairLemmas.{All-child, children-cut, lookup-skip, lookup-stop, lookup-below, take_out-skip, take_out-stop}
use Rattle.tree_read.specs.Keys.{seen_by, Ascends, AllBelow}
use Rattle.tree_read.specs.Pairs.{lookup, take_out, choose}
use Rattle.tree_read.proofs.NodeKeyLemmas.{key_last}
use Rattle.tree_read.proofs.SlotLemmas.{hand-node, pairs-slots, nodes-slots, child_nodes, slot_pairs-inner}
use Rattle.tree_read.specs.NodePlaces.{IsSlot}
use Rattle.tree_read.specs.Slots.{slot_pairs, slot_nodes, IsInHand}
use Rattle.frozen_btree.specs.Removes.{spliced, IsStep}

none_some : (c : ℕ → Ordering) → IsSome (lookup c []) → ⊥
none_some c h = grind (arith, h)

-- in a leaf
module _ (c : ℕ → Ordering) where
  leaf_first : (k v : ℕ) (ks vs : List ℕ) (o : Ordering) → o ≢ Less → IsSome (choose o (lookup c (zip ks vs)) (Some v) None)
      → choose o ((k, v) ∷ take_out c (zip ks vs)) (zip ks vs) ((k, v) ∷ zip ks vs) ≡ zip ks vs
  leaf_first k v ks vs Less ne some = absurd (ne refl)
  leaf_first k v ks vs Equal ne some = refl
  leaf_first k v ks vs Greater ne some = absurd (grind (arith, some))

  pub leaf-out : (ks vs : List ℕ) (i : ℕ) → length ks ≡ length vs → IsSlot c ks i → IsSome (lookup c (zip ks vs))
      → (i < length ks) × (take_out c (zip ks vs) ≡ zip (remove ks i) (remove vs i))
  leaf-out [] vs i even slot some = absurd (grind (arith, some))
  leaf-out (k ∷ ks) [] i even slot some = absurd (omega arith)
  leaf-out (k ∷ ks) (v ∷ vs) zero even slot some = (omega arith, leaf_first k v ks vs (c k) (slot.at (omega arith)) some)
  leaf-out (k ∷ ks) (v ∷ vs) (suc i) even slot some =
      let first : c k ≡ Less = slot.before 0 (omega arith) in
      let rest = leaf-out ks vs i (omega arith)
      (record {
        within = let within = slot.within in omega arith;
        before = λ j low. slot.before (suc j) (omega arith);
        at = λ low. slot.at (omega arith);
      })
      (subst (λ o. IsSome (choose o (lookup c (zip ks vs)) (Some v) None)) first some) in (
        let low = rest.0 in omega arith,
        ap (λ o. choose o ((k, v) ∷ take_out c (zip ks vs)) (zip ks vs) ((k, v) ∷ zip ks vs)) first ∙ ap (λ l. (k, v) ∷ l) rest.1,
      )

-- above the leaves
module _ {V : Type 0} (order : V → V → Ordering) (total : IsTotalOrder order) (read : Records → ℕ → V) (s : V) (m : Records) (l : ℕ) (ks vs : List ℕ)
    (hand : IsInHand m (suc l) ks vs) (up : Ascends order read m (slot_pairs m (suc l) ks vs)) (i : ℕ) (slot : IsSlot (seen_by read order s m) ks i)
    (there : IsSome (lookup (seen_by read order s m) (slot_pairs m (suc l) ks vs))) where
  c : ℕ → Ordering
  c = seen_by read order s m

  f : ℕ → List (ℕ × ℕ)
  f = pairs_below m l

  ascends : Ascends order read m (flat_map (pairs_below m l) vs)
  ascends = subst (Ascends order read m) (slot_pairs-inner m l ks vs) up

  some : IsSome (lookup (seen_by read order s m) (flat_map (pairs_below m l) vs))
  some = subst (λ ps. IsSome (lookup (seen_by read order s m) ps)) (slot_pairs-inner m l ks vs) there

  front : (j : ℕ) → j ≤ i → AllBelow (seen_by read order s m) (flat_map (pairs_below m l) (take j vs))
  front j low =
      let within = slot.within in
      let even = hand.even in
      children-below order (read m) total s (pairs_below m l) vs j (omega arith) ascends
      (λ k h. let small : k < length vs = omega arith in ap (seen_by read order s m) (sym (key_last m l ks vs k hand small)) ∙ slot.before k (omega arith))

  pub step-low : i < length ks
  step-low = elim (cases_lt i (length ks)) [
    | inl h ↦ h
    | inr h ↦ (let within = slot.within in
        let even = hand.even in
        let all = front i (omega arith) in
        let whole : take i vs ≡ vs = take_all i vs (omega arith) in
        let none = lookup-below (seen_by read order s m) (flat_map (pairs_below m l) vs) (subst (λ xs. AllBelow (seen_by read order s m) (flat_map (pairs_below m l) xs)) whole all) in
        absurd (none_some (seen_by read order s m) (subst IsSome none some)))
  ]

  child_low : i < length vs
  child_low = let low = step-low in let even = hand.even in omega arith

  pub step-node : IsNode m 8 l (get_or vs i 0)
  step-node = AllByRecursion-at (IsNode m 8 l) vs i 0 child_low (child_nodes m l ks vs hand)

  child_some : 0 < length (pairs_below m l (get_or vs i 0))
  child_some = pairs-some m 8 l (get_or vs i 0) (omega arith) step-node

  child_last : seen_by read order s m (last_key (pairs_below m l (get_or vs i 0))) ≢ Less
  child_last e = slot.at step-low (ap (seen_by read order s m) (key_last m l ks vs i hand child_low) ∙ e)

  behind : List (ℕ × ℕ)
  behind = flat_map (pairs_below m l) (drop (suc i) vs)

  pub step-there : IsSome (lookup (seen_by read order s m) (pairs_below m l (get_or vs i 0)))
  step-there =
      subst IsSome
      (ap (lookup (seen_by read order s m)) (children-cut (pairs_below m l) vs i child_low)
      ∙ lookup-skip (seen_by read order s m) (flat_map (pairs_below m l) (take i vs)) (pairs_below m l (get_or vs i 0) ++ flat_map (pairs_below m l) (drop (suc i) vs)) (front i (omega arith))
      ∙ lookup-stop (seen_by read order s m) (pairs_below m l (get_or vs i 0)) (flat_map (pairs_below m l) (drop (suc i) vs)) child_some child_last)
      some

  pub step-out : take_out (seen_by read order s m) (slot_pairs m (suc l) ks vs) ≡ spliced m l i ks vs (take_out (seen_by read order s m) (pairs_below m l (get_or vs i 0)))
  step-out =
      ap (take_out (seen_by read order s m)) (slot_pairs-inner m l ks vs ∙ children-cut (pairs_below m l) vs i child_low)
      ∙ take_out-skip (seen_by read order s m) (flat_map (pairs_below m l) (take i vs)) (pairs_below m l (get_or vs i 0) ++ flat_map (pairs_below m l) (drop (suc i) vs)) (front i (omega arith))
      ∙ ap (λ ps. flat_map (pairs_below m l) (take i vs) ++ ps)
      (take_out-stop (seen_by read order s m) (pairs_below m l (get_or vs i 0)) (flat_map (pairs_below m l) (drop (suc i) vs)) child_some child_last)
      ∙ ap (λ ps. ps ++ (take_out (seen_by read order s m) (pairs_below m l (get_or vs i 0)) ++ flat_map (pairs_below m l) (drop (suc i) vs)))
      (sym (slot_pairs-inner m l (take i ks) (take i vs)))
      ∙ ap (λ ps. slot_pairs m (suc l) (take i ks) (take i vs) ++ (take_out (seen_by read order s m) (pairs_below m l (get_or vs i 0)) ++ ps))
      (sym (slot_pairs-inner m l (drop (suc i) ks) (drop (suc i) vs)))

  pub step-ascends : Ascends order read m (pairs_below m l (get_or vs i 0))
  step-ascends = ascends-child order (read m) (pairs_below m l) vs i child_low ascends

  pub step-all : (P : ℕ × ℕ → Type 0) → AllByRecursion P (slot_pairs m (suc l) ks vs) → AllByRecursion P (pairs_below m l (get_or vs i 0))
  step-all P all = All-child P (pairs_below m l) vs i child_low (subst (AllByRecursion P) (slot_pairs-inner m l ks vs) all)

-- a node above the leaves that was read
module _ {V : Type 0} (order : V → V → Ordering) (total : IsTotalOrder order) (read : Records → ℕ → V) (s : V) (m : Records) (l node : ℕ)
    (node_is : IsNode m 2 (suc l) node) (up : Ascends order read m (pairs_below m (suc l) node))
    (there : IsSome (lookup (seen_by read order s m) (pairs_below m (suc l) node)))
    (keys values : List ℕ) (keys_are : keys ≡ node_keys (m node)) (values_are : values ≡ node_values (m node))
    (i : ℕ) (slot : IsSlot (seen_by read order s m) keys i) where
  at-pairs : pairs_below m (suc l) node ≡ slot_pairs m (suc l) keys values
  at-pairs = pairs-slots m (suc l) node ∙ ap (λ ks. slot_pairs m (suc l) ks (node_values (m node))) (sym keys_are) ∙ ap (slot_pairs m (suc l) keys) (sym values_are)

  at-hand : IsInHand m (suc l) keys values
  at-hand =
      subst (λ ks. IsInHand m (suc l) ks values) (sym keys_are)
      (subst (IsInHand m (suc l) (node_keys (m node))) (sym values_are) (hand-node m 2 (suc l) node node_is (node-even m 2 (suc l) node node_is)))

  at-up : Ascends order read m (slot_pairs m (suc l) keys values)
  at-up = subst (Ascends order read m) at-pairs up

  at-there : IsSome (lookup (seen_by read order s m) (slot_pairs m (suc l) keys values))
  at-there = subst (λ ps. IsSome (lookup (seen_by read order s m) ps)) at-pairs there

  pub at-low : i < length keys
  at-low = step-low order total read s m l keys values at-hand at-up i slot at-there

  pub at-even : length keys ≡ length values
  at-even = at-hand.even

  pub at-node : IsNode m 8 l (get_or values i 0)
  at-node = step-node order total read s m l keys values at-hand at-up i slot at-there

  pub at-ascends : Ascends order read m (pairs_below m l (get_or values i 0))
  at-ascends = step-ascends order total read s m l keys values at-hand at-up i slot at-there

  pub at-all : (P : ℕ × ℕ → Type 0) → AllByRecursion P (pairs_below m (suc l) node) → AllByRecursion P (pairs_below m l (get_or values i 0))
  at-all P all = step-all order total read s m l keys values at-hand at-up i slot at-there P (subst (AllByRecursion P) at-pairs all)

  pub at-step : (child : ℕ) → child ≡ get_or values i 0 → IsStep (seen_by read order s m) m l node keys values i child
  at-step child is =
      let form = IsNode-form m 2 (suc l) node node_is in
      let size = ap length keys_are ∙ keys-length m 2 (suc l) node node_is in
      let filled = form.filled in
      let room = form.room in
      subst (IsStep (seen_by read order s m) m l node keys values i) (sym is)
      (record {
        hand = at-hand;
        nodes_are = nodes-slots m (suc l) node ∙ ap (λ vs. node ∷ slot_nodes m (suc l) vs) (sym values_are);
        used = sym size;
        many = omega arith;
        room = omega arith;
        few = let count = IsNode-count m 2 (suc l) node node_is in let few = form.few in omega arith;
        within = at-low;
        child_is = refl;
        child_node = at-node;
        there = step-there order total read s m l keys values at-hand at-up i slot at-there;
        out = ap (take_out (seen_by read order s m)) at-pairs ∙ step-out order total read s m l keys values at-hand at-up i slot at-there;
      })
