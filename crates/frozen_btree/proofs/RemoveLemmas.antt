-- A pair taken out of a leaf, and of the child of a node.
use Rattle.std.proofs.Common.{◌≡◌, ℕ, zero, suc, ◌+◌, ◌<◌, ◌≤◌, List, [], ◌∷◌, ◌++◌, length, take, drop, sym, ap, ◌∙◌, arith, length-append, ◌^◌}
use Rattle.std.specs.Prelude.{IsSome}
use Rattle.std.specs.List.{zip, flat_map}
use Rattle.std.specs.declared.cmp.Ordering.{Ordering}
use Rattle.entry_ref.specs.Records.{Records}
use Rattle.tree_read.proofs.TreeLemmas.{IsNode-form}
use Rattle.tree_read.specs.Nodes.{used_of, node_values}
use Rattle.tree_read.specs.Trees.{pairs_below, nodes_below, Keeps}
use Rattle.tree_read.proofs.PairLemmas.{children-cut, length-take_out}
use Rattle.tree_read.specs.Pairs.{lookup, take_out}
use Rattle.store_api.specs.Ledgers.{Ledger}
use Rattle.store_api.proofs.Times.{times-append}
use Rattle.store_api.specs.Parts.{times}
use Rattle.tree_read.proofs.SlotLemmas.{nodes-slots, slot_pairs-leaf, slot_nodes-leaf, slot_nodes-inner, slot_pairs-kept, slot_nodes-kept, hand-leaf, hand-kept, hand-take, hand-drop}
use Rattle.frozen_nodes.proofs.MakesLemmas.{makes-none, makes-then}
use Rattle.tree_read.specs.Slots.{slot_pairs, slot_nodes, IsInHand}
use Rattle.frozen_btree.specs.Removes.{Removes, PutsBack, IsStep, spliced, nodes_beside}

-- a child that has lost no slot is put back alone
most-fits : (level first second most slots used : ℕ) → 8 ≤ used → first + used ≡ suc slots → first ≤ 1 → most ≤ suc second → (8 ≤ slots → most ≤ second)
    → level + first + most ≤ suc level + second
most-fits level zero second most slots used many filled one most_is whole = omega arith
most-fits level (suc first) second most slots used many filled one most_is whole = let alone = whole (omega arith) in omega arith

-- out of a leaf
pub removes-leaf : {H : Type 0} (c : ℕ → Ordering) (ledger : Ledger H) (m : Records) (node : ℕ) (before after keys values : List ℕ)
    → length keys ≡ length values → zip keys values ≡ take_out c (pairs_below m 0 node) → used_of (m node) ≡ suc (length keys) → after ≡ before ++ (node ∷ [])
    → Removes c ledger ledger m m 0 node before after keys values
removes-leaf c ledger m node before after keys values even pairs size added = record {
  hand = hand-leaf m keys values even;
  pairs_are = slot_pairs-leaf m keys values ∙ pairs;
  balance = λ r.
      let none = ap (times r) (slot_nodes-leaf m values) in
      let list = ap (times r) added in
      let both = times-append r before (node ∷ []) in
      let nodes : times r (nodes_below m 0 node) ≡ times r (node ∷ []) = ap (times r) (nodes-slots m 0 node ∙ ap (λ qs. node ∷ qs) (slot_nodes-leaf m (node_values (m node)))) in
      omega arith;
  gone = λ r.
      let list = ap (times r) added in
      let both = times-append r before (node ∷ []) in
      let nodes : times r (nodes_below m 0 node) ≡ times r (node ∷ []) = ap (times r) (nodes-slots m 0 node ∙ ap (λ qs. node ∷ qs) (slot_nodes-leaf m (node_values (m node)))) in
      omega arith;
  path = let size = ap length added in omega (arith, length-append before (node ∷ []));
  extra = 0;
  one = omega arith;
  filled = omega arith;
  makes = makes-none ledger m 0;
}

-- out of a child
module _ {H : Type 0} (c : ℕ → Ordering) (old mid : Ledger H) (m n : Records) (level node : ℕ) (keys values : List ℕ) (place child : ℕ)
    (step : IsStep c m level node keys values place child) (before middle child_keys child_values : List ℕ)
    (removes : Removes c old mid m n level child (before ++ (node ∷ [])) middle child_keys child_values) where
  keeps : Keeps m n
  keeps = removes.makes.keeps

  front : IsInHand m (suc level) (take place keys) (take place values)
  front = hand-take m (suc level) keys values step.hand place

  back : IsInHand m (suc level) (drop (suc place) keys) (drop (suc place) values)
  back = hand-drop m (suc level) keys values step.hand (suc place)

  child_many : 8 ≤ used_of (m child)
  child_many = (IsNode-form m 8 level child step.child_node).filled

  child_room : used_of (m child) ≤ 16
  child_room = (IsNode-form m 8 level child step.child_node).room

  -- the pairs with the child's in hand are those of the node without the one taken out
  pub over-out : spliced n level place keys values (slot_pairs n level child_keys child_values) ≡ take_out c (pairs_below m (suc level) node)
  over-out =
      ap (λ ps. ps ++ (slot_pairs n level child_keys child_values ++ slot_pairs n (suc level) (drop (suc place) keys) (drop (suc place) values)))
      (slot_pairs-kept m n keeps (suc level) (take place keys) (take place values) front)
      ∙ ap (λ ps. slot_pairs m (suc level) (take place keys) (take place values) ++ (slot_pairs n level child_keys child_values ++ ps))
      (slot_pairs-kept m n keeps (suc level) (drop (suc place) keys) (drop (suc place) values) back)
      ∙ ap (λ ps. slot_pairs m (suc level) (take place keys) (take place values) ++ (ps ++ slot_pairs m (suc level) (drop (suc place) keys) (drop (suc place) values))) removes.pairs_are
      ∙ sym step.out

  pub over-few : IsSome (lookup c (pairs_below m (suc level) node)) → length (spliced n level place keys values (slot_pairs n level child_keys child_values)) < 2 ^ 32
  over-few there = let same = ap length over-out in let less = length-take_out c (pairs_below m (suc level) node) there in let few = step.few in omega arith

  pub over-least : 7 ≤ length child_keys
  over-least = let many = child_many in let filled = removes.filled in let one = removes.one in omega arith

  pub over-most : length child_keys ≤ 16
  over-most = let room = child_room in let filled = removes.filled in omega arith

  pub over-hand : IsInHand n (suc level) keys values
  over-hand = hand-kept m n keeps (suc level) keys values step.hand

  low : place < length values
  low = let within = step.within in let even = step.hand.even in omega arith

  beside-kept : (r : ℕ) → times r (nodes_beside n level place values) ≡ times r (nodes_beside m level place values)
  beside-kept r =
      ap (λ qs. times r (qs ++ slot_nodes n (suc level) (drop (suc place) values))) (slot_nodes-kept m n keeps (suc level) (take place keys) (take place values) front)
      ∙ ap (λ qs. times r (slot_nodes m (suc level) (take place values) ++ qs)) (slot_nodes-kept m n keeps (suc level) (drop (suc place) keys) (drop (suc place) values) back)

  -- the nodes below the node are itself, those beside the child and those of the child
  node-times : (r : ℕ) → times r (nodes_below m (suc level) node) ≡ times r (node ∷ []) + times r (nodes_beside m level place values) + times r (nodes_below m level child)
  node-times r =
      let all : times r (nodes_below m (suc level) node) ≡ times r ((node ∷ []) ++ slot_nodes m (suc level) values) = ap (times r) step.nodes_are in
      let first = times-append r (node ∷ []) (slot_nodes m (suc level) values) in
      let cut : times r (slot_nodes m (suc level) values)
      ≡ times r (flat_map (nodes_below m level) (take place values) ++ (nodes_below m level child ++ flat_map (nodes_below m level) (drop (suc place) values))) =
      ap (times r) (slot_nodes-inner m level values ∙ children-cut (nodes_below m level) values place low
      ∙ ap (λ q. flat_map (nodes_below m level) (take place values) ++ (nodes_below m level q ++ flat_map (nodes_below m level) (drop (suc place) values))) (sym step.child_is)) in
      let one = times-append r (flat_map (nodes_below m level) (take place values)) (nodes_below m level child ++ flat_map (nodes_below m level) (drop (suc place) values)) in
      let two = times-append r (nodes_below m level child) (flat_map (nodes_below m level) (drop (suc place) values)) in
      let three = times-append r (slot_nodes m (suc level) (take place values)) (slot_nodes m (suc level) (drop (suc place) values)) in
      let in_front = ap (times r) (slot_nodes-inner m level (take place values)) in
      let in_back = ap (times r) (slot_nodes-inner m level (drop (suc place) values)) in
      omega arith

  pub removes-over : (new : Ledger H) (o : Records) (after keys_after values_after : List ℕ)
      → PutsBack mid new n o level place keys values child_keys child_values middle after keys_after values_after
      → Removes c old new m o (suc level) node before after keys_after values_after
  removes-over new o after keys_after values_after puts =
      let used = step.used in
      record {
        hand = puts.hand;
        pairs_are = puts.pairs_are ∙ over-out;
        balance = λ r.
            let a = puts.balance r in
            let b = removes.balance r in
            let d = beside-kept r in
            let e = node-times r in
            let f = times-append r before (node ∷ []) in
            omega arith;
        gone = λ r.
            let a = puts.gone r in
            let b = removes.gone r in
            let d = beside-kept r in
            let e = node-times r in
            let f = times-append r before (node ∷ []) in
            omega arith;
        path =
            let a = puts.path in
            let b = removes.path in
            let d = length-append before (node ∷ []) in
            omega arith;
        extra = puts.extra;
        one = puts.one;
        filled = let filled = puts.filled in omega arith;
        makes = makes-then old mid new m n o (level + removes.extra) puts.most (suc level + puts.extra)
            (most-fits level removes.extra puts.extra puts.most (length child_keys) (used_of (m child)) child_many removes.filled removes.one puts.most_is puts.whole) removes.makes puts.makes;
      }
