-- A pair put below a node: the leaf with the pair, and the node over the child with the pair.
use Rattle.std.proofs.Common.{◌≡◌, ⊎_elim, ℕ, suc, ◌+◌, ◌-◌, ◌<◌, ◌≤◌, List, [], ◌∷◌, ◌++◌, length, get_or, take, drop, sym, ap, subst, ◌∙◌, arith, length-append, length-take, length-drop, ◌^◌}
use Rattle.std.proofs.lemmas.List.{append-nil, drop_all}
use Rattle.std.proofs.lemmas.Grind.{flat_map-append}
use Rattle.std.specs.Cmp.{IsTotalOrder}
use Rattle.std.specs.declared.cmp.Ordering.{Ordering}
use Rattle.std.specs.List.{zip, flat_map, AllByRecursion}
use Rattle.list_lemmas.proofs.Each.{AllByRecursion-at}
use Rattle.entry_ref.specs.Records.{Records}
use Rattle.store_api.specs.Ledgers.{Ledger}
use Rattle.tree_read.specs.Nodes.{used_of, count_of, node_keys, node_values}
use Rattle.tree_read.specs.Trees.{pairs_below, nodes_below, last_key, IsNode, Keeps}
use Rattle.tree_read.proofs.TreeLemmas.{IsNode-form, IsNode-count}
use Rattle.tree_read.proofs.ChildLemmas.{pairs-some, IsNode-lower, keys-length}
use Rattle.tree_read.specs.Keys.{seen_by, Ascends, AllBelow}
use Rattle.tree_read.specs.Pairs.{put}
use Rattle.tree_read.proofs.PairLemmas.{All-child, children-cut, put-skip, put-stop, length-put_most}
use Rattle.tree_read.proofs.OrderLemmas.{ascends-child, children-below}
use Rattle.store_api.proofs.Times.{times-append}
use Rattle.store_api.specs.Parts.{times}
use Rattle.tree_read.specs.NodePlaces.{IsPlace}
use Rattle.tree_read.specs.Slots.{slot_pairs, slot_nodes, IsInHand}
use Rattle.tree_read.proofs.NodeKeyLemmas.{key_last}
use Rattle.tree_read.proofs.SlotLemmas.{pairs-slots, nodes-slots, hand-append, hand-children, hand-kept, child_nodes, slot_pairs-inner, slot_pairs-leaf, slot_nodes-inner, slot_nodes-leaf, all_pairs-kept, all_nodes-kept}
use Rattle.tree_read.proofs.SlotLemmas.{hand-take, hand-drop}
use Rattle.frozen_btree.specs.Inserts.{Inserts}
use Rattle.frozen_nodes.specs.Parts.{AreParts, MakesParts, part_keys, part_nodes, parts_count}
use Rattle.frozen_nodes.specs.declared.parts.Parts.{Parts}
use Rattle.frozen_nodes.specs.declared.parts.Parts.TheVariants.{One, Two}
use Rattle.tree_read.proofs.ReadLemmas.{hand-read, inner-pairs, inner-nodes, node-even}

-- parts with more slots than are asked for
pub parts-lower : (n : Records) (few least level : ℕ) (parts : Parts) (pairs : List (ℕ × ℕ)) → few ≤ least → AreParts n least level parts pairs → AreParts n few level parts pairs
parts-lower n few least level (One part) pairs low x = record {
  nodes = (IsNode-lower n least few level part.node low x.nodes.0, tt);
  some = x.some;
  keys = x.keys;
  pairs_are = x.pairs_are;
}
parts-lower n few least level (Two first second) pairs low x = record { nodes = x.nodes; some = x.some; keys = x.keys; pairs_are = x.pairs_are }

-- parts of at least 8 slots are children
parts-children : (n : Records) (least level : ℕ) (parts : Parts) (pairs : List (ℕ × ℕ)) → 8 ≤ least → AreParts n least level parts pairs → AllByRecursion (IsNode n 8 level) (part_nodes parts)
parts-children n least level (One part) pairs many x = (IsNode-lower n least 8 level part.node many x.nodes.0, tt)
parts-children n least level (Two first second) pairs many x = x.nodes

parts-hand : (n : Records) (least level : ℕ) (parts : Parts) (pairs : List (ℕ × ℕ)) → 8 ≤ least → AreParts n least level parts pairs → IsInHand n (suc level) (part_keys parts) (part_nodes parts)
parts-hand n least level parts pairs many x = hand-children n level (part_keys parts) (part_nodes parts) x.keys (parts-children n least level parts pairs many x)

parts_few : (parts : Parts) → length (part_keys parts) ≤ 2
parts_few (One part) = omega arith
parts_few (Two first second) = omega arith

-- each part can be asked for its count
pub parts-there : (n : Records) (least level : ℕ) (parts : Parts) (pairs : List (ℕ × ℕ)) → AreParts n least level parts pairs → AllByRecursion (λ node. 1 < length (n node)) (part_nodes parts)
parts-there n least level (One part) pairs x =
    let size = (IsNode-form n least level part.node x.nodes.0).size in
    let one : 1 < length (n part.node) = omega arith in
    (one, tt)
parts-there n least level (Two first second) pairs x =
    let size = (IsNode-form n 8 level first.node x.nodes.0).size in
    let more = (IsNode-form n 8 level second.node x.nodes.1.0).size in
    let one : 1 < length (n first.node) = omega arith in
    let two : 1 < length (n second.node) = omega arith in
    (one, (two, tt))

parts-counted : (n : Records) (least level : ℕ) (parts : Parts) (pairs : List (ℕ × ℕ)) → AreParts n least level parts pairs → parts_count n parts ≡ length pairs
parts-counted n least level (One part) pairs x =
    let f : ℕ → List (ℕ × ℕ) = pairs_below n level in
    let here = IsNode-count n least level part.node x.nodes.0 in
    let all : length (f part.node ++ []) ≡ length pairs = ap length x.pairs_are in
    let one : length (f part.node ++ []) ≡ length (f part.node) = ap length (append-nil (f part.node)) in
    omega arith
parts-counted n least level (Two first second) pairs x =
    let f : ℕ → List (ℕ × ℕ) = pairs_below n level in
    let here = IsNode-count n 8 level first.node x.nodes.0 in
    let other = IsNode-count n 8 level second.node x.nodes.1.0 in
    let all : length (f first.node ++ (f second.node ++ [])) ≡ length pairs = ap length x.pairs_are in
    let both = length-append (f first.node) (f second.node ++ []) in
    let last : length (f second.node ++ []) ≡ length (f second.node) = ap length (append-nil (f second.node)) in
    omega arith

parts_some : (parts : Parts) → 1 ≤ length (part_keys parts)
parts_some (One part) = omega arith
parts_some (Two first second) = omega arith

-- a pair is put below one child
module _ {V : Type 0} (order : V → V → Ordering) (total : IsTotalOrder order) (read : Records → ℕ → V) (s : V) (m : Records) where
  place_put : (pair : ℕ × ℕ) (f : ℕ → List (ℕ × ℕ)) (ks vs : List ℕ) (i : ℕ) → IsPlace (seen_by read order s m) ks i → length ks ≡ length vs
      → ((j : ℕ) → j < length vs → get_or ks j 0 ≡ last_key (f (get_or vs j 0))) → 0 < length (f (get_or vs i 0)) → Ascends order read m (flat_map f vs)
      → put (seen_by read order s m) pair (flat_map f vs) ≡ flat_map f (take i vs) ++ (put (seen_by read order s m) pair (f (get_or vs i 0)) ++ flat_map f (drop (suc i) vs))
  place_put pair f ks vs i place even key some up =
      let seen : ℕ → Ordering = seen_by read order s m in
      let within = place.within in
      let low : i < length vs = omega arith in
      let below : AllBelow seen (flat_map f (take i vs)) =
      children-below order (read m) total s f vs i (omega arith) up (λ j h. let jl : j < length vs = omega arith in ap seen (sym (key j jl)) ∙ place.before j h) in
      ap (put seen pair) (children-cut f vs i low)
      ∙ put-skip seen pair (flat_map f (take i vs)) (f (get_or vs i 0) ++ flat_map f (drop (suc i) vs)) below
      ∙ ap (λ zs. flat_map f (take i vs) ++ zs) (⊎_elim
      (λ ne. put-stop seen pair (f (get_or vs i 0)) (flat_map f (drop (suc i) vs)) some (λ e. ne (ap seen (key i low) ∙ e)))
      (λ (last : suc i ≡ length ks).
      let rest : flat_map f (drop (suc i) vs) ≡ [] = ap (flat_map f) (drop_all (suc i) vs (omega arith)) in
      ap (λ zs. put seen pair (f (get_or vs i 0) ++ zs)) rest ∙ ap (put seen pair) (append-nil (f (get_or vs i 0)))
      ∙ sym (append-nil (put seen pair (f (get_or vs i 0)))) ∙ ap (λ zs. put seen pair (f (get_or vs i 0)) ++ zs) (sym rest))
      place.at)

-- a child of a node
module _ (m : Records) (least l node i : ℕ) (node_is : IsNode m least (suc l) node) (low : i < length (node_values (m node))) where
  pub child-node : IsNode m 8 l (get_or (node_values (m node)) i 0)
  child-node = AllByRecursion-at (IsNode m 8 l) (node_values (m node)) i 0 low (child_nodes m l (node_keys (m node)) (node_values (m node)) (hand-read m least (suc l) node node_is))

  pub child-all : (P : ℕ × ℕ → Type 0) → AllByRecursion P (pairs_below m (suc l) node) → AllByRecursion P (pairs_below m l (get_or (node_values (m node)) i 0))
  child-all P all = All-child P (pairs_below m l) (node_values (m node)) i low (subst (AllByRecursion P) (inner-pairs m l node) all)

  pub child-ascends : {V : Type 0} (order : V → V → Ordering) (read : Records → ℕ → V) → Ascends order read m (pairs_below m (suc l) node) → Ascends order read m (pairs_below m l (get_or (node_values (m node)) i 0))
  child-ascends order read up = ascends-child order (read m) (pairs_below m l) (node_values (m node)) i low (subst (Ascends order read m) (inner-pairs m l node) up)

  pub child-few : length (pairs_below m l (get_or (node_values (m node)) i 0)) ≤ length (pairs_below m (suc l) node)
  child-few =
      let vs = node_values (m node) in
      let f : ℕ → List (ℕ × ℕ) = pairs_below m l in
      let all : length (pairs_below m (suc l) node) ≡ length (flat_map f (take i vs) ++ (f (get_or vs i 0) ++ flat_map f (drop (suc i) vs))) = ap length (inner-pairs m l node ∙ children-cut f vs i low) in
      let both = length-append (flat_map f (take i vs)) (f (get_or vs i 0) ++ flat_map f (drop (suc i) vs)) in
      let more = length-append (f (get_or vs i 0)) (flat_map f (drop (suc i) vs)) in
      omega arith

  pub child-count : count_of (m (get_or (node_values (m node)) i 0)) ≤ count_of (m node)
  child-count =
      let whole = IsNode-count m least (suc l) node node_is in
      let less = IsNode-count m 8 l (get_or (node_values (m node)) i 0) child-node in
      let fewer = child-few in
      omega arith

  pub child-nodes : (q : ℕ) → times q (nodes_below m (suc l) node)
      ≡ times q (node ∷ []) + (times q (flat_map (nodes_below m l) (take i (node_values (m node)))) +
      (times q (nodes_below m l (get_or (node_values (m node)) i 0)) + times q (flat_map (nodes_below m l) (drop (suc i) (node_values (m node))))))
  child-nodes q =
      let vs = node_values (m node) in
      let g : ℕ → List ℕ = nodes_below m l in
      let all : times q (nodes_below m (suc l) node) ≡ times q ((node ∷ []) ++ (flat_map g (take i vs) ++ (g (get_or vs i 0) ++ flat_map g (drop (suc i) vs)))) =
      ap (times q) (inner-nodes m l node ∙ ap (λ qs. node ∷ qs) (children-cut g vs i low)) in
      let one = times-append q (node ∷ []) (flat_map g (take i vs) ++ (g (get_or vs i 0) ++ flat_map g (drop (suc i) vs))) in
      let two = times-append q (flat_map g (take i vs)) (g (get_or vs i 0) ++ flat_map g (drop (suc i) vs)) in
      let three = times-append q (g (get_or vs i 0)) (flat_map g (drop (suc i) vs)) in
      omega arith

-- the node over the child with the pair
module _ {V : Type 0} (order : V → V → Ordering) (total : IsTotalOrder order) (read : Records → ℕ → V) (s : V) (m n : Records) (least l node i : ℕ) (pair : ℕ × ℕ)
    (node_is : IsNode m least (suc l) node) (place : IsPlace (seen_by read order s m) (node_keys (m node)) i) (up : Ascends order read m (pairs_below m (suc l) node))
    (keeps : Keeps m n) (ps : Parts) (parts : AreParts n (used_of (m (get_or (node_values (m node)) i 0))) l ps (put (seen_by read order s m) pair (pairs_below m l (get_or (node_values (m node)) i 0))))
    (k2 v2 : List ℕ) (keys : k2 ≡ take i (node_keys (m node)) ++ (part_keys ps ++ drop (suc i) (node_keys (m node))))
    (values : v2 ≡ take i (node_values (m node)) ++ (part_nodes ps ++ drop (suc i) (node_values (m node)))) where
  low : i < length (node_values (m node))
  low = let even = node-even m least (suc l) node node_is in let within = place.within in omega arith

  hand : IsInHand m (suc l) (node_keys (m node)) (node_values (m node))
  hand = hand-read m least (suc l) node node_is

  front : IsInHand m (suc l) (take i (node_keys (m node))) (take i (node_values (m node)))
  front = hand-take m (suc l) (node_keys (m node)) (node_values (m node)) hand i

  back : IsInHand m (suc l) (drop (suc i) (node_keys (m node))) (drop (suc i) (node_values (m node)))
  back = hand-drop m (suc l) (node_keys (m node)) (node_values (m node)) hand (suc i)

  child_many : 8 ≤ used_of (m (get_or (node_values (m node)) i 0))
  child_many = (IsNode-form m 8 l (get_or (node_values (m node)) i 0) (child-node m least l node i node_is low)).filled

  put_is : put (seen_by read order s m) pair (pairs_below m (suc l) node)
      ≡ flat_map (pairs_below m l) (take i (node_values (m node)))
      ++ (put (seen_by read order s m) pair (pairs_below m l (get_or (node_values (m node)) i 0)) ++ flat_map (pairs_below m l) (drop (suc i) (node_values (m node))))
  put_is =
      ap (put (seen_by read order s m) pair) (inner-pairs m l node)
      ∙ place_put order total read s m pair (pairs_below m l) (node_keys (m node)) (node_values (m node)) i place hand.even
      (λ j jl. key_last m l (node_keys (m node)) (node_values (m node)) j hand jl)
      (pairs-some m 8 l (get_or (node_values (m node)) i 0) (omega arith) (child-node m least l node i node_is low))
      (subst (Ascends order read m) (inner-pairs m l node) up)

  pub over-hand : IsInHand n (suc l) k2 v2
  over-hand =
      let front_now = hand-kept m n keeps (suc l) (take i (node_keys (m node))) (take i (node_values (m node))) front in
      let back_now = hand-kept m n keeps (suc l) (drop (suc i) (node_keys (m node))) (drop (suc i) (node_values (m node))) back in
      let parts_now = parts-hand n (used_of (m (get_or (node_values (m node)) i 0))) l ps (put (seen_by read order s m) pair (pairs_below m l (get_or (node_values (m node)) i 0))) child_many parts in
      subst (λ k. IsInHand n (suc l) k v2) (sym keys)
      (subst (λ v. IsInHand n (suc l) (take i (node_keys (m node)) ++ (part_keys ps ++ drop (suc i) (node_keys (m node)))) v) (sym values)
      (hand-append n (suc l) (take i (node_keys (m node))) (take i (node_values (m node))) (part_keys ps ++ drop (suc i) (node_keys (m node))) (part_nodes ps ++ drop (suc i) (node_values (m node))) front_now
      (hand-append n (suc l) (part_keys ps) (part_nodes ps) (drop (suc i) (node_keys (m node))) (drop (suc i) (node_values (m node))) parts_now back_now)))

  pub over-pairs : slot_pairs n (suc l) k2 v2 ≡ put (seen_by read order s m) pair (pairs_below m (suc l) node)
  over-pairs =
      let vs = node_values (m node) in
      let f : ℕ → List (ℕ × ℕ) = pairs_below m l in
      let g : ℕ → List (ℕ × ℕ) = pairs_below n l in
      slot_pairs-inner n l k2 v2 ∙ ap (flat_map g) values
      ∙ flat_map-append g (take i vs) (part_nodes ps ++ drop (suc i) vs)
      ∙ ap (λ zs. flat_map g (take i vs) ++ zs) (flat_map-append g (part_nodes ps) (drop (suc i) vs))
      ∙ ap (λ zs. zs ++ (flat_map g (part_nodes ps) ++ flat_map g (drop (suc i) vs))) (all_pairs-kept m n keeps 8 l (take i vs) (child_nodes m l (take i (node_keys (m node))) (take i vs) front))
      ∙ ap (λ zs. flat_map f (take i vs) ++ (zs ++ flat_map g (drop (suc i) vs))) parts.pairs_are
      ∙ ap (λ zs. flat_map f (take i vs) ++ (put (seen_by read order s m) pair (f (get_or vs i 0)) ++ zs))
      (all_pairs-kept m n keeps 8 l (drop (suc i) vs) (child_nodes m l (drop (suc i) (node_keys (m node))) (drop (suc i) vs) back))
      ∙ sym put_is

  -- the node's count, less the child's, plus those of the parts
  pub over-counted : count_of (m node) - count_of (m (get_or (node_values (m node)) i 0)) + parts_count n ps ≡ length (slot_pairs n (suc l) k2 v2)
  over-counted =
      let vs = node_values (m node) in
      let f : ℕ → List (ℕ × ℕ) = pairs_below m l in
      let child = get_or vs i 0 in
      let new : List (ℕ × ℕ) = put (seen_by read order s m) pair (f child) in
      let now : length (slot_pairs n (suc l) k2 v2) ≡ length (flat_map f (take i vs) ++ (new ++ flat_map f (drop (suc i) vs))) = ap length (over-pairs ∙ put_is) in
      let old : length (pairs_below m (suc l) node) ≡ length (flat_map f (take i vs) ++ (f child ++ flat_map f (drop (suc i) vs))) = ap length (inner-pairs m l node ∙ children-cut f vs i low) in
      let a = length-append (flat_map f (take i vs)) (f child ++ flat_map f (drop (suc i) vs)) in
      let b = length-append (f child) (flat_map f (drop (suc i) vs)) in
      let c = length-append (flat_map f (take i vs)) (new ++ flat_map f (drop (suc i) vs)) in
      let d = length-append new (flat_map f (drop (suc i) vs)) in
      let whole = IsNode-count m least (suc l) node node_is in
      let less = IsNode-count m 8 l child (child-node m least l node i node_is low) in
      let more = parts-counted n (used_of (m child)) l ps new parts in
      omega arith

  pub over-few : length (pairs_below m (suc l) node) + 1 < 2 ^ 32 → length (slot_pairs n (suc l) k2 v2) < 2 ^ 32
  over-few few =
      let same = ap length over-pairs in
      let most = length-put_most (seen_by read order s m) pair (pairs_below m (suc l) node) in
      omega arith

  over-sizes : (length k2 ≡ i + (length (part_keys ps) + (length (node_keys (m node)) - suc i))) × (i < length (node_keys (m node)))
  over-sizes =
      let within = place.within in
      let whole = ap length keys in
      let one = length-append (take i (node_keys (m node))) (part_keys ps ++ drop (suc i) (node_keys (m node))) in
      let two = length-append (part_keys ps) (drop (suc i) (node_keys (m node))) in
      let a = length-take i (node_keys (m node)) in
      let b = length-drop (suc i) (node_keys (m node)) in
      (omega arith, within)

  pub over-least : used_of (m node) ≤ length k2
  over-least =
      let sizes = over-sizes in
      let some = parts_some ps in
      let used = keys-length m least (suc l) node node_is in
      omega arith

  pub over-most : length k2 ≤ 17
  over-most =
      let sizes = over-sizes in
      let few = parts_few ps in
      let used = keys-length m least (suc l) node node_is in
      let room = (IsNode-form m least (suc l) node node_is).room in
      omega arith

  over-nodes : (q : ℕ) → times q (slot_nodes n (suc l) v2)
      ≡ times q (flat_map (nodes_below m l) (take i (node_values (m node)))) + (times q (flat_map (nodes_below n l) (part_nodes ps)) + times q (flat_map (nodes_below m l) (drop (suc i) (node_values (m node)))))
  over-nodes q =
      let vs = node_values (m node) in
      let g : ℕ → List ℕ = nodes_below n l in
      let all : times q (slot_nodes n (suc l) v2) ≡ times q (flat_map g (take i vs) ++ (flat_map g (part_nodes ps) ++ flat_map g (drop (suc i) vs))) =
      ap (times q) (slot_nodes-inner n l v2 ∙ ap (flat_map g) values ∙ flat_map-append g (take i vs) (part_nodes ps ++ drop (suc i) vs)
      ∙ ap (λ zs. flat_map g (take i vs) ++ zs) (flat_map-append g (part_nodes ps) (drop (suc i) vs))) in
      let one = times-append q (flat_map g (take i vs)) (flat_map g (part_nodes ps) ++ flat_map g (drop (suc i) vs)) in
      let two = times-append q (flat_map g (part_nodes ps)) (flat_map g (drop (suc i) vs)) in
      let a : times q (flat_map g (take i vs)) ≡ times q (flat_map (nodes_below m l) (take i vs)) =
      ap (times q) (all_nodes-kept m n keeps 8 l (take i vs) (child_nodes m l (take i (node_keys (m node))) (take i vs) front)) in
      let b : times q (flat_map g (drop (suc i) vs)) ≡ times q (flat_map (nodes_below m l) (drop (suc i) vs)) =
      ap (times q) (all_nodes-kept m n keeps 8 l (drop (suc i) vs) (child_nodes m l (drop (suc i) (node_keys (m node))) (drop (suc i) vs) back)) in
      omega arith

  pub over-inserts : {H : Type 0} (old mid new : Ledger H) (o : Records) (before after : List ℕ) (made : Parts)
      → Inserts (seen_by read order s m) pair old mid m n l (get_or (node_values (m node)) i 0) (before ++ node ∷ []) after ps
      → MakesParts mid new n o (suc l) k2 v2 made → Inserts (seen_by read order s m) pair old new m o (suc l) node before after made
  over-inserts old mid new o before after made x y = record {
    parts_are = subst (AreParts o (used_of (m node)) (suc l) made) over-pairs (parts-lower o (used_of (m node)) (length k2) (suc l) made (slot_pairs n (suc l) k2 v2) over-least y.parts_are);
    path = let path = x.path in let more = length-append before (node ∷ []) in omega arith;
    gone = λ q. let gone = x.gone q in let all = child-nodes m least l node i node_is low q in let more = times-append q before (node ∷ []) in omega arith;
    balance = λ q.
        let first = x.balance q in
        let second = y.balance q in
        let all = child-nodes m least l node i node_is low q in
        let over = over-nodes q in
        let more = times-append q before (node ∷ []) in
        omega arith;
  }

-- the leaf with the pair
module _ {H : Type 0} (c : ℕ → Ordering) (pair : ℕ × ℕ) (old new : Ledger H) (m n : Records) (least node : ℕ) (node_is : IsNode m least 0 node) (k2 v2 : List ℕ)
    (pairs : zip k2 v2 ≡ put c pair (zip (node_keys (m node)) (node_values (m node)))) (most : length (node_keys (m node)) ≤ length k2) where
  leaf-pairs : slot_pairs m 0 k2 v2 ≡ put c pair (pairs_below m 0 node)
  leaf-pairs = slot_pairs-leaf m k2 v2 ∙ pairs ∙ ap (put c pair) (sym (pairs-slots m 0 node ∙ slot_pairs-leaf m (node_keys (m node)) (node_values (m node))))

  pub leaf-few : length (pairs_below m 0 node) + 1 < 2 ^ 32 → length (slot_pairs m 0 k2 v2) < 2 ^ 32
  leaf-few few = let same = ap length leaf-pairs in let more = length-put_most c pair (pairs_below m 0 node) in omega arith

  pub leaf-inserts : (before after : List ℕ) (made : Parts) → after ≡ before ++ node ∷ [] → MakesParts old new m n 0 k2 v2 made → Inserts c pair old new m n 0 node before after made
  leaf-inserts before after made is y =
      let nodes : nodes_below m 0 node ≡ node ∷ [] = nodes-slots m 0 node ∙ ap (λ qs. node ∷ qs) (slot_nodes-leaf m (node_values (m node))) in
      record {
        parts_are = subst (AreParts n (used_of (m node)) 0 made) leaf-pairs
            (parts-lower n (used_of (m node)) (length k2) 0 made (slot_pairs m 0 k2 v2) (let used = keys-length m least 0 node node_is in omega arith) y.parts_are);
        path = let size = ap length is in let more = length-append before (node ∷ []) in omega arith;
        gone = λ q. let now = ap (times q) is in let more = times-append q before (node ∷ []) in let one = ap (times q) nodes in omega arith;
        balance = λ q.
            let made_balance = y.balance q in
            let none : times q (slot_nodes m 0 v2) ≡ 0 = ap (times q) (slot_nodes-leaf m v2) in
            let now = ap (times q) is in
            let more = times-append q before (node ∷ []) in
            let one = ap (times q) nodes in
            omega arith;
      }
