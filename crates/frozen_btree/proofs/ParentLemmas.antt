-- A parent with made nodes in place of one or two of its children.
use Rattle.std.proofs.Common.{◌≡◌, ℕ, suc, ◌+◌, ◌-◌, ◌<◌, ◌≤◌, List, [], ◌∷◌, ◌++◌, length, take, drop, get_or, sym, ap, subst, ◌∙◌, arith, append_assoc, length-append, length-take, length-drop}
use Rattle.std.proofs.lemmas.List.{append-nil, take_more, drop_more}
use Rattle.std.proofs.lemmas.Grind.{flat_map-append}
use Rattle.std.specs.List.{flat_map}
use Rattle.entry_ref.specs.Records.{Records}
use Rattle.tree_read.specs.Trees.{pairs_below, nodes_below, Keeps}
use Rattle.store_api.specs.Ledgers.{Ledger}
use Rattle.store_api.proofs.Times.{times-append}
use Rattle.store_api.specs.Parts.{times, uses}
use Rattle.tree_read.proofs.SlotLemmas.{slot_pairs-append, slot_nodes-append, slot_pairs-inner, slot_nodes-inner, hand-append, hand-kept, slot_pairs-kept, slot_nodes-kept, hand-take, hand-drop}
use Rattle.frozen_nodes.specs.Makes.{MakesNodes}
use Rattle.tree_read.specs.Slots.{slot_pairs, slot_nodes, IsInHand}
use Rattle.frozen_btree.specs.Removes.{PutsBack, spliced}
use Rattle.frozen_btree.specs.Settles.{SettlesSlots}

-- the lists of the children before a place and behind it
front_more : {X : Type 0} (f : ℕ → List X) (vs : List ℕ) (i : ℕ) → i < length vs → flat_map f (take (suc i) vs) ≡ flat_map f (take i vs) ++ f (get_or vs i 0)
front_more f vs i low =
    let up : suc i ≡ i + 1 = omega arith in
    ap (λ k. flat_map f (take k vs)) up
    ∙ ap (flat_map f) (take_more vs i 0 low)
    ∙ flat_map-append f (take i vs) (get_or vs i 0 ∷ [])
    ∙ ap (λ l. flat_map f (take i vs) ++ l) (append-nil (f (get_or vs i 0)))

back_more : {X : Type 0} (f : ℕ → List X) (vs : List ℕ) (i : ℕ) → i < length vs → flat_map f (drop i vs) ≡ f (get_or vs i 0) ++ flat_map f (drop (suc i) vs)
back_more f vs i low =
    let up : i + 1 ≡ suc i = omega arith in
    ap (flat_map f) (drop_more vs i 0 low) ∙ ap (λ k. f (get_or vs i 0) ++ flat_map f (drop k vs)) up

module _ {H : Type 0} (old new : Ledger H) (m n : Records) (level : ℕ) (pairs : List (ℕ × ℕ)) (nodes : List ℕ) (first width : ℕ)
    (keys values keys_after values_after : List ℕ) (hand : IsInHand m (suc level) keys values)
    (settles : SettlesSlots old new m n level pairs nodes first width keys values keys_after values_after) where
  front : IsInHand m (suc level) (take first keys) (take first values)
  front = hand-take m (suc level) keys values hand first

  back : IsInHand m (suc level) (drop (first + width) keys) (drop (first + width) values)
  back = hand-drop m (suc level) keys values hand (first + width)

  keeps : Keeps m n
  keeps = settles.stands.makes.keeps

  behind : IsInHand n (suc level) (settles.made_keys ++ drop (first + width) keys) (settles.made_values ++ drop (first + width) values)
  behind =
      hand-append n (suc level) settles.made_keys settles.made_values (drop (first + width) keys) (drop (first + width) values)
      settles.stands.hand (hand-kept m n keeps (suc level) (drop (first + width) keys) (drop (first + width) values) back)

  pub hand-after : IsInHand n (suc level) keys_after values_after
  hand-after =
      subst (λ ks. IsInHand n (suc level) ks values_after) (sym settles.keys_are)
      (subst (IsInHand n (suc level) (take first keys ++ (settles.made_keys ++ drop (first + width) keys))) (sym settles.values_are)
      (hand-append n (suc level) (take first keys) (take first values) (settles.made_keys ++ drop (first + width) keys) (settles.made_values ++ drop (first + width) values)
      (hand-kept m n keeps (suc level) (take first keys) (take first values) front) behind))

  pub pairs-after : slot_pairs n (suc level) keys_after values_after
      ≡ slot_pairs m (suc level) (take first keys) (take first values) ++ (pairs ++ slot_pairs m (suc level) (drop (first + width) keys) (drop (first + width) values))
  pairs-after =
      ap (λ ks. slot_pairs n (suc level) ks values_after) settles.keys_are
      ∙ ap (slot_pairs n (suc level) (take first keys ++ (settles.made_keys ++ drop (first + width) keys))) settles.values_are
      ∙ slot_pairs-append n (suc level) (take first keys) (take first values) (settles.made_keys ++ drop (first + width) keys) (settles.made_values ++ drop (first + width) values) front.even
      ∙ ap (λ ps. ps ++ slot_pairs n (suc level) (settles.made_keys ++ drop (first + width) keys) (settles.made_values ++ drop (first + width) values))
      (slot_pairs-kept m n keeps (suc level) (take first keys) (take first values) front)
      ∙ ap (λ ps. slot_pairs m (suc level) (take first keys) (take first values) ++ ps)
      (slot_pairs-append n (suc level) settles.made_keys settles.made_values (drop (first + width) keys) (drop (first + width) values) settles.stands.hand.even
      ∙ ap (λ ps. ps ++ slot_pairs n (suc level) (drop (first + width) keys) (drop (first + width) values)) settles.stands.pairs_are
      ∙ ap (λ ps. pairs ++ ps) (slot_pairs-kept m n keeps (suc level) (drop (first + width) keys) (drop (first + width) values) back))

  nodes-after : slot_nodes n (suc level) values_after
      ≡ slot_nodes m (suc level) (take first values) ++ (slot_nodes n (suc level) settles.made_values ++ slot_nodes m (suc level) (drop (first + width) values))
  nodes-after =
      ap (slot_nodes n (suc level)) settles.values_are
      ∙ slot_nodes-append n (suc level) (take first values) (settles.made_values ++ drop (first + width) values)
      ∙ ap (λ qs. qs ++ slot_nodes n (suc level) (settles.made_values ++ drop (first + width) values)) (slot_nodes-kept m n keeps (suc level) (take first keys) (take first values) front)
      ∙ ap (λ qs. slot_nodes m (suc level) (take first values) ++ qs)
      (slot_nodes-append n (suc level) settles.made_values (drop (first + width) values)
      ∙ ap (λ qs. slot_nodes n (suc level) settles.made_values ++ qs) (slot_nodes-kept m n keeps (suc level) (drop (first + width) keys) (drop (first + width) values) back))

  pub balance-after : (r : ℕ) → times r (slot_nodes n (suc level) values_after) + uses old r
      ≡ uses new r + times r (slot_nodes m (suc level) (take first values)) + times r nodes + times r (slot_nodes m (suc level) (drop (first + width) values))
  balance-after r =
      let is = ap (times r) nodes-after in
      let a = times-append r (slot_nodes m (suc level) (take first values)) (slot_nodes n (suc level) settles.made_values ++ slot_nodes m (suc level) (drop (first + width) values)) in
      let b = times-append r (slot_nodes n (suc level) settles.made_values) (slot_nodes m (suc level) (drop (first + width) values)) in
      let d = settles.stands.balance r in
      omega arith

  pub size-after : first + width ≤ length keys → length keys_after + width ≡ length keys + length settles.made_values
  size-after inside =
      let is = ap length settles.keys_are in
      let even = settles.stands.hand.even in
      let a = length-append (take first keys) (settles.made_keys ++ drop (first + width) keys) in
      let b = length-append settles.made_keys (drop (first + width) keys) in
      omega (arith, length-take first keys, length-drop (first + width) keys)

regroup : {X : Type 0} (a s c d : List X) → a ++ ((s ++ c) ++ d) ≡ (a ++ s) ++ (c ++ d)
regroup a s c d = ap (λ l. a ++ l) (append_assoc s c d) ∙ sym (append_assoc a s (c ++ d))

module _ (m : Records) (level : ℕ) (keys values child_keys child_values : List ℕ) (hand : IsInHand m (suc level) keys values) (child : IsInHand m level child_keys child_values) where
  -- the pairs before a child with those of the sibling before it, and behind the first child with those of the second
  pub front-child : (place first sibling : ℕ) (sibling_keys sibling_values : List ℕ) → suc first ≡ place → first < length values → sibling ≡ get_or values first 0
      → pairs_below m level sibling ≡ slot_pairs m level sibling_keys sibling_values
      → slot_pairs m (suc level) (take place keys) (take place values) ≡ slot_pairs m (suc level) (take first keys) (take first values) ++ slot_pairs m level sibling_keys sibling_values
  front-child place first sibling sibling_keys sibling_values next below at pairs_are =
      slot_pairs-inner m level (take place keys) (take place values)
      ∙ ap (λ k. flat_map (pairs_below m level) (take k values)) (sym next)
      ∙ front_more (pairs_below m level) values first below
      ∙ ap (λ c. flat_map (pairs_below m level) (take first values) ++ pairs_below m level c) (sym at)
      ∙ ap (λ ps. flat_map (pairs_below m level) (take first values) ++ ps) pairs_are
      ∙ ap (λ ps. ps ++ slot_pairs m level sibling_keys sibling_values) (sym (slot_pairs-inner m level (take first keys) (take first values)))

  pub back-child : (sibling : ℕ) (sibling_keys sibling_values : List ℕ) → 1 < length values → sibling ≡ get_or values 1 0
      → pairs_below m level sibling ≡ slot_pairs m level sibling_keys sibling_values
      → slot_pairs m (suc level) (drop 1 keys) (drop 1 values) ≡ slot_pairs m level sibling_keys sibling_values ++ slot_pairs m (suc level) (drop 2 keys) (drop 2 values)
  back-child sibling sibling_keys sibling_values below at pairs_are =
      slot_pairs-inner m level (drop 1 keys) (drop 1 values)
      ∙ back_more (pairs_below m level) values 1 below
      ∙ ap (λ c. pairs_below m level c ++ flat_map (pairs_below m level) (drop 2 values)) (sym at)
      ∙ ap (λ ps. ps ++ flat_map (pairs_below m level) (drop 2 values)) pairs_are
      ∙ ap (λ ps. slot_pairs m level sibling_keys sibling_values ++ ps) (sym (slot_pairs-inner m level (drop 2 keys) (drop 2 values)))

  -- two neighbours have no more pairs than their parent
  pub few-before : (place first sibling most : ℕ) (sibling_keys sibling_values : List ℕ) → suc first ≡ place → first < length values → sibling ≡ get_or values first 0
      → length sibling_keys ≡ length sibling_values → pairs_below m level sibling ≡ slot_pairs m level sibling_keys sibling_values
      → length (spliced m level place keys values (slot_pairs m level child_keys child_values)) < most
      → length (slot_pairs m level (sibling_keys ++ child_keys) (sibling_values ++ child_values)) < most
  few-before place first sibling most sibling_keys sibling_values next below at even pairs_are few =
      let Ps = slot_pairs m level sibling_keys sibling_values in
      let Pc = slot_pairs m level child_keys child_values in
      let A = slot_pairs m (suc level) (take first keys) (take first values) in
      let B = slot_pairs m (suc level) (take place keys) (take place values) in
      let D = slot_pairs m (suc level) (drop (suc place) keys) (drop (suc place) values) in
      let a = ap length (front-child place first sibling sibling_keys sibling_values next below at pairs_are) in
      let b = ap length (slot_pairs-append m level sibling_keys sibling_values child_keys child_values even) in
      omega (arith, length-append A Ps, length-append Ps Pc, length-append B (Pc ++ D), length-append Pc D)

  pub few-behind : (sibling most : ℕ) (sibling_keys sibling_values : List ℕ) → 1 < length values → sibling ≡ get_or values 1 0
      → pairs_below m level sibling ≡ slot_pairs m level sibling_keys sibling_values
      → length (spliced m level 0 keys values (slot_pairs m level child_keys child_values)) < most
      → length (slot_pairs m level (child_keys ++ sibling_keys) (child_values ++ sibling_values)) < most
  few-behind sibling most sibling_keys sibling_values below at pairs_are few =
      let Ps = slot_pairs m level sibling_keys sibling_values in
      let Pc = slot_pairs m level child_keys child_values in
      let B = slot_pairs m (suc level) (take 0 keys) (take 0 values) in
      let D = slot_pairs m (suc level) (drop 1 keys) (drop 1 values) in
      let E = slot_pairs m (suc level) (drop 2 keys) (drop 2 values) in
      let a = ap length (back-child sibling sibling_keys sibling_values below at pairs_are) in
      let b = ap length (slot_pairs-append m level child_keys child_values sibling_keys sibling_values child.even) in
      omega (arith, length-append Ps E, length-append Pc Ps, length-append B (Pc ++ D), length-append Pc D)

module _ {H : Type 0} (old new : Ledger H) (m n : Records) (level : ℕ) (keys values child_keys child_values before after keys_after values_after : List ℕ)
    (hand : IsInHand m (suc level) keys values) (child : IsInHand m level child_keys child_values) where
  pub puts-alone : (place : ℕ) → place < length keys → after ≡ before
      → SettlesSlots old new m n level (slot_pairs m level child_keys child_values) (slot_nodes m level child_values) place 1 keys values keys_after values_after
      → PutsBack old new m n level place keys values child_keys child_values before after keys_after values_after
  puts-alone place low same settles =
      let up : place + 1 ≡ suc place = omega arith in
      let some = settles.some in
      let few = settles.few in
      let size = size-after old new m n level (slot_pairs m level child_keys child_values) (slot_nodes m level child_values) place 1 keys values keys_after values_after hand settles (omega arith) in
      record {
        hand = hand-after old new m n level (slot_pairs m level child_keys child_values) (slot_nodes m level child_values) place 1 keys values keys_after values_after hand settles;
        pairs_are =
            pairs-after old new m n level (slot_pairs m level child_keys child_values) (slot_nodes m level child_values) place 1 keys values keys_after values_after hand settles
            ∙ ap (λ k. slot_pairs m (suc level) (take place keys) (take place values) ++ (slot_pairs m level child_keys child_values ++ slot_pairs m (suc level) (drop k keys) (drop k values))) up;
        balance = λ r.
            let is = balance-after old new m n level (slot_pairs m level child_keys child_values) (slot_nodes m level child_values) place 1 keys values keys_after values_after hand settles r in
            let at = ap (λ k. times r (slot_nodes m (suc level) (drop k values))) up in
            let both = times-append r (slot_nodes m (suc level) (take place values)) (slot_nodes m (suc level) (drop (suc place) values)) in
            let old_list = ap (times r) same in
            omega arith;
        gone = λ r. let old_list = ap (times r) same in omega arith;
        path = let is = ap length same in omega arith;
        extra = 1;
        one = omega arith;
        filled = omega arith;
        most = 1;
        makes = subst (MakesNodes old new m n) (let one : length settles.made_values ≡ 1 = omega arith in one) settles.stands.makes;
        most_is = omega arith;
        whole = λ many. omega arith;
      }

  -- with the sibling before it, whose slots these are
  pub puts-left : (place first sibling : ℕ) (sibling_keys sibling_values : List ℕ) → suc first ≡ place → place < length keys → length child_keys < 8
      → sibling ≡ get_or values first 0 → IsInHand m level sibling_keys sibling_values
      → pairs_below m level sibling ≡ slot_pairs m level sibling_keys sibling_values → nodes_below m level sibling ≡ sibling ∷ slot_nodes m level sibling_values
      → after ≡ before ++ (sibling ∷ [])
      → SettlesSlots old new m n level (slot_pairs m level (sibling_keys ++ child_keys) (sibling_values ++ child_values)) (slot_nodes m level (sibling_values ++ child_values)) first 2 keys values keys_after values_after
      → PutsBack old new m n level place keys values child_keys child_values before after keys_after values_after
  puts-left place first sibling sibling_keys sibling_values next low short at sibling_hand pairs_are nodes_are added settles =
      let two : first + 2 ≡ suc place = omega arith in
      let below : first < length values = (let even = hand.even in omega arith) in
      let some = settles.some in
      let few = settles.few in
      let P = slot_pairs m level (sibling_keys ++ child_keys) (sibling_values ++ child_values) in
      let N = slot_nodes m level (sibling_values ++ child_values) in
      let size = size-after old new m n level P N first 2 keys values keys_after values_after hand settles (omega arith) in
      let Pc = slot_pairs m level child_keys child_values in
      let Ps = slot_pairs m level sibling_keys sibling_values in
      let front_pairs = front-child m level keys values child_keys child_values hand child place first sibling sibling_keys sibling_values next below at pairs_are in
      let front_nodes : slot_nodes m (suc level) (take place values) ≡ slot_nodes m (suc level) (take first values) ++ (sibling ∷ slot_nodes m level sibling_values) =
      slot_nodes-inner m level (take place values)
      ∙ ap (λ k. flat_map (nodes_below m level) (take k values)) (sym next)
      ∙ front_more (nodes_below m level) values first below
      ∙ ap (λ c. flat_map (nodes_below m level) (take first values) ++ nodes_below m level c) (sym at)
      ∙ ap (λ ps. flat_map (nodes_below m level) (take first values) ++ ps) nodes_are
      ∙ ap (λ ps. ps ++ (sibling ∷ slot_nodes m level sibling_values)) (sym (slot_nodes-inner m level (take first values))) in
      let A = slot_pairs m (suc level) (take first keys) (take first values) in
      let D = slot_pairs m (suc level) (drop (suc place) keys) (drop (suc place) values) in
      record {
        hand = hand-after old new m n level P N first 2 keys values keys_after values_after hand settles;
        pairs_are =
            pairs-after old new m n level P N first 2 keys values keys_after values_after hand settles
            ∙ ap (λ k. A ++ (P ++ slot_pairs m (suc level) (drop k keys) (drop k values))) two
            ∙ ap (λ ps. A ++ (ps ++ D)) (slot_pairs-append m level sibling_keys sibling_values child_keys child_values sibling_hand.even)
            ∙ regroup A Ps Pc D
            ∙ ap (λ ps. ps ++ (Pc ++ D)) (sym front_pairs);
        balance = λ r.
            let is = balance-after old new m n level P N first 2 keys values keys_after values_after hand settles r in
            let at_back = ap (λ k. times r (slot_nodes m (suc level) (drop k values))) two in
            let both = times-append r (slot_nodes m (suc level) (take place values)) (slot_nodes m (suc level) (drop (suc place) values)) in
            let inner = ap (times r) (slot_nodes-append m level sibling_values child_values) in
            let inner_sum = times-append r (slot_nodes m level sibling_values) (slot_nodes m level child_values) in
            let in_front = ap (times r) front_nodes in
            let in_front_sum = times-append r (slot_nodes m (suc level) (take first values)) (sibling ∷ slot_nodes m level sibling_values) in
            let in_list = ap (times r) added in
            let in_list_sum = times-append r before (sibling ∷ []) in
            omega arith;
        gone = λ r.
            let both = times-append r (slot_nodes m (suc level) (take place values)) (slot_nodes m (suc level) (drop (suc place) values)) in
            let in_front = ap (times r) front_nodes in
            let in_front_sum = times-append r (slot_nodes m (suc level) (take first values)) (sibling ∷ slot_nodes m level sibling_values) in
            let in_list = ap (times r) added in
            let in_list_sum = times-append r before (sibling ∷ []) in
            omega arith;
        path = let is = ap length added in omega (arith, length-append before (sibling ∷ []));
        extra = suc (length settles.made_values) - 2;
        one = omega arith;
        filled = omega arith;
        most = length settles.made_values;
        makes = settles.stands.makes;
        most_is = omega arith;
        whole = λ many. absurd (omega arith);
      }

  -- with the sibling behind it
  pub puts-right : (sibling : ℕ) (sibling_keys sibling_values : List ℕ) → 1 < length keys → length child_keys < 8
      → sibling ≡ get_or values 1 0 → IsInHand m level sibling_keys sibling_values
      → pairs_below m level sibling ≡ slot_pairs m level sibling_keys sibling_values → nodes_below m level sibling ≡ sibling ∷ slot_nodes m level sibling_values
      → after ≡ before ++ (sibling ∷ [])
      → SettlesSlots old new m n level (slot_pairs m level (child_keys ++ sibling_keys) (child_values ++ sibling_values)) (slot_nodes m level (child_values ++ sibling_values)) 0 2 keys values keys_after values_after
      → PutsBack old new m n level 0 keys values child_keys child_values before after keys_after values_after
  puts-right sibling sibling_keys sibling_values low short at sibling_hand pairs_are nodes_are added settles =
      let below : 1 < length values = (let even = hand.even in omega arith) in
      let some = settles.some in
      let few = settles.few in
      let P = slot_pairs m level (child_keys ++ sibling_keys) (child_values ++ sibling_values) in
      let N = slot_nodes m level (child_values ++ sibling_values) in
      let size = size-after old new m n level P N 0 2 keys values keys_after values_after hand settles (omega arith) in
      let Pc = slot_pairs m level child_keys child_values in
      let Ps = slot_pairs m level sibling_keys sibling_values in
      let back_pairs = back-child m level keys values child_keys child_values hand child sibling sibling_keys sibling_values below at pairs_are in
      let back_nodes : slot_nodes m (suc level) (drop 1 values) ≡ (sibling ∷ slot_nodes m level sibling_values) ++ slot_nodes m (suc level) (drop 2 values) =
      slot_nodes-inner m level (drop 1 values)
      ∙ back_more (nodes_below m level) values 1 below
      ∙ ap (λ c. nodes_below m level c ++ flat_map (nodes_below m level) (drop 2 values)) (sym at)
      ∙ ap (λ ps. ps ++ flat_map (nodes_below m level) (drop 2 values)) nodes_are
      ∙ ap (λ ps. (sibling ∷ slot_nodes m level sibling_values) ++ ps) (sym (slot_nodes-inner m level (drop 2 values))) in
      let A = slot_pairs m (suc level) (take 0 keys) (take 0 values) in
      let D = slot_pairs m (suc level) (drop 2 keys) (drop 2 values) in
      record {
        hand = hand-after old new m n level P N 0 2 keys values keys_after values_after hand settles;
        pairs_are =
            pairs-after old new m n level P N 0 2 keys values keys_after values_after hand settles
            ∙ ap (λ ps. A ++ (ps ++ D)) (slot_pairs-append m level child_keys child_values sibling_keys sibling_values child.even)
            ∙ ap (λ ps. A ++ ps) (append_assoc Pc Ps D)
            ∙ ap (λ ps. A ++ (Pc ++ ps)) (sym back_pairs);
        balance = λ r.
            let is = balance-after old new m n level P N 0 2 keys values keys_after values_after hand settles r in
            let both = times-append r (slot_nodes m (suc level) (take 0 values)) (slot_nodes m (suc level) (drop 1 values)) in
            let inner = ap (times r) (slot_nodes-append m level child_values sibling_values) in
            let inner_sum = times-append r (slot_nodes m level child_values) (slot_nodes m level sibling_values) in
            let in_back = ap (times r) back_nodes in
            let in_back_sum = times-append r (sibling ∷ slot_nodes m level sibling_values) (slot_nodes m (suc level) (drop 2 values)) in
            let in_list = ap (times r) added in
            let in_list_sum = times-append r before (sibling ∷ []) in
            omega arith;
        gone = λ r.
            let both = times-append r (slot_nodes m (suc level) (take 0 values)) (slot_nodes m (suc level) (drop 1 values)) in
            let in_back = ap (times r) back_nodes in
            let in_back_sum = times-append r (sibling ∷ slot_nodes m level sibling_values) (slot_nodes m (suc level) (drop 2 values)) in
            let in_list = ap (times r) added in
            let in_list_sum = times-append r before (sibling ∷ []) in
            omega arith;
        path = let is = ap length added in omega (arith, length-append before (sibling ∷ []));
        extra = suc (length settles.made_values) - 2;
        one = omega arith;
        filled = omega arith;
        most = length settles.made_values;
        makes = settles.stands.makes;
        most_is = omega arith;
        whole = λ many. absurd (omega arith);
      }
