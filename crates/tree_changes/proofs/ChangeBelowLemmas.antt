-- What is below the slots of a node after changes, slot by slot.
use Rattle.std.proofs.Common.{set, get_or, ◌≡◌, ◌≢◌, inl, inr, ℕ, zero, suc, ◌+◌, ◌-◌, ◌<◌, ◌≤◌, ◌^◌, List, [], ◌∷◌, ◌++◌, length, refl, sym, ap, subst, ◌∙◌, arith, length-append, append_assoc, take, drop, map, Option, Some, None}
use Rattle.std.proofs.lemmas.Bool.{cases_eq}
use Rattle.std.specs.Cmp.{IsTotalOrder}
use Rattle.std.specs.declared.cmp.Ordering.{Ordering}
use Rattle.std.specs.declared.cmp.Ordering.TheVariants.{Less, Equal, Greater}
use Rattle.std.specs.List.{zip, slice_get, AllByRecursion}
use Rattle.std.specs.List.Sorted.{IsStrictlySortedBy}
use Rattle.entry_ref.specs.Records.{Records, SameAt}
use Rattle.store_api.specs.Ledgers.{Ledger}
use Rattle.store_api.specs.Parts.{times}
use Rattle.store_api.proofs.Times.{times-append}
use Rattle.tree_read.specs.Nodes.{node_keys, node_values}
use Rattle.tree_read.specs.Trees.{pairs_below, nodes_below, last_key, IsNode, Keeps}
use Rattle.tree_read.specs.Keys.{seen_by, AllBelow, AllReadable, NoneReadsNodes}
use Rattle.tree_read.specs.Pairs.{choose}
use Rattle.tree_read.specs.Slots.{slot_pairs, slot_nodes, IsInHand}
use Rattle.tree_read.proofs.ChildLemmas.{pairs-some, IsNode-lower}
use Rattle.tree_read.proofs.NodeKeyLemmas.{key_last}
use Rattle.tree_read.proofs.OrderLemmas.{ascends-left, ascends-right, below_last}
use Rattle.tree_read.proofs.OrderKeyLemmas.{others_kept, key-reads, keys-readable, keys-apart, ascends-stay}
use Rattle.tree_read.proofs.ReadLemmas.{hand-read, node-size}
use Rattle.tree_read.proofs.SlotLemmas.{hand-leaf, child_nodes, pairs-cut, pairs-slots, nodes-slots, slot_pairs-append, slot_pairs-leaf, slot_nodes-leaf, slot_pairs-one, slot_nodes-one, slot_nodes-kept}
use Rattle.tree_changes.specs.Merges.{Change, before, behind, pair_of, merged, AreInOrder, AllBelowFirst}
use Rattle.tree_changes.specs.Layers.{rows_pairs, rows_nodes, seen_change, seen_changes, AreInHand, AreKeyed, TurnsRows}
use Rattle.frozen_btree.specs.declared.rows.Row.{Row}
use Rattle.tree_changes.proofs.LayerLemmas.{empty-pairs, empty-nodes, none_at_end}
use Rattle.tree_changes.proofs.MergeLemmas.{behind-all, in-parts}
use Rattle.tree_changes.proofs.MergeLeafLemmas.{in-order}
use Rattle.tree_changes.proofs.TurnLemmas.{turns-then, turns-are, turns-none, turns-open, slot-hand, slot-nodes}

-- lists
take-part : {C : Type 0} (xs : List C) (k : ℕ) → take k xs ++ drop k xs ≡ xs
take-part [] zero = refl
take-part [] (suc k) = refl
take-part (x ∷ xs) zero = refl
take-part (x ∷ xs) (suc k) = ap (λ l. x ∷ l) (take-part xs k)

drop-again : {C : Type 0} (xs : List C) (i k : ℕ) → drop k (drop i xs) ≡ drop (i + k) xs
drop-again xs zero k = ap (λ j. drop j xs) (let e : k ≡ 0 + k = omega arith in e)
drop-again [] (suc i) zero = ap (λ j. drop j []) (let e : suc (i + 0) ≡ suc i + 0 = omega arith in e)
drop-again [] (suc i) (suc k) = ap (λ j. drop j []) (let e : suc (i + suc k) ≡ suc i + suc k = omega arith in e)
drop-again (x ∷ xs) (suc i) k = drop-again xs i k ∙ ap (λ j. drop j (x ∷ xs)) (let e : suc (i + k) ≡ suc i + k = omega arith in e)

drop-past : {C : Type 0} (xs : List C) (k : ℕ) → length xs ≤ k → drop k xs ≡ []
drop-past [] zero past = refl
drop-past [] (suc k) past = refl
drop-past (x ∷ xs) zero past = absurd (omega arith)
drop-past (x ∷ xs) (suc k) past = drop-past xs k (omega arith)

map-both : {C : Type 0} (f : C → Change) (xs ys : List C) → map f (xs ++ ys) ≡ map f xs ++ map f ys
map-both f [] ys = refl
map-both f (x ∷ xs) ys = ap (λ l. f x ∷ l) (map-both f xs ys)

-- the parts of a slice
pub slice-cut : {C : Type 0} (xs : List C) (from to : ℕ) → from ≤ to → take (to - from) (drop from xs) ++ drop to xs ≡ drop from xs
slice-cut xs from to low =
    ap (λ l. take (to - from) (drop from xs) ++ l) (let e : to ≡ from + (to - from) = omega arith in ap (λ k. drop k xs) e ∙ sym (drop-again xs from (to - from)))
    ∙ take-part (drop from xs) (to - from)

drop-one : (xs : List ℕ) (i : ℕ) → i < length xs → drop i xs ≡ get_or xs i 0 ∷ drop (suc i) xs
drop-one [] i low = absurd (omega arith)
drop-one (x ∷ xs) zero low = refl
drop-one (x ∷ xs) (suc i) low = drop-one xs i (omega arith)

-- what holds of each change of a slice
all-taken : {C : Type 0} (f : C → Change) (P : Change → Type 0) (xs : List C) (k : ℕ) → ((i : ℕ) → i < k → (x : C) → slice_get xs i ≡ Some x → P (f x))
    → AllByRecursion P (map f (take k xs))
all-taken f P [] zero each = tt
all-taken f P [] (suc k) each = tt
all-taken f P (x ∷ xs) zero each = tt
all-taken f P (x ∷ xs) (suc k) each = (each 0 (omega arith) x refl, all-taken f P xs k (λ i low y is. each (suc i) (omega arith) y is))

all-nil : {C : Type 0} (f : C → Change) (P : Change → Type 0) (k : ℕ) → AllByRecursion P (map f (take k []))
all-nil f P zero = tt
all-nil f P (suc k) = tt

pub all-sliced : {C : Type 0} (f : C → Change) (P : Change → Type 0) (xs : List C) (from to : ℕ)
    → ((i : ℕ) → from ≤ i → i < to → (x : C) → slice_get xs i ≡ Some x → P (f x)) → AllByRecursion P (map f (take (to - from) (drop from xs)))
all-sliced f P xs zero to each =
    subst (λ k. AllByRecursion P (map f (take k xs))) (let e : to ≡ to - 0 = omega arith in e) (all-taken f P xs to (λ i low x is. each i (omega arith) low x is))
all-sliced f P [] (suc from) to each = all-nil f P (to - suc from)
all-sliced f P (y ∷ xs) (suc from) zero each =
    subst (λ k. AllByRecursion P (map f (take k (drop from xs)))) (let e : 0 ≡ 0 - suc from = omega arith in e) tt
all-sliced f P (y ∷ xs) (suc from) (suc to) each =
    subst (λ k. AllByRecursion P (map f (take k (drop from xs)))) (let e : to - from ≡ suc to - suc from = omega arith in e)
    (all-sliced f P xs from to (λ i low high x is. each (suc i) (omega arith) (omega arith) x is))

pub first-below : {C : Type 0} (f : C → Change) (xs : List C) (at : ℕ) (ps : List (ℕ × ℕ)) → ((x : C) → slice_get xs at ≡ Some x → AllBelow (f x).compare ps)
    → AllBelowFirst (map f (drop at xs)) ps
first-below f [] zero ps each = tt
first-below f [] (suc at) ps each = tt
first-below f (x ∷ xs) zero ps each = each x refl
first-below f (x ∷ xs) (suc at) ps each = first-below f xs at ps each

-- a merge has no more pairs than both
parts-size : (c : ℕ → Ordering) (ps : List (ℕ × ℕ)) → length (before c ps) + length (behind c ps) ≤ length ps
parts-size c [] = omega arith
parts-size c (p ∷ ps) =
    let rest = parts-size c ps in
    elim (c p.0) as (λ o. length (choose o (p ∷ before c ps) [] []) + length (choose o (behind c ps) ps (p ∷ ps)) ≤ suc (length ps)) [
      | Less ↦ omega arith
      | Equal ↦ omega arith
      | Greater ↦ omega arith
    ]

pair-size : (pair : Option (ℕ × ℕ)) → length (pair_of pair) ≤ 1
pair-size None = omega arith
pair-size (Some pair) = omega arith

pub merged-size : (changes : List Change) (ps : List (ℕ × ℕ)) → length (merged changes ps) ≤ length ps + length changes
merged-size [] ps = omega arith
merged-size (a ∷ changes) ps =
    let parts = parts-size a.compare ps in
    let rest = merged-size changes (behind a.compare ps) in
    let one = pair-size a.pair in
    let x = length-append (before a.compare ps) (pair_of a.pair ++ merged changes (behind a.compare ps)) in
    let y = length-append (pair_of a.pair) (merged changes (behind a.compare ps)) in
    omega arith

-- a merge by comparisons that agree on the keys of the pairs
before-alike : (c d : ℕ → Ordering) (ps : List (ℕ × ℕ)) → AllByRecursion (λ p. c p.0 ≡ d p.0) ps → before c ps ≡ before d ps
before-alike c d [] all = refl
before-alike c d (p ∷ ps) all =
    ap (λ o. choose o (p ∷ before c ps) [] []) all.0 ∙ ap (λ zs. choose (d p.0) (p ∷ zs) [] []) (before-alike c d ps all.1)

behind-alike : (c d : ℕ → Ordering) (ps : List (ℕ × ℕ)) → AllByRecursion (λ p. c p.0 ≡ d p.0) ps → behind c ps ≡ behind d ps
behind-alike c d [] all = refl
behind-alike c d (p ∷ ps) all =
    ap (λ o. choose o (behind c ps) ps (p ∷ ps)) all.0 ∙ ap (λ zs. choose (d p.0) zs ps (p ∷ ps)) (behind-alike c d ps all.1)

module _ {V C : Type 0} (order : V → V → Ordering) (read : Records → ℕ → V) (sought : C → V) (pair : C → Option (ℕ × ℕ)) (m n : Records) where
  alike-by : (c : C) (ps : List (ℕ × ℕ)) → AllByRecursion (λ p. read n p.0 ≡ read m p.0) ps
      → AllByRecursion (λ p. seen_by read order (sought c) n p.0 ≡ seen_by read order (sought c) m p.0) ps
  alike-by c [] all = tt
  alike-by c (p ∷ ps) all = (ap (λ v. order v (sought c)) all.0, alike-by c ps all.1)

  pub merged-alike : (changes : List C) (ps : List (ℕ × ℕ)) → AllByRecursion (λ p. read n p.0 ≡ read m p.0) ps
      → merged (seen_changes read order sought pair n changes) ps ≡ merged (seen_changes read order sought pair m changes) ps
  merged-alike [] ps all = refl
  merged-alike (c ∷ changes) ps all =
      let cn = seen_by read order (sought c) n in
      let cm = seen_by read order (sought c) m in
      let here = alike-by c ps all in
      let rest = seen_changes read order sought pair n changes in
      ap (λ zs. zs ++ (pair_of (pair c) ++ merged rest (behind cn ps))) (before-alike cn cm ps here)
      ∙ ap (λ zs. before cm ps ++ (pair_of (pair c) ++ merged rest zs)) (behind-alike cn cm ps here)
      ∙ ap (λ zs. before cm ps ++ (pair_of (pair c) ++ zs))
      (merged-alike changes (behind cm ps) (behind-all (λ p. read n p.0 ≡ read m p.0) cm ps all))

-- parts of ascending lists ascend
module _ {V C : Type 0} (order : V → V → Ordering) (sought : C → V) where
  each-drop : (P : V → Type 0) (xs : List C) (i : ℕ) → AllByRecursion P (map sought xs) → AllByRecursion P (map sought (drop i xs))
  each-drop P xs zero all = all
  each-drop P [] (suc i) all = tt
  each-drop P (x ∷ xs) (suc i) all = each-drop P xs i all.1

  each-take : (P : V → Type 0) (xs : List C) (i : ℕ) → AllByRecursion P (map sought xs) → AllByRecursion P (map sought (take i xs))
  each-take P xs zero all = tt
  each-take P [] (suc i) all = tt
  each-take P (x ∷ xs) (suc i) all = (all.0, each-take P xs i all.1)

  pub sorted-drop : (xs : List C) (i : ℕ) → IsStrictlySortedBy order (map sought xs) → IsStrictlySortedBy order (map sought (drop i xs))
  unfolding IsStrictlySortedBy
  sorted-drop xs zero up = up
  sorted-drop [] (suc i) up = tt
  sorted-drop (x ∷ xs) (suc i) up = sorted-drop xs i up.1

  pub sorted-take : (xs : List C) (i : ℕ) → IsStrictlySortedBy order (map sought xs) → IsStrictlySortedBy order (map sought (take i xs))
  unfolding IsStrictlySortedBy
  sorted-take xs zero up = tt
  sorted-take [] (suc i) up = tt
  sorted-take (x ∷ xs) (suc i) up = (each-take (λ y. order (sought x) y ≡ Less) xs i up.0, sorted-take xs i up.1)

  pub sorted-slice : (xs : List C) (from to : ℕ) → IsStrictlySortedBy order (map sought xs) → IsStrictlySortedBy order (map sought (take (to - from) (drop from xs)))
  sorted-slice xs from to up = sorted-take (drop from xs) (to - from) (sorted-drop xs from up)

-- part of the way over the slots
pub record GoesOn {H : Type 0} (old new : Ledger H) (m n : Records) (rows rows_now : List Row) (changes left : List Change)
    (pairs pairs_left : List (ℕ × ℕ)) (nodes before after : List ℕ) : Type 0 where
  pub done : List (ℕ × ℕ)
  pub turns : TurnsRows old new m n 0 rows rows_now done nodes before after
  pub whole : done ++ merged left pairs_left ≡ merged changes pairs
  pub few : length (rows_pairs n 0 rows_now) + length pairs_left + length left < 2 ^ 32

module _ {V C : Type 0} (order : V → V → Ordering) (total : IsTotalOrder order) (can_read : Records → ℕ → Type 0) (read : Records → ℕ → V) (reads_from : Records → ℕ → List ℕ)
    (stays : (m n : Records) (key : ℕ) → can_read m key → SameAt (reads_from m key) m n → can_read n key × (read n key ≡ read m key))
    (steady : (m n : Records) (key : ℕ) → can_read m key → SameAt (reads_from m key) m n → reads_from n key ≡ reads_from m key)
    (sought : C → V) (pair : C → Option (ℕ × ℕ)) where
  abbrev seen : Records → List C → List Change
  seen m changes = seen_changes read order sought pair m changes

  abbrev keyed : Records → List (ℕ × ℕ) → Type 0
  keyed m ps = AreKeyed order read can_read reads_from m ps

  all-left : (P : ℕ × ℕ → Type 0) (xs ys : List (ℕ × ℕ)) → AllByRecursion P (xs ++ ys) → AllByRecursion P xs
  all-left P [] ys all = tt
  all-left P (x ∷ xs) ys all = (all.0, all-left P xs ys all.1)

  all-right : (P : ℕ × ℕ → Type 0) (xs ys : List (ℕ × ℕ)) → AllByRecursion P (xs ++ ys) → AllByRecursion P ys
  all-right P [] ys all = all
  all-right P (x ∷ xs) ys all = all-right P xs ys all.1

  pub keyed-left : (m : Records) (xs ys : List (ℕ × ℕ)) → keyed m (xs ++ ys) → keyed m xs
  keyed-left m xs ys is = record {
    ascends = ascends-left order (read m) xs ys is.ascends;
    readable = all-left (λ p. can_read m p.0) xs ys is.readable;
    apart = all-left _ xs ys is.apart;
  }

  pub keyed-right : (m : Records) (xs ys : List (ℕ × ℕ)) → keyed m (xs ++ ys) → keyed m ys
  keyed-right m xs ys is = record {
    ascends = ascends-right order (read m) xs ys is.ascends;
    readable = all-right (λ p. can_read m p.0) xs ys is.readable;
    apart = all-right _ xs ys is.apart;
  }

  module _ (m n : Records) (keeps : Keeps m n) where
    pub keyed-kept : (ps : List (ℕ × ℕ)) → keyed m ps → keyed n ps
    keyed-kept ps is = record {
      ascends = ascends-stay can_read read reads_from stays m n (others_kept m n keeps) order ps is.readable is.apart is.ascends;
      readable = keys-readable can_read read reads_from stays m n (others_kept m n keeps) ps is.readable is.apart;
      apart = keys-apart order can_read read reads_from stays steady m n (others_kept m n keeps) ps is.readable is.apart;
    }

    reads-alike : (ps : List (ℕ × ℕ)) → AllReadable can_read m ps → NoneReadsNodes reads_from m ps → AllByRecursion (λ p. read n p.0 ≡ read m p.0) ps
    reads-alike [] can none = tt
    reads-alike (p ∷ ps) can none = (key-reads can_read read reads_from stays m n (others_kept m n keeps) p.0 can.0 none.0, reads-alike ps can.1 none.1)

    pub merged-kept : (changes : List C) (ps : List (ℕ × ℕ)) → keyed m ps → merged (seen n changes) ps ≡ merged (seen m changes) ps
    merged-kept changes ps is = merged-alike order read sought pair m n changes ps (reads-alike ps is.readable is.apart)

    -- the changes up to the key of a slot are made below it, the others behind it
    module _ (level : ℕ) (above : 0 < level) (keys values : List ℕ) (hand : IsInHand m level keys values) (all : keyed m (slot_pairs m level keys values)) (slot : ℕ) (low : slot < length keys)
        (changes : List C) (up : IsStrictlySortedBy order (map sought changes)) (first end : ℕ) (from : first ≤ end)
        (last : suc slot ≡ length keys → end ≡ length changes)
        (below : suc slot < length keys → (i : ℕ) → first ≤ i → i < end → (c : C) → slice_get changes i ≡ Some c → seen_by read order (sought c) n (get_or keys slot 0) ≢ Less)
        (at : suc slot < length keys → (c : C) → slice_get changes end ≡ Some c → seen_by read order (sought c) n (get_or keys slot 0) ≡ Less) where
      abbrev key : List ℕ
      key = get_or keys slot 0 ∷ []

      abbrev value : List ℕ
      value = get_or values slot 0 ∷ []

      abbrev here : List (ℕ × ℕ)
      here = slot_pairs m level key value

      abbrev rest : List (ℕ × ℕ)
      rest = slot_pairs m level (drop (suc slot) keys) (drop (suc slot) values)

      abbrev some : List C
      some = take (end - first) (drop first changes)

      more : List C
      more = drop end changes

      -- both parts
      pairs-next : slot_pairs m level (drop slot keys) (drop slot values) ≡ here ++ rest
      pairs-next =
          ap (λ ks. slot_pairs m level ks (drop slot values)) (drop-one keys slot low)
          ∙ ap (λ vs. slot_pairs m level (get_or keys slot 0 ∷ drop (suc slot) keys) vs) (drop-one values slot (let even = hand.even in omega arith))
          ∙ slot_pairs-append m level key value (drop (suc slot) keys) (drop (suc slot) values) refl

      pub slot-size : length here + length rest ≡ length (slot_pairs m level (drop slot keys) (drop slot values))
      slot-size = let a = ap length pairs-next in let b = length-append here rest in omega arith

      pub slices-size : length some + length (drop end changes) ≡ length (drop first changes)
      slices-size = let a = ap length (slice-cut changes first end from) in let b = length-append some (drop end changes) in omega arith

      left-keyed : keyed m (here ++ rest)
      left-keyed = subst (keyed m) pairs-next
          (keyed-right m (slot_pairs m level (take slot keys) (take slot values)) (slot_pairs m level (drop slot keys) (drop slot values)) (subst (keyed m) (pairs-cut m level keys values hand slot) all))

      pub slot-keyed : keyed m here
      slot-keyed = keyed-left m here rest left-keyed

      slot-last : (l : ℕ) → level ≡ suc l → last_key here ≡ get_or keys slot 0
      slot-last l is =
          let inner = subst (λ k. IsInHand m k keys values) is hand in
          let even = hand.even in
          ap (λ k. last_key (slot_pairs m k key value)) is ∙ ap last_key (slot_pairs-one m l (get_or keys slot 0) (get_or values slot 0))
          ∙ sym (key_last m l keys values slot inner (omega arith))

      slot-some : (l : ℕ) → level ≡ suc l → 0 < length here
      slot-some l is =
          let inner = subst (λ k. IsInHand m k key value) is (slot-hand m level keys values hand slot low) in
          let some = pairs-some m 8 l (get_or values slot 0) (omega arith) (child_nodes m l key value inner).0 in
          let same = ap length (ap (λ k. slot_pairs m k key value) is ∙ slot_pairs-one m l (get_or keys slot 0) (get_or values slot 0)) in
          omega arith

      parts-at : (l : ℕ) → level ≡ suc l → suc slot < length keys → merged (seen n (some ++ drop end changes)) (here ++ rest) ≡ merged (seen n some) here ++ merged (seen n (drop end changes)) rest
      parts-at l is high =
          let f = seen_change read order sought pair n in
          let last_is = slot-last l is in
          let kept = keyed-kept here slot-keyed in
          let order_is = subst AreInOrder (map-both f some (drop end changes)) (in-order order total read sought pair n (some ++ drop end changes)
          (subst (λ cs. IsStrictlySortedBy order (map sought cs)) (sym (slice-cut changes first end from)) (sorted-drop order sought changes first up))) in
          let not_below = all-sliced f (λ change. change.compare (last_key here) ≢ Less) changes first end
          (λ i low_i high_i c is_c. subst (λ k. seen_by read order (sought c) n k ≢ Less) (sym last_is) (below high i low_i high_i c is_c)) in
          let next = first-below f changes end here
          (λ c is_c. below_last order (read n) total (sought c) here kept.ascends (ap (λ k. order (read n k) (sought c)) last_is ∙ at high c is_c)) in
          ap (λ cs. merged cs (here ++ rest)) (map-both f some (drop end changes))
          ∙ in-parts (seen n some) (seen n (drop end changes)) here rest order_is (slot-some l is) not_below next

      ends-at : suc slot ≡ length keys → merged (seen n (some ++ drop end changes)) (here ++ rest) ≡ merged (seen n some) here ++ merged (seen n (drop end changes)) rest
      ends-at is =
          let none : drop end changes ≡ [] = drop-past changes end (let e = last is in omega arith) in
          let no_keys : drop (suc slot) keys ≡ [] = drop-past keys (suc slot) (omega arith) in
          let no_values : drop (suc slot) values ≡ [] = drop-past values (suc slot) (let even = hand.even in omega arith) in
          let no_pairs : rest ≡ [] = ap (λ ks. slot_pairs m level ks (drop (suc slot) values)) no_keys ∙ ap (λ vs. slot_pairs m level [] vs) no_values ∙ empty-pairs m level in
          ap (λ cs. merged (seen n (some ++ cs)) (here ++ rest)) none
          ∙ ap (λ cs. merged (seen n cs) (here ++ rest)) (none_at_end some)
          ∙ ap (λ ps. merged (seen n some) (here ++ ps)) no_pairs
          ∙ ap (λ ps. merged (seen n some) ps) (none_at_end here)
          ∙ sym (none_at_end (merged (seen n some) here))
          ∙ ap (λ ps. merged (seen n some) here ++ ps) (sym (ap (λ cs. merged (seen n cs) rest) none ∙ no_pairs))

      pub slot-step : merged (seen m (drop first changes)) (slot_pairs m level (drop slot keys) (drop slot values))
          ≡ merged (seen n some) here ++ merged (seen m (drop end changes)) rest
      slot-step =
          ap (λ cs. merged (seen m cs) (slot_pairs m level (drop slot keys) (drop slot values))) (sym (slice-cut changes first end from))
          ∙ ap (λ ps. merged (seen m (some ++ drop end changes)) ps) pairs-next
          ∙ sym (merged-kept (some ++ drop end changes) (here ++ rest) left-keyed)
          ∙ elim (cases_eq (suc slot) (length keys)) [
            | inl is ↦ ends-at is
            | inr ne ↦ parts-at (level - 1) (omega arith) (omega arith)
          ]
          ∙ ap (λ ps. merged (seen n some) here ++ ps) (merged-kept (drop end changes) rest (keyed-right m here rest left-keyed))

-- the walk over the slots
pub goes-none : {H : Type 0} (ledger : Ledger H) (m : Records) (rows : List Row) (changes : List Change) (pairs : List (ℕ × ℕ)) (before : List ℕ)
    → AreInHand m 0 rows → length (rows_pairs m 0 rows) + length pairs + length changes < 2 ^ 32
    → (level : ℕ) (values : List ℕ) → GoesOn ledger ledger m m rows rows changes changes pairs pairs (slot_nodes m level (take 0 values)) before before
goes-none ledger m rows changes pairs before hand few level values = record {
  done = [];
  turns = turns-are ledger ledger m m 0 rows rows [] [] [] (slot_nodes m level []) before before refl (sym (empty-nodes m level)) (turns-none ledger m 0 rows before hand);
  whole = refl;
  few = few;
}

pub goes-more : {H : Type 0} (old mid new : Ledger H) (m n o : Records) (keeps : Keeps m n) (level : ℕ) (rows rows2 rows3 : List Row) (all left left2 some : List Change)
    (pairs pairs_left pairs_left2 here : List (ℕ × ℕ)) (keys values before between after : List ℕ) (hand : IsInHand m level keys values) (slot next : ℕ) (low : slot < length keys)
    → next ≡ suc slot → length here + length pairs_left2 ≡ length pairs_left → length some + length left2 ≡ length left
    → merged left pairs_left ≡ merged some here ++ merged left2 pairs_left2
    → GoesOn old mid m n rows rows2 all left pairs pairs_left (slot_nodes m level (take slot values)) before between
    → TurnsRows mid new n o 0 rows2 rows3 (merged some here) (slot_nodes n level (get_or values slot 0 ∷ [])) between after
    → GoesOn old new m o rows rows3 all left2 pairs pairs_left2 (slot_nodes m level (take next values)) before after
goes-more old mid new m n o keeps level rows rows2 rows3 all left left2 some pairs pairs_left pairs_left2 here keys values before between after hand slot next low next_is pairs_size changes_size step goes turns =
    let both = turns-then old mid new m n o 0 rows rows2 rows3 goes.done (merged some here) (slot_nodes m level (take slot values)) (slot_nodes n level (get_or values slot 0 ∷ []))
    before between after goes.turns turns in
    let nodes = ap (λ ns. slot_nodes m level (take slot values) ++ ns) (slot_nodes-kept m n keeps level (get_or keys slot 0 ∷ []) (get_or values slot 0 ∷ []) (slot-hand m level keys values hand slot low))
    ∙ sym (slot-nodes m level keys values hand slot low) ∙ ap (λ k. slot_nodes m level (take k values)) (sym next_is) in
    record {
      done = goes.done ++ merged some here;
      turns = turns-are old new m o 0 rows rows3 (goes.done ++ merged some here) (goes.done ++ merged some here)
          (slot_nodes m level (take slot values) ++ slot_nodes n level (get_or values slot 0 ∷ [])) (slot_nodes m level (take next values)) before after refl nodes both;
      whole = append_assoc goes.done (merged some here) (merged left2 pairs_left2) ∙ ap (λ ps. goes.done ++ ps) (sym step) ∙ goes.whole;
      few =
          let a = goes.few in
          let b = ap length turns.pairs_are in
          let d = length-append (rows_pairs n 0 rows2) (merged some here) in
          let e = merged-size some here in
          omega arith;
    }

-- the end of the slots
take-whole : (xs : List ℕ) (k : ℕ) → length xs ≤ k → take k xs ≡ xs
take-whole [] zero past = refl
take-whole [] (suc k) past = refl
take-whole (x ∷ xs) zero past = absurd (omega arith)
take-whole (x ∷ xs) (suc k) past = ap (λ l. x ∷ l) (take-whole xs k (omega arith))

pub goes-end : {H : Type 0} {C : Type 0} (f : C → Change) (old new : Ledger H) (m n : Records) (level : ℕ) (rows rows2 : List Row) (changes : List C)
    (pairs : List (ℕ × ℕ)) (keys values before after : List ℕ) → length keys ≡ length values → (slot first : ℕ) → length keys ≤ slot → first ≡ length changes
    → GoesOn old new m n rows rows2 (map f changes) (map f (drop first changes)) pairs (slot_pairs m level (drop slot keys) (drop slot values)) (slot_nodes m level (take slot values)) before after
    → TurnsRows old new m n 0 rows rows2 (merged (map f changes) pairs) (slot_nodes m level values) before after
goes-end f old new m n level rows rows2 changes pairs keys values before after even slot first past last goes =
    let none : drop first changes ≡ [] = drop-past changes first (omega arith) in
    let no_keys : drop slot keys ≡ [] = drop-past keys slot past in
    let no_values : drop slot values ≡ [] = drop-past values slot (omega arith) in
    let left = slot_pairs m level (drop slot keys) (drop slot values) in
    let no_pairs : left ≡ [] = ap (λ ks. slot_pairs m level ks (drop slot values)) no_keys ∙ ap (λ vs. slot_pairs m level [] vs) no_values ∙ empty-pairs m level in
    let done : goes.done ≡ merged (map f changes) pairs =
    sym (none_at_end goes.done) ∙ ap (λ ps. goes.done ++ ps) (sym (ap (λ cs. merged (map f cs) left) none ∙ no_pairs)) ∙ goes.whole in
    turns-are old new m n 0 rows rows2 goes.done (merged (map f changes) pairs) (slot_nodes m level (take slot values)) (slot_nodes m level values) before after
    done (ap (λ vs. slot_nodes m level vs) (take-whole values slot (omega arith))) goes.turns

-- one slot
module _ (m : Records) (level key value child : ℕ) (above : 0 < level) (slot : IsInHand m level (key ∷ []) (value ∷ [])) (child_is : child ≡ value) where
  lower : suc (level - 1) ≡ level
  lower = omega arith

  inner : IsInHand m (suc (level - 1)) (key ∷ []) (value ∷ [])
  inner = subst (λ l. IsInHand m l (key ∷ []) (value ∷ [])) (sym lower) slot

  pub child-node : IsNode m 1 (level - 1) child
  child-node = subst (λ q. IsNode m 1 (level - 1) q) (sym child_is)
      (IsNode-lower m 8 1 (level - 1) value (omega arith) (child_nodes m (level - 1) (key ∷ []) (value ∷ []) inner).0)

  pub child-pairs : pairs_below m (level - 1) child ≡ slot_pairs m level (key ∷ []) (value ∷ [])
  child-pairs = ap (λ q. pairs_below m (level - 1) q) child_is ∙ sym (slot_pairs-one m (level - 1) key value) ∙ ap (λ l. slot_pairs m l (key ∷ []) (value ∷ [])) lower

  pub child-nodes : nodes_below m (level - 1) child ≡ slot_nodes m level (value ∷ [])
  child-nodes = ap (λ q. nodes_below m (level - 1) q) child_is ∙ sym (slot_nodes-one m (level - 1) value) ∙ ap (λ l. slot_nodes m l (value ∷ [])) lower

-- one node
module _ (m : Records) (level node : ℕ) (is : IsNode m 1 level node) (keys values : List ℕ) (ks : keys ≡ node_keys (m node)) (vs : values ≡ node_values (m node)) where
  pub opened : IsInHand m level keys values
  opened = subst (λ k. IsInHand m level k values) (sym ks) (subst (λ v. IsInHand m level (node_keys (m node)) v) (sym vs) (hand-read m 1 level node is))

  pub opened-is : slot_pairs m level keys values ≡ pairs_below m level node
  opened-is = ap (λ k. slot_pairs m level k values) ks ∙ ap (λ v. slot_pairs m level (node_keys (m node)) v) vs ∙ sym (pairs-slots m level node)

  pub opened-of : node ∷ slot_nodes m level values ≡ nodes_below m level node
  opened-of = ap (λ v. node ∷ slot_nodes m level v) vs ∙ sym (nodes-slots m level node)

  -- the slots of an inner node after changes
  pub turns-inner : {H : Type 0} (old new : Ledger H) (n : Records) (rows rows2 : List Row) (changes : List Change) (before opens after : List ℕ) → AreInHand m 0 rows
      → opens ≡ before ++ node ∷ [] → TurnsRows old new m n 0 rows rows2 (merged changes (slot_pairs m level keys values)) (slot_nodes m level values) opens after
      → TurnsRows old new m n 0 rows rows2 (merged changes (pairs_below m level node)) (nodes_below m level node) before after
  turns-inner old new n rows rows2 changes before opens after hand opens_is turns =
      let first = turns-open old m 0 rows before node hand (node-size m 1 level node is) in
      let rest = subst (λ zs. TurnsRows old new m n 0 rows rows2 (merged changes (slot_pairs m level keys values)) (slot_nodes m level values) zs after) opens_is turns in
      let both = turns-then old old new m m n 0 rows rows rows2 [] (merged changes (slot_pairs m level keys values)) (node ∷ []) (slot_nodes m level values)
      before (before ++ node ∷ []) after first rest in
      turns-are old new m n 0 rows rows2 (merged changes (slot_pairs m level keys values)) (merged changes (pairs_below m level node))
      (node ∷ slot_nodes m level values) (nodes_below m level node) before after (ap (merged changes) opened-is) opened-of both

-- more pairs in the row of the leaves
pub row-more : {H : Type 0} (ledger : Ledger H) (m : Records) (rows : List Row) (row d : Row) (more : List (ℕ × ℕ)) (before : List ℕ) → AreInHand m 0 rows → 0 < length rows
    → length row.keys.items ≡ length row.nodes.items
    → zip row.keys.items row.nodes.items ≡ zip (get_or rows 0 d).keys.items (get_or rows 0 d).nodes.items ++ more
    → TurnsRows ledger ledger m m 0 rows (set rows 0 row) more [] before before
row-more ledger m [] row d more before hand some even pairs = absurd (omega arith)
row-more ledger m (first ∷ rows) row d more before hand some even pairs =
    let far = rows_pairs m 1 rows in
    let here = slot_pairs m 0 first.keys.items first.nodes.items in
    let now : slot_pairs m 0 row.keys.items row.nodes.items ≡ here ++ more =
    slot_pairs-leaf m row.keys.items row.nodes.items ∙ pairs ∙ ap (λ ps. ps ++ more) (sym (slot_pairs-leaf m first.keys.items first.nodes.items)) in
    record {
      hand = (hand-leaf m row.keys.items row.nodes.items even, hand.1);
      size = refl;
      pairs_are = ap (λ ps. far ++ ps) now ∙ sym (append_assoc far here more);
      balance = λ r.
          let a = times-append r (rows_nodes m 1 rows) (slot_nodes m 0 row.nodes.items) in
          let b = times-append r (rows_nodes m 1 rows) (slot_nodes m 0 first.nodes.items) in
          let d = ap (times r) (slot_nodes-leaf m row.nodes.items) in
          let e = ap (times r) (slot_nodes-leaf m first.nodes.items) in
          omega arith;
      replaced = λ all. all;
    }

-- a leaf after changes, in the row of the leaves
pub turns-leaf : {H : Type 0} (ledger : Ledger H) (m : Records) (node : ℕ) (is : IsNode m 1 0 node) (keys values : List ℕ) → keys ≡ node_keys (m node) → values ≡ node_values (m node)
    → (rows : List Row) (row d : Row) (changes : List Change) (before opens : List ℕ) → AreInHand m 0 rows → 0 < length rows → opens ≡ before ++ node ∷ []
    → length row.keys.items ≡ length row.nodes.items
    → zip row.keys.items row.nodes.items ≡ zip (get_or rows 0 d).keys.items (get_or rows 0 d).nodes.items ++ merged changes (zip keys values)
    → TurnsRows ledger ledger m m 0 rows (set rows 0 row) (merged changes (pairs_below m 0 node)) (nodes_below m 0 node) before opens
turns-leaf ledger m node is keys values ks vs rows row d changes before opens hand some opens_is even pairs =
    let more = merged changes (zip keys values) in
    let below : more ≡ merged changes (pairs_below m 0 node) =
    ap (merged changes) (sym (slot_pairs-leaf m keys values) ∙ opened-is m 0 node is keys values ks vs) in
    let put = row-more ledger m rows row d more (before ++ node ∷ []) hand some even pairs in
    let opens_node = turns-open ledger m 0 rows before node hand (node-size m 1 0 node is) in
    let both = turns-then ledger ledger ledger m m m 0 rows rows (set rows 0 row) [] more (node ∷ []) [] before (before ++ node ∷ []) (before ++ node ∷ []) opens_node put in
    let nodes : node ∷ [] ≡ nodes_below m 0 node = ap (λ ns. node ∷ ns) (sym (slot_nodes-leaf m values)) ∙ opened-of m 0 node is keys values ks vs in
    subst (λ zs. TurnsRows ledger ledger m m 0 rows (set rows 0 row) (merged changes (pairs_below m 0 node)) (nodes_below m 0 node) before zs) (sym opens_is)
    (turns-are ledger ledger m m 0 rows (set rows 0 row) more (merged changes (pairs_below m 0 node)) (node ∷ []) (nodes_below m 0 node) before (before ++ node ∷ []) below nodes both)

-- no changes
pub merged-none : {C : Type 0} (f : C → Change) (changes : List C) (ps : List (ℕ × ℕ)) → length changes ≡ 0 → merged (map f changes) ps ≡ ps
merged-none f [] ps none = refl
merged-none f (c ∷ changes) ps none = absurd (omega arith)

pub first-even : (m : Records) (rows : List Row) (d : Row) → AreInHand m 0 rows → 0 < length rows → length (get_or rows 0 d).keys.items ≡ length (get_or rows 0 d).nodes.items
first-even m [] d hand some = absurd (omega arith)
first-even m (row ∷ rows) d hand some = hand.0.even

pub seen-size : {V C : Type 0} (read : Records → ℕ → V) (order : V → V → Ordering) (sought : C → V) (pair : C → Option (ℕ × ℕ)) (m : Records) (changes : List C)
    → length (seen_changes read order sought pair m changes) ≡ length changes
seen-size read order sought pair m [] = refl
seen-size read order sought pair m (c ∷ changes) = ap suc (seen-size read order sought pair m changes)
