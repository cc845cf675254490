-- The number of pairs below slots, child by child, and the last key of slots.
use Rattle.std.proofs.Common.{◌≡◌, ◌≢◌, ℕ, zero, suc, ◌+◌, ◌-◌, ◌<◌, ◌≤◌, List, [], ◌∷◌, ◌++◌, length, map, take, get_or, refl, sym, ap, subst, ◌∙◌, arith, length-append}
use Rattle.std.proofs.lemmas.List.{append-nil, take_more}
use Rattle.std.proofs.lemmas.Grind.{flat_map-append}
use Rattle.std.proofs.lemmas.List.Folds.{length-flat_map-take}
use Rattle.std.specs.List.{zip, flat_map, AllByRecursion}
use Rattle.list_lemmas.proofs.Pairs.{length-zip_even}
use Rattle.list_lemmas.proofs.Each.{AllByRecursion-weaker, AllByRecursion-at}
use Rattle.entry_ref.specs.Records.{Records}
use Rattle.tree_read.specs.Nodes.{count_of}
use Rattle.tree_read.specs.Trees.{pairs_below, last_key, IsNode}
use Rattle.tree_read.proofs.TreeLemmas.{IsNode-form, IsNode-count, last_key-append}
use Rattle.tree_read.specs.Slots.{slot_pairs, HaveChildren, IsInHand}
use Rattle.tree_read.proofs.ChildLemmas.{pairs-some}

-- a step over the children
added : (f : ℕ → List (ℕ × ℕ)) (vs : List ℕ) (i : ℕ) → i < length vs → length (flat_map f (take i vs)) + length (f (get_or vs i 0)) ≡ length (flat_map f (take (i + 1) vs))
added f vs i low =
    let one : flat_map f (get_or vs i 0 ∷ []) ≡ f (get_or vs i 0) = append-nil (f (get_or vs i 0)) in
    let whole : flat_map f (take (i + 1) vs) ≡ flat_map f (take i vs) ++ f (get_or vs i 0) =
    ap (flat_map f) (take_more vs i 0 low) ∙ flat_map-append f (take i vs) (get_or vs i 0 ∷ []) ∙ ap (λ ps. flat_map f (take i vs) ++ ps) one in
    sym (ap length whole ∙ length-append (flat_map f (take i vs)) (f (get_or vs i 0)))

module _ (m : Records) (keys values : List ℕ) where
  pub leaf_count : (level : ℕ) → level ≡ 0 → IsInHand m level keys values → length keys ≡ length (slot_pairs m level keys values)
  unfolding slot_pairs
  leaf_count zero e hand = sym (length-zip_even keys values hand.even)
  leaf_count (suc level) e hand = absurd (omega arith)

  module _ (i : ℕ) (low : i < length values) where
    pub child_at : (level : ℕ) → level ≢ 0 → IsInHand m level keys values → IsNode m 8 (level - 1) (get_or values i 0)
    unfolding HaveChildren
    child_at zero ne hand = absurd (ne refl)
    child_at (suc level) ne hand =
        let down : suc level - 1 ≡ level = omega arith in
        subst (λ l. IsNode m 8 l (get_or values i 0)) (sym down) (AllByRecursion-at (IsNode m 8 level) values i 0 low hand.children.1)

    pub child_size : (level : ℕ) → level ≢ 0 → IsInHand m level keys values → length (m (get_or values i 0)) ≡ 34
    child_size level ne hand = (IsNode-form m 8 (level - 1) (get_or values i 0) (child_at level ne hand)).size

    pub counted_more : (level count : ℕ) → level ≢ 0 → IsInHand m level keys values → count ≡ length (flat_map (pairs_below m (level - 1)) (take i values))
        → count + count_of (m (get_or values i 0)) ≡ length (flat_map (pairs_below m (level - 1)) (take (i + 1) values))
    counted_more level count ne hand is =
        let here = IsNode-count m 8 (level - 1) (get_or values i 0) (child_at level ne hand) in
        let step = added (pairs_below m (level - 1)) values i low in
        omega arith

    pub count_within : (level count : ℕ) → level ≢ 0 → IsInHand m level keys values → count ≡ length (flat_map (pairs_below m (level - 1)) (take i values))
        → count + count_of (m (get_or values i 0)) ≤ length (slot_pairs m level keys values)
    unfolding slot_pairs
    count_within zero count ne hand is = absurd (ne refl)
    count_within (suc level) count ne hand is =
        let here = IsNode-count m 8 (suc level - 1) (get_or values i 0) (child_at (suc level) ne hand) in
        let most = length-flat_map-take (pairs_below m (suc level - 1)) values i 0 low in
        let down : suc level - 1 ≡ level = omega arith in
        subst (λ l. count + count_of (m (get_or values i 0)) ≤ length (flat_map (pairs_below m l) values)) down (omega arith)

  pub counted_all : (level count : ℕ) → level ≢ 0 → count ≡ length (flat_map (pairs_below m (level - 1)) values) → count ≡ length (slot_pairs m level keys values)
  unfolding slot_pairs
  counted_all zero count ne is = absurd (ne refl)
  counted_all (suc level) count ne is =
      let down : suc level - 1 ≡ level = omega arith in
      subst (λ l. count ≡ length (flat_map (pairs_below m l) values)) down is

last_zip : (ks vs : List ℕ) (i : ℕ) → suc i ≡ length ks → length ks ≡ length vs → get_or ks i 0 ≡ last_key (zip ks vs)
last_zip [] vs i e same = absurd (omega arith)
last_zip (k ∷ ks) [] i e same = absurd (omega arith)
last_zip (k ∷ []) (v ∷ []) zero e same = refl
last_zip (k ∷ []) (v ∷ w ∷ vs) i e same = absurd (omega arith)
last_zip (k ∷ []) (v ∷ []) (suc i) e same = absurd (omega arith)
last_zip (k ∷ l ∷ ks) (v ∷ []) i e same = absurd (omega arith)
last_zip (k ∷ l ∷ ks) (v ∷ w ∷ vs) zero e same = absurd (omega arith)
last_zip (k ∷ l ∷ ks) (v ∷ w ∷ vs) (suc i) e same = last_zip (l ∷ ks) (w ∷ vs) i (omega arith) (omega arith)

last_child : (f : ℕ → List (ℕ × ℕ)) (vs : List ℕ) (i : ℕ) → suc i ≡ length vs → AllByRecursion (λ v. 0 < length (f v)) vs → get_or (map (λ v. last_key (f v)) vs) i 0 ≡ last_key (flat_map f vs)
last_child f [] i e all = absurd (omega arith)
last_child f (v ∷ []) zero e all = sym (ap last_key (append-nil (f v)))
last_child f (v ∷ []) (suc i) e all = absurd (omega arith)
last_child f (v ∷ w ∷ vs) zero e all = absurd (omega arith)
last_child f (v ∷ w ∷ vs) (suc i) e all =
    let some : 0 < length (flat_map f (w ∷ vs)) = (let here = all.1.0 in omega (arith, length-append (f w) (flat_map f vs))) in
    last_child f (w ∷ vs) i (omega arith) all.1 ∙ sym (last_key-append (f v) (flat_map f (w ∷ vs)) some)

module _ (m : Records) (keys values : List ℕ) where
  pub last_slot : (level i : ℕ) → suc i ≡ length keys → IsInHand m level keys values → get_or keys i 0 ≡ last_key (slot_pairs m level keys values)
  unfolding slot_pairs HaveChildren
  last_slot zero i e hand = last_zip keys values i e hand.even
  last_slot (suc level) i e hand =
      ap (λ ks. get_or ks i 0) hand.children.0
      ∙ last_child (pairs_below m level) values i (e ∙ hand.even) (AllByRecursion-weaker (IsNode m 8 level) (λ v. 0 < length (pairs_below m level v))
      (λ v is. pairs-some m 8 level v (omega arith) is) values hand.children.1)
