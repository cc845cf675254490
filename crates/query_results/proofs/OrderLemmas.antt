-- Keys in order.
use Rattle.std.proofs.Common.{◌≡◌, Bool, true, false, ◌||◌, List, [], ◌∷◌, map, refl, sym, ap, subst, ◌∙◌, true≢false, Ordering, Less, Equal, Greater}
use Rattle.std.proofs.lemmas.List.Kept.{Contains-dedup, Contains-from_dedup, IsStrictlySortedBy-dedup}
use Rattle.std.proofs.lemmas.List.Sorted.{list_any-IsPermutation}
use Rattle.std.proofs.lemmas.Map.Lookups.{btree_set_from_contains}
use Rattle.std.proofs.lemmas.Map.Views.{Contains-from_any, list_any-from_Contains, tells_apart}
use Rattle.std.specs.BTreeSet.{insert_key}
use Rattle.std.specs.Cmp.{both_ways, eq_by_cmp_equiv, IsEquivalence, IsTotalOrder}
use Rattle.std.specs.List.{dedup, list_any, AllByRecursion}
use Rattle.std.specs.List.Sorted.{IsPermutation, IsSorted, IsStrictlySortedBy}
use Rattle.std.specs.Ordering.{eq_by_cmp, is_eq, match_ordering, ordering_reverse, ordering_then}
use Rattle.result_model.specs.Orders.{in_order, with_keys}

-- ---- a key put in its place

either_first : (a b c : Bool) → (a || (b || c)) ≡ (b || (a || c))
either_first true true c = refl
either_first true false c = refl
either_first false b c = refl

either_twice : (a b c : Bool) → ((a || b) || c) ≡ (b || (a || c))
either_twice true true c = refl
either_twice true false c = refl
either_twice false b c = refl

either_same : (a c : Bool) → (a || c) ≡ (a || (a || c))
either_same true c = refl
either_same false c = refl

either_none : (a : Bool) → a ≡ (a || false)
either_none true = refl
either_none false = refl

module _ {K : Type 0} {R : K → K → Ordering} (o : IsTotalOrder R) where
  above_all : (k x : K) (ks : List K) → R k x ≡ Less → AllByRecursion (λ y. R x y ≡ Less) ks → AllByRecursion (λ y. R k y ≡ Less) ks
  above_all k x [] less all = tt
  above_all k x (y ∷ ks) less all = (o.trans k x y less all.0, above_all k x ks less all.1)

  below_inserted : (x k : K) (ks : List K) → AllByRecursion (λ y. R x y ≡ Less) ks → R x k ≡ Less → AllByRecursion (λ y. R x y ≡ Less) (insert_key R ks k)
  below_inserted x k [] all less = (less, tt)
  below_inserted x k (y ∷ ks) all less =
      elim (R k y) as (λ r. AllByRecursion (λ z. R x z ≡ Less) (match_ordering r (k ∷ y ∷ ks) (y ∷ ks) (y ∷ insert_key R ks k)))
      [ Less ↦ (less, all) | Equal ↦ all | Greater ↦ (all.0, below_inserted x k ks all.1 less) ]

  sorted_inserted : (ks : List K) (k : K) → IsStrictlySortedBy R ks → IsStrictlySortedBy R (insert_key R ks k)
  unfolding IsStrictlySortedBy
  sorted_inserted [] k sorted = (tt, tt)
  sorted_inserted (x ∷ ks) k sorted =
      elim (R k x) as (λ r. R k x ≡ r → IsStrictlySortedBy R (match_ordering r (k ∷ x ∷ ks) (x ∷ ks) (x ∷ insert_key R ks k))) [
        | Less ↦ λ is. ((is, above_all k x ks is sorted.0), sorted)
        | Equal ↦ λ is. sorted
        | Greater ↦ λ is. (below_inserted x k ks sorted.0 (o.antisymm x k ∙ ap ordering_reverse is), sorted_inserted ks k sorted.1)
      ] refl

  same_place : (q k x : K) → R k x ≡ Equal → is_eq (R q x) ≡ is_eq (R q k)
  same_place q k x is = ap is_eq (o.antisymm q x ∙ ap ordering_reverse (sym (o.congr k x q is)) ∙ sym (o.antisymm q k))

  has_inserted : (q : K) (ks : List K) (k : K) → list_any (eq_by_cmp R q) (insert_key R ks k) ≡ (eq_by_cmp R q k || list_any (eq_by_cmp R q) ks)
  has_inserted q [] k = refl
  has_inserted q (x ∷ ks) k =
      let rest = list_any (eq_by_cmp R q) ks in
      elim (R k x) as (λ r. R k x ≡ r → list_any (eq_by_cmp R q) (match_ordering r (k ∷ x ∷ ks) (x ∷ ks) (x ∷ insert_key R ks k))
      ≡ (eq_by_cmp R q k || (eq_by_cmp R q x || rest))) [
        | Less ↦ λ is. refl
        | Equal ↦ λ is. ap (λ b. b || rest) (same_place q k x is) ∙ either_same (eq_by_cmp R q k) rest ∙ ap (λ b. eq_by_cmp R q k || (b || rest)) (sym (same_place q k x is))
        | Greater ↦ λ is. ap (λ b. eq_by_cmp R q x || b) (has_inserted q ks k) ∙ either_first (eq_by_cmp R q x) (eq_by_cmp R q k) rest
      ] refl

  -- ---- keys put in their places

  sorted_with : (keys ks : List K) → IsStrictlySortedBy R keys → IsStrictlySortedBy R (with_keys R keys ks)
  sorted_with keys [] sorted = sorted
  sorted_with keys (k ∷ ks) sorted = sorted_with (insert_key R keys k) ks (sorted_inserted keys k sorted)

  has_with : (q : K) (keys ks : List K) → list_any (eq_by_cmp R q) (with_keys R keys ks) ≡ (list_any (eq_by_cmp R q) keys || list_any (eq_by_cmp R q) ks)
  has_with q keys [] = either_none (list_any (eq_by_cmp R q) keys)
  has_with q keys (k ∷ ks) =
      has_with q (insert_key R keys k) ks
      ∙ ap (λ b. b || list_any (eq_by_cmp R q) ks) (has_inserted q keys k)
      ∙ either_twice (eq_by_cmp R q k) (list_any (eq_by_cmp R q) keys) (list_any (eq_by_cmp R q) ks)

  sorted_nothing : IsStrictlySortedBy R []
  unfolding IsStrictlySortedBy
  sorted_nothing = tt

  pub sorted_in_order : (ks : List K) → IsStrictlySortedBy R (in_order R ks)
  sorted_in_order ks = sorted_with [] ks sorted_nothing

  pub has_in_order : (q : K) (ks : List K) → list_any (eq_by_cmp R q) (in_order R ks) ≡ list_any (eq_by_cmp R q) ks
  has_in_order q ks = has_with q [] ks

  module _ (exact : (x y : K) → R x y ≡ Equal → x ≡ y) where
    -- keys that strictly ascend are those of any list with the same keys, in order
    pub is_in_order : (xs ks : List K) → IsStrictlySortedBy R xs → ((q : K) → list_any (eq_by_cmp R q) xs ≡ list_any (eq_by_cmp R q) ks) → xs ≡ in_order R ks
    is_in_order xs ks sorted same =
        btree_set_from_contains o (record { keys = xs }) (record { keys = in_order R ks }) sorted (sorted_in_order ks) (λ q. same q ∙ sym (has_in_order q ks)) exact

    module _ {E : K → K → Bool} (ties : (x y : K) → E x y ≡ eq_by_cmp R x y) where
      alike : (x y : K) → E x y ≡ true → x ≡ y
      alike x y is = tells_apart exact x y (sym (ties x y) ∙ is)

      pub has_deduped : (q : K) (xs : List K) → list_any (eq_by_cmp R q) (dedup E xs) ≡ list_any (eq_by_cmp R q) xs
      has_deduped q xs =
          let equiv = eq_by_cmp_equiv o in
          let same_laws = subst {A = K → K → Bool} IsEquivalence (λ i x y. sym (ties x y) i) equiv in
          both_ways _ _
          (λ is. list_any-from_Contains equiv q xs (Contains-from_dedup E xs q (Contains-from_any (tells_apart exact) q (dedup E xs) is)))
          (λ is. list_any-from_Contains equiv q (dedup E xs) (Contains-dedup same_laws alike xs q (Contains-from_any (tells_apart exact) q xs is)))

      -- a sort and the removal of equal neighbours put keys in order
      pub sort_is : (ks ys : List K) → IsPermutation ks ys → IsSorted R ys → dedup E ys ≡ in_order R ks
      sort_is ks ys moved sorted =
          is_in_order (dedup E ys) ks (IsStrictlySortedBy-dedup o ties ys sorted)
          (λ q. has_deduped q ys ∙ sym (list_any-IsPermutation (eq_by_cmp R q) ks ys moved))

-- ---- keys in another form

module _ {K J : Type 0} (R : K → K → Ordering) (S : J → J → Ordering) (f : K → J) (keeps : (x y : K) → S (f x) (f y) ≡ R x y) where
  taken : (r : Ordering) (a b c : List K) → match_ordering r (map f a) (map f b) (map f c) ≡ map f (match_ordering r a b c)
  taken Less a b c = refl
  taken Equal a b c = refl
  taken Greater a b c = refl

  inserted_mapped : (ks : List K) (k : K) → insert_key S (map f ks) (f k) ≡ map f (insert_key R ks k)
  inserted_mapped [] k = refl
  inserted_mapped (x ∷ ks) k =
      ap (λ r. match_ordering r (f k ∷ f x ∷ map f ks) (f x ∷ map f ks) (f x ∷ insert_key S (map f ks) (f k))) (keeps k x)
      ∙ ap (λ zs. match_ordering (R k x) (f k ∷ f x ∷ map f ks) (f x ∷ map f ks) (f x ∷ zs)) (inserted_mapped ks k)
      ∙ taken (R k x) (k ∷ x ∷ ks) (x ∷ ks) (x ∷ insert_key R ks k)

  with_mapped : (keys ks : List K) → with_keys S (map f keys) (map f ks) ≡ map f (with_keys R keys ks)
  with_mapped keys [] = refl
  with_mapped keys (k ∷ ks) = ap (λ js. with_keys S js (map f ks)) (inserted_mapped keys k) ∙ with_mapped (insert_key R keys k) ks

  pub in_order_mapped : (ks : List K) → in_order S (map f ks) ≡ map f (in_order R ks)
  in_order_mapped ks = with_mapped [] ks

-- ---- an order by two parts

pub both_equal : (p c : Ordering) → ordering_then p c ≡ Equal → (p ≡ Equal) × (c ≡ Equal)
both_equal Less c is = absurd (true≢false (sym (ap is_eq is)))
both_equal Equal c is = (refl, is)
both_equal Greater c is = absurd (true≢false (sym (ap is_eq is)))
