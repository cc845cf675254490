-- Entries in the order of their keys, with one more, with one less, and filtered.
use Rattle.std.proofs.Common.{◌≡◌, ◌≢◌, ℕ, Bool, true, false, cond, List, [], ◌∷◌, ◌++◌, map, Option, Some}
use Rattle.std.proofs.Common.{None, Ordering, Less, Equal, Greater, nat_cmp, is_eq, refl, sym, ap, ◌∙◌, subst}
use Rattle.std.proofs.lemmas.Cmp.{eq_by_cmp_equiv, alike_right, tied_itself}
use Rattle.std.proofs.lemmas.Map.{lookup-remove_entry}
use Rattle.std.proofs.lemmas.Map.Keys.{IsDistinct-from_sorted}
use Rattle.std.proofs.lemmas.Map.Lookups.{exact_unsigned}
use Rattle.std.specs.BTreeMap.{insert_entry, is_at}
use Rattle.std.specs.Cmp.{IsTotalOrder, Equal-is}
use Rattle.std.specs.List.{AllByRecursion, filter}
use Rattle.std.specs.List.Sorted.{IsStrictlySortedBy}
use Rattle.std.specs.Map.{keys_of, lookup, remove_entry}
use Rattle.std.specs.Ordering.{match_ordering, ordering_reverse}

pub all_map-append : {A K : Type 0} (f : A → K) (P : K → Type 0) (xs ys : List A)
    → AllByRecursion P (map f xs) → AllByRecursion P (map f ys) → AllByRecursion P (map f (xs ++ ys))
all_map-append f P [] ys front back = back
all_map-append f P (x ∷ xs) ys front back = (front.0, all_map-append f P xs ys front.1 back)

pub all_map-filter : {A K : Type 0} (f : A → K) (P : K → Type 0) (p : A → Bool) (xs : List A)
    → AllByRecursion P (map f xs) → AllByRecursion P (map f (filter p xs))
all_map-filter f P p [] all = tt
all_map-filter f P p (x ∷ xs) all =
    elim (p x) as (λ b. AllByRecursion P (map f (cond b (x ∷ filter p xs) (filter p xs))))
    [ true ↦ (all.0, all_map-filter f P p xs all.1) | false ↦ all_map-filter f P p xs all.1 ]

pub sorted_map-filter : {A K : Type 0} (R : K → K → Ordering) (f : A → K) (p : A → Bool) (xs : List A)
    → IsStrictlySortedBy R (map f xs) → IsStrictlySortedBy R (map f (filter p xs))
unfolding IsStrictlySortedBy
sorted_map-filter R f p [] up = tt
sorted_map-filter R f p (x ∷ xs) up =
    elim (p x) as (λ b. IsStrictlySortedBy R (map f (cond b (x ∷ filter p xs) (filter p xs)))) [
      | true ↦ (all_map-filter f (λ y. R (f x) y ≡ Less) p xs up.0, sorted_map-filter R f p xs up.1)
      | false ↦ sorted_map-filter R f p xs up.1
    ]

found_first : {X : Type 0} (Q : X → Type 0) (b : Bool) (x found : X) (rest : Option X)
    → cond b (Some x) rest ≡ Some found
    → Q x → (rest ≡ Some found → Q found) → Q found
found_first Q true x found rest is here later = let same : x ≡ found = cc in subst Q same here
found_first Q false x found rest is here later = later is

-- what holds of each value holds of the one that is found
pub all-lookup : {K X : Type 0} (Q : X → Type 0) (test : K → Bool) (es : List (K × X))
    → AllByRecursion (λ e. Q e.1) es
    → (found : X) → lookup test es ≡ Some found → Q found
all-lookup Q test [] all found is = cc
all-lookup Q test (e ∷ es) all found is =
    found_first Q (test e.0) e.1 found (lookup test es) is all.0 (all-lookup Q test es all.1 found)

-- what is above b is above a, where b is
pub below_all : {K : Type 0} {R : K → K → Ordering} → IsTotalOrder R → (a b : K) → R a b ≡ Less → (ks : List K)
    → AllByRecursion (λ y. R b y ≡ Less) ks → AllByRecursion (λ y. R a y ≡ Less) ks
below_all o a b below [] all = tt
below_all o a b below (k ∷ ks) all = (o.trans a b k below all.0, below_all o a b below ks all.1)

module _ {K X : Type 0} {R : K → K → Ordering} (o : IsTotalOrder R) where
  pub all_keys-insert : (P : K → Type 0) (es : List (K × X)) (k : K) (v : X)
      → AllByRecursion P (keys_of es) → P k → AllByRecursion P (keys_of (insert_entry R es k v))
  all_keys-insert P [] k v all here = (here, tt)
  all_keys-insert P (e ∷ es) k v all here =
      elim (R k e.0) as (λ r. AllByRecursion P (keys_of (match_ordering r ((k, v) ∷ e ∷ es) ((e.0, v) ∷ es) (e ∷ insert_entry R es k v))))
      [ Less ↦ (here, all) | Equal ↦ all | Greater ↦ (all.0, all_keys-insert P es k v all.1 here) ]

  pub all_values-insert : (Q : X → Type 0) (es : List (K × X)) (k : K) (v : X)
      → AllByRecursion (λ e. Q e.1) es → Q v → AllByRecursion (λ e. Q e.1) (insert_entry R es k v)
  all_values-insert Q [] k v all here = (here, tt)
  all_values-insert Q (e ∷ es) k v all here =
      elim (R k e.0) as (λ r. AllByRecursion (λ x. Q x.1) (match_ordering r ((k, v) ∷ e ∷ es) ((e.0, v) ∷ es) (e ∷ insert_entry R es k v)))
      [ Less ↦ (here, all) | Equal ↦ (here, all.1) | Greater ↦ (all.0, all_values-insert Q es k v all.1 here) ]

  sorted_at : (r : Ordering) (e : K × X) (es : List (K × X)) (k : K) (v : X) → R k e.0 ≡ r
      → IsStrictlySortedBy R (keys_of (e ∷ es)) → IsStrictlySortedBy R (keys_of (insert_entry R es k v))
      → IsStrictlySortedBy R (keys_of (match_ordering r ((k, v) ∷ e ∷ es) ((e.0, v) ∷ es) (e ∷ insert_entry R es k v)))
  unfolding IsStrictlySortedBy
  sorted_at Less e es k v is up rest = ((is, below_all o k e.0 is (keys_of es) up.0), up)
  sorted_at Equal e es k v is up rest = up
  sorted_at Greater e es k v is up rest =
      (all_keys-insert (λ y. R e.0 y ≡ Less) es k v up.0 (o.antisymm e.0 k ∙ ap ordering_reverse is), rest)

  pub sorted-insert : (es : List (K × X)) (k : K) (v : X)
      → IsStrictlySortedBy R (keys_of es) → IsStrictlySortedBy R (keys_of (insert_entry R es k v))
  unfolding IsStrictlySortedBy
  sorted-insert [] k v up = (tt, tt)
  sorted-insert (e ∷ es) k v up = sorted_at (R k e.0) e es k v refl up (sorted-insert es k v up.1)

  found_here : (r : Ordering) (e : K × X) (es : List (K × X)) (k : K) (v : X) → R k e.0 ≡ r
      → lookup (is_at (R k)) (insert_entry R es k v) ≡ Some v
      → lookup (is_at (R k)) (match_ordering r ((k, v) ∷ e ∷ es) ((e.0, v) ∷ es) (e ∷ insert_entry R es k v)) ≡ Some v
  found_here Less e es k v is rest =
      ap (λ s. cond (is_eq s) (Some v) (lookup (is_at (R k)) (e ∷ es))) (tied_itself o k)
  found_here Equal e es k v is rest = ap (λ s. cond (is_eq s) (Some v) (lookup (is_at (R k)) es)) is
  found_here Greater e es k v is rest =
      ap (λ s. cond (is_eq s) (Some e.1) (lookup (is_at (R k)) (insert_entry R es k v))) is ∙ rest

  pub lookup-insert_here : (es : List (K × X)) (k : K) (v : X)
      → lookup (is_at (R k)) (insert_entry R es k v) ≡ Some v
  lookup-insert_here [] k v = ap (λ s. cond (is_eq s) (Some v) None) (tied_itself o k)
  lookup-insert_here (e ∷ es) k v = found_here (R k e.0) e es k v refl (lookup-insert_here es k v)

  found_other : (r : Ordering) (e : K × X) (es : List (K × X)) (k : K) (v : X) (q : K) → is_eq (R q k) ≡ false
      → R k e.0 ≡ r
      → lookup (is_at (R q)) (insert_entry R es k v) ≡ lookup (is_at (R q)) es
      → lookup (is_at (R q)) (match_ordering r ((k, v) ∷ e ∷ es) ((e.0, v) ∷ es) (e ∷ insert_entry R es k v)) ≡ lookup (is_at (R q)) (e ∷ es)
  found_other Less e es k v q apart is rest = ap (λ b. cond b (Some v) (lookup (is_at (R q)) (e ∷ es))) apart
  found_other Equal e es k v q apart is rest =
      let unlike : is_eq (R q e.0) ≡ false = ap is_eq (sym (alike_right o k e.0 q is)) ∙ apart in
      ap (λ b. cond b (Some v) (lookup (is_at (R q)) es)) unlike
      ∙ sym (ap (λ b. cond b (Some e.1) (lookup (is_at (R q)) es)) unlike)
  found_other Greater e es k v q apart is rest = ap (cond (is_eq (R q e.0)) (Some e.1)) rest

  pub lookup-insert_other : (es : List (K × X)) (k : K) (v : X) (q : K) → is_eq (R q k) ≡ false
      → lookup (is_at (R q)) (insert_entry R es k v) ≡ lookup (is_at (R q)) es
  lookup-insert_other [] k v q apart = ap (λ b. cond b (Some v) None) apart
  lookup-insert_other (e ∷ es) k v q apart =
      found_other (R k e.0) e es k v q apart refl (lookup-insert_other es k v q apart)

  pub lookup-remove : (es : List (K × X)) (k q : K) → IsStrictlySortedBy R (keys_of es)
      → lookup (is_at (R q)) (remove_entry (is_at (R k)) es) ≡ cond (is_eq (R k q)) None (lookup (is_at (R q)) es)
  lookup-remove es k q up =
      lookup-remove_entry (eq_by_cmp_equiv o) (is_at (R k))
      (λ x y same. ap is_eq (o.congr k x y ((Equal-is (R k x)).0 same))) q es (IsDistinct-from_sorted R (keys_of es) up)

pub all_keys-remove : {K X : Type 0} (P : K → Type 0) (test : K → Bool) (es : List (K × X))
    → AllByRecursion P (keys_of es) → AllByRecursion P (keys_of (remove_entry test es))
all_keys-remove P test [] all = tt
all_keys-remove P test (e ∷ es) all =
    elim (test e.0) as (λ b. AllByRecursion P (keys_of (cond b es (e ∷ remove_entry test es))))
    [ true ↦ all.1 | false ↦ (all.0, all_keys-remove P test es all.1) ]

pub all-remove : {K X : Type 0} (P : K × X → Type 0) (test : K → Bool) (es : List (K × X))
    → AllByRecursion P es → AllByRecursion P (remove_entry test es)
all-remove P test [] all = tt
all-remove P test (e ∷ es) all =
    elim (test e.0) as (λ b. AllByRecursion P (cond b es (e ∷ remove_entry test es)))
    [ true ↦ all.1 | false ↦ (all.0, all-remove P test es all.1) ]

pub sorted-remove : {K X : Type 0} (R : K → K → Ordering) (test : K → Bool) (es : List (K × X))
    → IsStrictlySortedBy R (keys_of es) → IsStrictlySortedBy R (keys_of (remove_entry test es))
unfolding IsStrictlySortedBy
sorted-remove R test [] up = tt
sorted-remove R test (e ∷ es) up =
    elim (test e.0) as (λ b. IsStrictlySortedBy R (keys_of (cond b es (e ∷ remove_entry test es))))
    [ true ↦ up.1 | false ↦ (all_keys-remove (λ y. R e.0 y ≡ Less) test es up.0, sorted-remove R test es up.1) ]

-- two numbers apart are not told equal
pub nat_cmp_apart : (a b : ℕ) → a ≢ b → is_eq (nat_cmp a b) ≡ false
nat_cmp_apart a b apart = told (is_eq (nat_cmp a b)) refl
  where
    told : (r : Bool) → is_eq (nat_cmp a b) ≡ r → r ≡ false
    told true is = absurd (apart (exact_unsigned a b ((Equal-is (nat_cmp a b)).0 is)))
    told false is = refl
