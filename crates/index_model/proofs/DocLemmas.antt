-- Ascending lists of documents as sets.
use Rattle.std.proofs.Common.{◌≡◌, ◌≢◌, ℕ, ◌+◌, ◌-◌, ◌<◌, ◌≤◌, Bool, true, false, ◌||◌, ◌&&◌, List, [], ◌∷◌, ◌++◌, length}
use Rattle.std.proofs.Common.{get_or, arith, refl, sym, ap, ◌∙◌, subst, eq-eqb, nat_eq, nat_lt, ltb-true, ltb-false, lt-ltb, le-ltb}
use Rattle.std.proofs.lemmas.Bool.{eqb-true, eqb-false, ne_eqb, or_from, or_left, or_right}
use Rattle.std.proofs.lemmas.List.Folds.{list_any-append}
use Rattle.std.proofs.lemmas.Map.Views.{any-filter_same}
use Rattle.std.proofs.lemmas.Map.Views.{Contains-from_any, list_any-from_Contains}
use Rattle.std.proofs.lemmas.Map.Keys.{IsStrictlyIncreasing-dedup, sorted_from_strictly_increasing}
use Rattle.std.proofs.lemmas.Cmp.{ranked, nat_eq_equiv}
use Rattle.std.proofs.lemmas.List.Filters.{dedup_is}
use Rattle.std.proofs.lemmas.List.Kept.{Contains-dedup_nat, Contains-from_dedup}
use Rattle.std.proofs.lemmas.List.Sorted.{list_any-IsPermutation}
use Rattle.std.proofs.Common.{Ordering, Less, Equal, Greater, nat_cmp, is_lt, is_ge}
use Rattle.std.specs.List.{AllByRecursion, filter, dedup, Contains}
use Rattle.std.specs.List.Retain.{IsFiltered, DiffersFromLast}
use Rattle.std.specs.List.Sorted.{IsStrictlySortedBy, IsSorted, IsPermutation, IsBinarySearchResult}
use Rattle.std.proofs.Common.{zero, suc, Result, Ok, Err}
use Rattle.std.specs.Result.{is_ok, MatchResult}
use Rattle.std.proofs.lemmas.List.Elements.{All-from_get_or}
use Rattle.std.proofs.lemmas.List.Folds.{list_any_at, list_any_none}
use Rattle.std.proofs.lemmas.List.{get_or_default}
use Rattle.std.proofs.lemmas.List.Sorted.{searched}
use Rattle.list_lemmas.proofs.Each.{AllByRecursion-append}
use Rattle.index_model.proofs.BitLemmas.{by_cases}
use Rattle.index_model.specs.Sets.{has, IsAscending, AreBelow, IsPlaceOf, Holds, HoldsBelow}

-- what is below all of a list is not in it
absent : (x : ℕ) (xs : List ℕ) → AllByRecursion (λ y. x < y) xs → has xs x ≡ false
absent x [] all = refl
absent x (y ∷ ys) all =
    let below : x < y = all.0 in
    or_from (nat_eq x y) (has ys x) (ne_eqb x y (λ e. omega (arith, e))) (absent x ys all.1)

above : (x y : ℕ) (ys : List ℕ) → x < y → AllByRecursion (λ z. y < z) ys → AllByRecursion (λ z. x < z) ys
above x y [] below all = tt
above x y (z ∷ zs) below all = let next : y < z = all.0 in (omega arith, above x y zs below all.1)

own : (x : ℕ) (xs : List ℕ) → has (x ∷ xs) x ≡ true
own x xs = or_left (nat_eq x x) (has xs x) (eq-eqb x x refl)

never : (x y : ℕ) (xs ys : List ℕ) → x < y → AllByRecursion (λ z. y < z) ys → has (x ∷ xs) x ≡ has (y ∷ ys) x → ⊥
never x y xs ys below all same =
    let lost : true ≡ false = sym (own x xs) ∙ same ∙ absent x (y ∷ ys) (below, above x y ys below all) in
    cc

first_same : (x y : ℕ) (xs ys : List ℕ) → AllByRecursion (λ z. x < z) xs → AllByRecursion (λ z. y < z) ys
    → ((doc : ℕ) → has (x ∷ xs) doc ≡ has (y ∷ ys) doc) → x ≡ y
first_same x y xs ys up_x up_y same =
    let not_below : x < y → ⊥ = λ lt. never x y xs ys lt up_y (same x) in
    let not_above : y < x → ⊥ = λ lt. never y x ys xs lt up_x (sym (same y)) in
    omega arith

tail_same : (x : ℕ) (xs ys : List ℕ) → AllByRecursion (λ z. x < z) xs → AllByRecursion (λ z. x < z) ys
    → ((doc : ℕ) → has (x ∷ xs) doc ≡ has (x ∷ ys) doc)
    → (doc : ℕ) → has xs doc ≡ has ys doc
tail_same x xs ys up_x up_y same doc =
    by_cases (nat_eq doc x)
    (λ is. subst (λ d. has xs d ≡ has ys d) (sym (eqb-true doc x is)) (absent x xs up_x ∙ sym (absent x ys up_y)))
    (λ apart. ap (λ b. b || has xs doc) (sym apart) ∙ same doc ∙ ap (λ b. b || has ys doc) apart)

same_lists : (x y : ℕ) (xs ys : List ℕ) → x ≡ y → xs ≡ ys → (x ∷ xs) ≡ (y ∷ ys)
same_lists x y xs ys first rest = cc

-- ascending lists with the same members are one list
pub same_ascending : (xs ys : List ℕ) → IsAscending xs → IsAscending ys → ((doc : ℕ) → has xs doc ≡ has ys doc) → xs ≡ ys
same_ascending [] [] up_x up_y same = refl
same_ascending [] (y ∷ ys) up_x up_y same = let lost : false ≡ true = same y ∙ own y ys in cc
same_ascending (x ∷ xs) [] up_x up_y same = let lost : true ≡ false = sym (own x xs) ∙ same x in cc
same_ascending (x ∷ xs) (y ∷ ys) up_x up_y same =
    let is : x ≡ y = first_same x y xs ys up_x.0 up_y.0 same in
    let up_z : AllByRecursion (λ z. x < z) ys = subst (λ v. AllByRecursion (λ z. v < z) ys) (sym is) up_y.0 in
    let alike : (doc : ℕ) → has (x ∷ xs) doc ≡ has (x ∷ ys) doc =
    subst (λ v. (doc : ℕ) → has (x ∷ xs) doc ≡ has (v ∷ ys) doc) (sym is) same in
    same_lists x y xs ys is (same_ascending xs ys up_x.1 up_y.1 (tail_same x xs ys up_x.0 up_z alike))

ascends_push : (xs : List ℕ) (n : ℕ) → IsAscending xs → AllByRecursion (λ y. y < n) xs → IsAscending (xs ++ n ∷ [])
ascends_push [] n up below = (tt, tt)
ascends_push (x ∷ xs) n up below =
    (AllByRecursion-append (λ y. x < y) xs (n ∷ []) up.0 (below.0, tt), ascends_push xs n up.1 below.1)

wider : (xs : List ℕ) (n m : ℕ) → n ≤ m → AllByRecursion (λ y. y < n) xs → AllByRecursion (λ y. y < m) xs
wider [] n m le all = tt
wider (x ∷ xs) n m le all = let lt : x < n = all.0 in (omega arith, wider xs n m le all.1)

below_next : (d n : ℕ) → d ≢ n → nat_lt d (n + 1) ≡ nat_lt d n
below_next d n apart =
    by_cases (nat_lt d n)
    (λ is. let lt : d < n = ltb-true d n is in lt-ltb d (n + 1) (omega arith) ∙ sym is)
    (λ is. let ge : n ≤ d = ltb-false d n is in le-ltb d (n + 1) (omega arith) ∙ sym is)

no_more : (b : Bool) → (b || (false || false)) ≡ b
no_more true = refl
no_more false = refl

-- the next document is in the set
pub more_in : (docs : List ℕ) (n : ℕ) (test : ℕ → Bool) → HoldsBelow docs n test → test n ≡ true
    → HoldsBelow (docs ++ n ∷ []) (n + 1) test
more_in docs n test holds is = record {
  ascends = ascends_push docs n holds.ascends holds.below;
  below = AllByRecursion-append (λ y. y < n + 1) docs (n ∷ []) (wider docs n (n + 1) (omega arith) holds.below) (omega arith, tt);
  exact = λ doc. list_any-append (nat_eq doc) docs (n ∷ []) ∙ at doc;
}
  where
    at : (doc : ℕ) → (has docs doc || (nat_eq doc n || false)) ≡ (nat_lt doc (n + 1) && test doc)
    at doc = by_cases (nat_eq doc n)
        (λ same. let e : doc ≡ n = eqb-true doc n same in
        or_right (has docs doc) (nat_eq doc n || false) (ap (λ b. b || false) same)
        ∙ sym (ap (λ b. b && test doc) (lt-ltb doc (n + 1) (omega (arith, e))) ∙ (ap test e ∙ is)))
        (λ apart. ap (λ b. has docs doc || (b || false)) apart ∙ no_more (has docs doc) ∙ holds.exact doc
        ∙ ap (λ b. b && test doc) (sym (below_next doc n (eqb-false doc n apart))))

-- none of the documents up to m is in the set
pub skip : (docs : List ℕ) (n m : ℕ) (test : ℕ → Bool) → n ≤ m → HoldsBelow docs n test
    → ((doc : ℕ) → n ≤ doc → doc < m → test doc ≡ false)
    → HoldsBelow docs m test
skip docs n m test le holds none = record {
  ascends = holds.ascends;
  below = wider docs n m le holds.below;
  exact = λ doc. holds.exact doc ∙ at doc;
}
  where
    at : (doc : ℕ) → (nat_lt doc n && test doc) ≡ (nat_lt doc m && test doc)
    at doc = by_cases (nat_lt doc n)
        (λ is. let lt : doc < n = ltb-true doc n is in ap (λ b. b && test doc) (is ∙ sym (lt-ltb doc m (omega arith))))
        (λ is. let ge : n ≤ doc = ltb-false doc n is in
        ap (λ b. b && test doc) is ∙ by_cases (nat_lt doc m)
        (λ in_m. sym (ap (λ b. b && test doc) in_m ∙ none doc ge (ltb-true doc m in_m)))
        (λ past. sym (ap (λ b. b && test doc) past)))

-- all documents are below n
pub whole : (docs : List ℕ) (n : ℕ) (test : ℕ → Bool) → HoldsBelow docs n test
    → ((doc : ℕ) → n ≤ doc → test doc ≡ false)
    → Holds docs test
whole docs n test holds none = record { ascends = holds.ascends; exact = λ doc. holds.exact doc ∙ at doc }
  where
    at : (doc : ℕ) → (nat_lt doc n && test doc) ≡ test doc
    at doc = by_cases (nat_lt doc n)
        (λ is. ap (λ b. b && test doc) is)
        (λ is. ap (λ b. b && test doc) is ∙ sym (none doc (ltb-false doc n is)))

pub pushed : (docs : List ℕ) (x n m : ℕ) (test : ℕ → Bool) → x ≡ n → m ≡ n + 1 → HoldsBelow docs n test → test n ≡ true
    → HoldsBelow (docs ++ x ∷ []) m test
pushed docs x n m test first next holds is =
    subst (λ k. HoldsBelow (docs ++ x ∷ []) k test) (sym next)
    (subst (λ y. HoldsBelow (docs ++ y ∷ []) (n + 1) test) (sym first) (more_in docs n test holds is))

and_swap : (a b : Bool) → (a && b) ≡ (b && a)
and_swap true true = refl
and_swap true false = refl
and_swap false true = refl
and_swap false false = refl

-- what a test keeps of a list
pub kept_has : (test : ℕ → Bool) (docs : List ℕ) (doc : ℕ) → has (filter test docs) doc ≡ (has docs doc && test doc)
kept_has test docs doc =
    any-filter_same (nat_eq doc) test (test doc) (λ k is. ap test (sym (eqb-true doc k is))) docs
    ∙ and_swap (test doc) (has docs doc)

-- ---- lists that were sorted
below_all : (x : ℕ) (xs : List ℕ) → AllByRecursion (λ y. nat_cmp x y ≡ Less) xs → AllByRecursion (λ y. x < y) xs
below_all x [] all = tt
below_all x (y ∷ xs) all = (ranked x y Less (sym all.0), below_all x xs all.1)

pub ascends_from_sorted : (xs : List ℕ) → IsStrictlySortedBy nat_cmp xs → IsAscending xs
unfolding IsStrictlySortedBy
ascends_from_sorted [] up = tt
ascends_from_sorted (x ∷ xs) up = (below_all x xs up.0, ascends_from_sorted xs up.1)

pub same_bool : (a b : Bool) → (a ≡ true → b ≡ true) → (b ≡ true → a ≡ true) → a ≡ b
same_bool true b to back = sym (to refl)
same_bool false true to back = back refl
same_bool false false to back = refl

dedup_has : (xs : List ℕ) (doc : ℕ) → has (dedup nat_eq xs) doc ≡ has xs doc
dedup_has xs doc =
    let there : (ks : List ℕ) → has ks doc ≡ true → Contains ks doc = Contains-from_any eqb-true doc in
    let test : (ks : List ℕ) → Contains ks doc → has ks doc ≡ true = list_any-from_Contains nat_eq_equiv doc in
    same_bool _ _
    (λ is. test xs (Contains-from_dedup nat_eq xs doc (there (dedup nat_eq xs) is)))
    (λ is. test (dedup nat_eq xs) (Contains-dedup_nat xs doc (there xs is)))

-- a list that was sorted, without repeats
pub sorted_holds : (xs ys zs : List ℕ) → IsPermutation xs ys → IsSorted nat_cmp ys → IsFiltered (DiffersFromLast nat_eq) [] ys zs
    → Holds zs (has xs)
sorted_holds xs ys zs moved sorted filtered =
    subst (λ list. Holds list (has xs)) (sym (dedup_is nat_eq ys zs filtered)) (record {
      ascends = ascends_from_sorted (dedup nat_eq ys)
          (sorted_from_strictly_increasing (dedup nat_eq ys) (IsStrictlyIncreasing-dedup ys sorted));
      exact = λ doc. dedup_has ys doc ∙ sym (list_any-IsPermutation (nat_eq doc) xs ys moved);
    })

-- ---- a search in ascending documents
at_each : (P : ℕ → Type 0) (xs : List ℕ) (k : ℕ) → AllByRecursion P xs → k < length xs → P (get_or xs k 0)
at_each P [] k all lt = absurd (omega (arith, lt))
at_each P (x ∷ xs) zero all lt = all.0
at_each P (x ∷ xs) (suc k) all lt = at_each P xs k all.1 (omega (arith, lt))

rising : (xs : List ℕ) → IsAscending xs → (i j : ℕ) → i ≤ j → j < length xs → get_or xs i 0 ≤ get_or xs j 0
rising [] up i j le lt = absurd (omega (arith, lt))
rising (x ∷ xs) up zero zero le lt = omega arith
rising (x ∷ xs) up zero (suc j) le lt =
    let above : x < get_or xs j 0 = at_each (λ y. x < y) xs j up.0 (omega (arith, lt)) in omega (arith, above)
rising (x ∷ xs) up (suc i) zero le lt = absurd (omega (arith, le))
rising (x ∷ xs) up (suc i) (suc j) le lt = rising xs up.1 i j (omega (arith, le)) (omega (arith, lt))

apart : (xs : List ℕ) (x i k : ℕ) → ((k : ℕ) → k < i → get_or xs k 0 < x)
    → ((k : ℕ) → i ≤ k → k < length xs → x < get_or xs k 0) → k < length xs
    → nat_eq x (get_or xs k 0) ≡ false
apart xs x i k low high lt = by_cases (nat_lt k i)
    (λ is. let one : get_or xs k 0 < x = low k (ltb-true k i is) in ne_eqb x (get_or xs k 0) (λ e. omega (arith, e, one)))
    (λ is. let one : x < get_or xs k 0 = high k (ltb-false k i is) lt in ne_eqb x (get_or xs k 0) (λ e. omega (arith, e, one)))

told : (xs : List ℕ) (x : ℕ) (r : Result ℕ ℕ)
    → MatchResult r (λ i. (i < length xs) × (get_or xs i 0 ≡ x))
    (λ i. (i ≤ length xs) × ((k : ℕ) → k < i → get_or xs k 0 < x) × ((k : ℕ) → i ≤ k → k < length xs → x < get_or xs k 0))
    → is_ok r ≡ has xs x
told xs x (Ok i) here = sym (list_any_at (nat_eq x) xs i 0 here.0 (eq-eqb x (get_or xs i 0) (sym here.1)))
told xs x (Err i) here =
    sym (list_any_none (nat_eq x) xs (All-from_get_or (λ y. nat_eq x y ≡ false) xs 0 (λ k lt. apart xs x i k here.1 here.2 lt)))

pub search_has : (xs : List ℕ) (x : ℕ) (r : Result ℕ ℕ) → IsAscending xs → IsBinarySearchResult (λ y. nat_cmp y x) xs r
    → is_ok r ≡ has xs x
search_has xs x r up found = told xs x r (searched xs x r found (rising xs up))

-- ---- places in ascending documents
-- all documents but the one at a place are others
others_apart : (xs : List ℕ) (x i k : ℕ) → IsAscending xs → IsPlaceOf xs x i → (i < length xs → get_or xs i 0 ≢ x) → k < length xs
    → nat_eq x (get_or xs k 0) ≡ false
others_apart xs x i k up place other lt = by_cases (nat_lt k i)
    (λ is. let one : get_or xs k 0 < x = place.before.below k (ltb-true k i is) in ne_eqb x (get_or xs k 0) (λ e. omega (arith, e, one)))
    (λ is.
    let from : i ≤ k = ltb-false k i is in
    let ne : get_or xs i 0 ≢ x = other (omega (arith, lt)) in
    let first : x ≤ get_or xs i 0 = place.after i (omega arith) (omega (arith, lt)) in
    let next : get_or xs i 0 ≤ get_or xs k 0 = rising xs up i k from lt in
    ne_eqb x (get_or xs k 0) (λ e. absurd (ne (omega (arith, e, first, next)))))

not_there : (xs : List ℕ) (x i : ℕ) → IsAscending xs → IsPlaceOf xs x i → (i < length xs → get_or xs i 0 ≢ x) → has xs x ≡ false
not_there xs x i up place other =
    list_any_none (nat_eq x) xs (All-from_get_or (λ y. nat_eq x y ≡ false) xs 0 (λ k lt. others_apart xs x i k up place other lt))

-- a document is in a list where it is at its place
pub at_place : (xs : List ℕ) (x i : ℕ) → IsAscending xs → IsPlaceOf xs x i → i < length xs → nat_eq (get_or xs i 0) x ≡ has xs x
at_place xs x i up place lt = by_cases (nat_eq (get_or xs i 0) x)
    (λ is. is ∙ sym (list_any_at (nat_eq x) xs i 0 lt (eq-eqb x (get_or xs i 0) (sym (eqb-true (get_or xs i 0) x is)))))
    (λ is. is ∙ sym (not_there xs x i up place (λ _. eqb-false (get_or xs i 0) x is)))

pub past_place : (xs : List ℕ) (x i : ℕ) → IsAscending xs → IsPlaceOf xs x i → length xs ≤ i → has xs x ≡ false
past_place xs x i up place le = not_there xs x i up place (λ lt. absurd (omega (arith, lt, le)))

pub read_place : (xs : List ℕ) (i y : ℕ) → i < length xs → y ≡ get_or xs i y → y ≡ get_or xs i 0
read_place xs i y lt is = is ∙ get_or_default xs i y 0 lt

pub not_less : (a b : ℕ) (o : Ordering) → o ≡ nat_cmp a b → is_lt o ≡ false → b ≤ a
not_less a b Less is off = cc
not_less a b Equal is off = let same : a ≡ b = ranked a b Equal is in omega (arith, same)
not_less a b Greater is off = let gt : b < a = ranked a b Greater is in omega (arith, gt)

pub not_ge : (a b : ℕ) (o : Ordering) → o ≡ nat_cmp a b → is_ge o ≡ false → a < b
not_ge a b Less is off = ranked a b Less is
not_ge a b Equal is off = cc
not_ge a b Greater is off = cc

-- what is up to a document that is below is below
pub below_place : (xs : List ℕ) (x i : ℕ) → IsAscending xs → i ≤ length xs → 0 < i → get_or xs (i - 1) 0 < x → AreBelow xs x i
below_place xs x i up within some below = record {
  within = within;
  below = λ k lt.
      let next : get_or xs k 0 ≤ get_or xs (i - 1) 0 = rising xs up k (i - 1) (omega (arith, lt)) (omega (arith, some, within)) in
      omega (arith, next, below);
}

-- a walk ends at the first that is not below
pub stop_place : (xs : List ℕ) (x i : ℕ) → IsAscending xs → AreBelow xs x i → x ≤ get_or xs i 0 → IsPlaceOf xs x i
stop_place xs x i up before first = record {
  before = before;
  after = λ k from lt.
      let next : get_or xs i 0 ≤ get_or xs k 0 = rising xs up i k from lt in omega (arith, next, first);
}

-- documents of which each is below the next
pub adjacent : (xs : List ℕ) → ((k : ℕ) → suc k < length xs → get_or xs k 0 < get_or xs (suc k) 0) → IsAscending xs
adjacent [] steps = tt
adjacent (x ∷ []) steps = (tt, tt)
adjacent (x ∷ y ∷ ys) steps =
    let rest : IsAscending (y ∷ ys) = adjacent (y ∷ ys) (λ k low. steps (suc k) (omega arith)) in
    let first : x < y = steps 0 (omega arith) in
    ((first, above x y ys first rest.0), rest)
