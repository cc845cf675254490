-- Distinct entries that a make can take are no more than the shelves have to spare.
use Rattle.std.proofs.Common.{◌≡◌, ◌≢◌, ℕ, zero, suc, ◌+◌, ◌-◌, ◌<◌, ◌≤◌, Bool, true, false, not, ◌&&◌, cond, eqb, List, [], ◌∷◌, length, get_or, refl, sym, ap, subst, ◌∙◌, arith, inl, inr}
use Rattle.std.specs.List.{IsDistinct, AllByRecursion, slice_get, sum_by, count_by}
use Rattle.std.proofs.lemmas.List.Sums.{sum_by-cons}
use Rattle.std.proofs.lemmas.Bool.{cases_lt, and_parts, eqb-true, eqb-false, ne_eqb, eq-eqb}
use Rattle.list_lemmas.specs.Counting.{one_if}
use Rattle.entry_ref.specs.References.{buffer_of, offset_of}
use Rattle.entry_ref.proofs.Bits.{same-ref}
use Rattle.entry_ledger.specs.declared.state.State.{State}
use Rattle.entry_ledger.specs.States.{ShelfView, empty_shelf, is_free_state, spare_of}
use Rattle.entry_ledger.specs.Shelves.{shelf_at, spare_in, spare_of_width}
use Rattle.entry_ledger.specs.Entries.{is_open_entry}

abbrev pub sum_below : (ℕ → ℕ) → ℕ → ℕ
sum_below f zero = 0
sum_below f (suc n) = sum_below f n + f n

pub sum_same : (f g : ℕ → ℕ) (n : ℕ) → ((q : ℕ) → q < n → f q ≡ g q) → sum_below f n ≡ sum_below g n
sum_same f g zero same = refl
sum_same f g (suc n) same = omega (arith, sum_same f g n (λ q below. same q (omega (arith, below))), same n (omega arith))

-- one number is one less
sum_less : (f g : ℕ → ℕ) (n b : ℕ) → b < n → f b + 1 ≡ g b → ((a : ℕ) → a ≢ b → f a ≡ g a) → sum_below f n + 1 ≡ sum_below g n
sum_less f g zero b below less same = absurd (omega (arith, below))
sum_less f g (suc n) b below less same = elim (cases_lt b n) [
  | inl k ↦ omega (arith, sum_less f g n b k less same, same n (λ e. omega (arith, e, k)))
  | inr k ↦
      (let last : b ≡ n = omega (arith, below, k) in
      let here : f n + 1 ≡ g n = subst (λ m. f m + 1 ≡ g m) last less in
      omega (arith, here, sum_same f g n (λ q low. same q (λ e. omega (arith, e, low, last)))))
]

pub sum_shift : (f : ℕ → ℕ) (n : ℕ) → sum_below f (suc n) ≡ f 0 + sum_below (λ i. f (suc i)) n
sum_shift f zero = omega arith
sum_shift f (suc n) = omega (arith, sum_shift f n)

sum_ones : (n : ℕ) → sum_below (λ p. 1) n ≡ n
sum_ones zero = refl
sum_ones (suc n) = omega (arith, sum_ones n)

pub sum_zeros : (n : ℕ) → sum_below (λ p. 0) n ≡ 0
sum_zeros zero = refl
sum_zeros (suc n) = omega (arith, sum_zeros n)

pub sum_list : {A : Type 0} (f : A → ℕ) (d : A) (xs : List A) → sum_below (λ b. f (get_or xs b d)) (length xs) ≡ sum_by f xs
sum_list f d [] = refl
sum_list f d (x ∷ xs) = sum_shift (λ b. f (get_or (x ∷ xs) b d)) (length xs) ∙ omega (arith, sum_list f d xs, sum_by-cons f x xs)

-- the places of a buffer that are free or were not taken
open_places : (states : List State) (n : ℕ) → length states ≤ n
    → sum_below (λ p. one_if (is_open_entry (slice_get states p))) n ≡ count_by is_free_state states + (n - length states)
open_places [] n fits = sum_ones n ∙ omega arith
open_places (s ∷ states) zero fits = absurd (omega (arith, fits))
open_places (s ∷ states) (suc n) fits =
    sum_shift (λ p. one_if (is_open_entry (slice_get (s ∷ states) p))) n
    ∙ omega (arith, open_places states n (omega (arith, fits)), sum_by-cons (λ t. cond (is_free_state t) 1 0) s states)

-- an entry is one of these
pub record IsOpenAt (bits n : ℕ) (is_open : ℕ → ℕ → Bool) (room : ℕ → ℕ) (r : ℕ) : Type 0 where
  pub inside : buffer_of bits r < n
  pub first : 0 < offset_of bits r
  pub low : offset_of bits r - 1 < room (buffer_of bits r)
  pub is : is_open (buffer_of bits r) (offset_of bits r - 1) ≡ true

abbrev total : (ℕ → ℕ → Bool) → (ℕ → ℕ) → ℕ → ℕ
total is_open room n = sum_below (λ b. sum_below (λ p. one_if (is_open b p)) (room b)) n

-- one entry is none of these any more
abbrev without : (ℕ → ℕ → Bool) → ℕ → ℕ → ℕ → ℕ → Bool
without is_open b p a q = cond (eqb a b && eqb q p) false (is_open a q)

without-here : (is_open : ℕ → ℕ → Bool) (b p : ℕ) → without is_open b p b p ≡ false
without-here is_open b p = ap (λ t. cond (t && eqb p p) false (is_open b p)) (eq-eqb b b refl) ∙ ap (λ t. cond (true && t) false (is_open b p)) (eq-eqb p p refl)

without-place : (is_open : ℕ → ℕ → Bool) (b p a q : ℕ) → (eqb a b && eqb q p) ≡ false → without is_open b p a q ≡ is_open a q
without-place is_open b p a q ne = ap (λ t. cond t false (is_open a q)) ne

and-left : (t u : Bool) → t ≡ false → (t && u) ≡ false
and-left t u e = ap (λ v. v && u) e

and-right : (t u : Bool) → u ≡ false → (t && u) ≡ false
and-right true u e = e
and-right false u e = refl

total-without : (is_open : ℕ → ℕ → Bool) (room : ℕ → ℕ) (n b p : ℕ) → b < n → p < room b → is_open b p ≡ true → total (without is_open b p) room n + 1 ≡ total is_open room n
total-without is_open room n b p inside low is =
    sum_less (λ a. sum_below (λ q. one_if (without is_open b p a q)) (room a)) (λ a. sum_below (λ q. one_if (is_open a q)) (room a)) n b inside
    (sum_less (λ q. one_if (without is_open b p b q)) (λ q. one_if (is_open b q)) (room b) p low
    (let now : one_if (without is_open b p b p) ≡ 0 = ap one_if (without-here is_open b p) in let was : one_if (is_open b p) ≡ 1 = ap one_if is in omega (arith, now, was))
    (λ q ne. ap one_if (without-place is_open b p b q (and-right (eqb b b) (eqb q p) (ne_eqb q p ne)))))
    (λ a ne. sum_same (λ q. one_if (without is_open b p a q)) (λ q. one_if (is_open a q)) (room a)
    (λ q low. ap one_if (without-place is_open b p a q (and-left (eqb a b) (eqb q p) (ne_eqb a b ne)))))

pub few_open : (bits n : ℕ) (refs : List ℕ) (is_open : ℕ → ℕ → Bool) (room : ℕ → ℕ) → IsDistinct eqb refs → AllByRecursion (IsOpenAt bits n is_open room) refs
    → length refs ≤ total is_open room n
unfolding IsDistinct
few_open bits n [] is_open room distinct all = omega arith
few_open bits n (r ∷ refs) is_open room distinct all =
    let b = buffer_of bits r in
    let p = offset_of bits r - 1 in
    let less = total-without is_open room n b p all.0.inside all.0.low all.0.is in
    let rest = few_open bits n refs (without is_open b p) room distinct.1 (each refs distinct.0 all.1) in
    omega (arith, less, rest)
  where
    kept : (q : ℕ) → eqb r q ≡ false → IsOpenAt bits n is_open room q → (t : Bool) → (eqb (buffer_of bits q) (buffer_of bits r) && eqb (offset_of bits q - 1) (offset_of bits r - 1)) ≡ t → t ≡ false
    kept q ne at false e = refl
    kept q ne at true e =
        let both = and_parts _ _ e in
        let buffers : buffer_of bits q ≡ buffer_of bits r = eqb-true _ _ both.0 in
        let places : offset_of bits q - 1 ≡ offset_of bits r - 1 = eqb-true _ _ both.1 in
        let offsets : offset_of bits r ≡ offset_of bits q = omega (arith, places, at.first, all.0.first) in
        absurd (eqb-false r q ne (same-ref bits r q offsets (sym buffers)))

    each : (qs : List ℕ) → AllByRecursion (λ q. eqb r q ≡ false) qs → AllByRecursion (IsOpenAt bits n is_open room) qs
        → AllByRecursion (IsOpenAt bits n (without is_open (buffer_of bits r) (offset_of bits r - 1)) room) qs
    each [] ne all = tt
    each (q ∷ qs) ne all = (
      record {
        inside = all.0.inside;
        first = all.0.first;
        low = all.0.low;
        is = without-place is_open (buffer_of bits r) (offset_of bits r - 1) (buffer_of bits q) (offset_of bits q - 1) (kept q ne.0 all.0 _ refl) ∙ all.0.is;
      },
      each qs ne.1 all.1,
    )

-- the entries of shelves of this width that are not sealed
abbrev pub spare_place : ℕ → List ShelfView → ℕ → ℕ → Bool
spare_place w shelves b p = cond (eqb (shelf_at shelves b).width w && not (shelf_at shelves b).sealed) (is_open_entry (slice_get (shelf_at shelves b).states p)) false

spare_total : (w : ℕ) (shelves : List ShelfView) → ((b : ℕ) → length (shelf_at shelves b).states ≤ (shelf_at shelves b).room)
    → total (spare_place w shelves) (λ b. (shelf_at shelves b).room) (length shelves) ≡ spare_of_width shelves w
spare_total w shelves fits =
    sum_same (λ b. sum_below (λ p. one_if (spare_place w shelves b p)) (shelf_at shelves b).room) (λ b. spare_in w (shelf_at shelves b)) (length shelves)
    (λ b below. by_test (eqb (shelf_at shelves b).width w && not (shelf_at shelves b).sealed) (shelf_at shelves b) (fits b))
    ∙ sum_list (spare_in w) empty_shelf shelves
  where
    by_test : (t : Bool) (s : ShelfView) → length s.states ≤ s.room → sum_below (λ p. one_if (cond t (is_open_entry (slice_get s.states p)) false)) s.room ≡ cond t (spare_of s) 0
    by_test true s most = open_places s.states s.room most
    by_test false s most = sum_zeros s.room

pub few_spare : (bits w : ℕ) (shelves : List ShelfView) (refs : List ℕ) → ((b : ℕ) → length (shelf_at shelves b).states ≤ (shelf_at shelves b).room) → IsDistinct eqb refs
    → AllByRecursion (IsOpenAt bits (length shelves) (spare_place w shelves) (λ b. (shelf_at shelves b).room)) refs → length refs ≤ spare_of_width shelves w
few_spare bits w shelves refs fits distinct all =
    subst (λ n. length refs ≤ n) (spare_total w shelves fits) (few_open bits (length shelves) refs (spare_place w shelves) (λ b. (shelf_at shelves b).room) distinct all)
