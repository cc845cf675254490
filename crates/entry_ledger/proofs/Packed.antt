-- The entries for which the buffers of a width have room were made or are to spare; and those of a buffer that is not filled were made.
use Rattle.std.proofs.Common.{◌≡◌, ◌≢◌, ℕ, zero, suc, ◌+◌, ◌-◌, ◌*◌, ◌<◌, ◌≤◌, ◌⊎◌, Bool, true, false, not, ◌&&◌, cond, List, [], ◌∷◌, length, get_or, ap, ◌∙◌, arith, inl, inr}
use Rattle.std.specs.List.{sum_by, count_by}
use Rattle.std.proofs.Math.Nat.{add-mul}
use Rattle.std.proofs.lemmas.List.Sums.{sum_by-cons}
use Rattle.std.proofs.lemmas.Bool.{cases_lt, cases_eq, eq-eqb, ne_eqb}
use Rattle.entry_ledger.specs.States.{ShelfView, empty_shelf, spare_of}
use Rattle.entry_ledger.specs.Shelves.{shelf_at, spare_in, spare_of_width}
use Rattle.entry_ledger.specs.Ledgers.{unmade_in, unmade_of_width}

-- a sum of less at each place is less
pub sum-less : {A : Type 0} (f g : A → ℕ) (d : A) (xs : List A) → ((i : ℕ) → f (get_or xs i d) ≤ g (get_or xs i d)) → sum_by f xs ≤ sum_by g xs
sum-less f g d [] less = omega arith
sum-less f g d (x ∷ xs) less =
    let here : f x ≤ g x = less 0 in
    omega (arith, here, sum-less f g d xs (λ i. less (suc i)), sum_by-cons f x xs, sum_by-cons g x xs)

-- where a place has nothing of what all others have at most so much, the sum is so much less
pub sum-but : {A : Type 0} (f g : A → ℕ) (d : A) (xs : List A) (b most : ℕ) → b < length xs → ((i : ℕ) → f (get_or xs i d) ≤ g (get_or xs i d)) → f (get_or xs b d) + most ≤ g (get_or xs b d)
    → sum_by f xs + most ≤ sum_by g xs
sum-but f g d [] b most within less gap = absurd (omega (arith, within))
sum-but f g d (x ∷ xs) zero most within less gap =
    let here : f x + most ≤ g x = gap in
    omega (arith, here, sum-less f g d xs (λ i. less (suc i)), sum_by-cons f x xs, sum_by-cons g x xs)
sum-but f g d (x ∷ xs) (suc b) most within less gap =
    let here : f x ≤ g x = less 0 in
    omega (arith, here, sum-but f g d xs b most (omega (arith, within)) (λ i. less (suc i)) gap, sum_by-cons f x xs, sum_by-cons g x xs)

module _ (shelves : List ShelfView) (w : ℕ) (unsealed : (b : ℕ) → length (shelf_at shelves b).states < (shelf_at shelves b).room → (shelf_at shelves b).sealed ≡ false) where
  unmade-in : (b : ℕ) → unmade_in w (shelf_at shelves b) ≤ spare_in w (shelf_at shelves b)
  unmade-in b = by_width (cases_eq (shelf_at shelves b).width w) (cases_lt (length (shelf_at shelves b).states) (shelf_at shelves b).room)
    where
      by_width : ((shelf_at shelves b).width ≡ w) ⊎ ((shelf_at shelves b).width ≢ w) → (length (shelf_at shelves b).states < (shelf_at shelves b).room) ⊎ ((shelf_at shelves b).room ≤ length (shelf_at shelves b).states)
          → unmade_in w (shelf_at shelves b) ≤ spare_in w (shelf_at shelves b)
      by_width (inr ne) any =
          (let none : unmade_in w (shelf_at shelves b) ≡ 0 = ap (λ t. cond t ((shelf_at shelves b).room - length (shelf_at shelves b).states) 0) (ne_eqb (shelf_at shelves b).width w ne) in omega (arith, none))
      by_width (inl e) (inr whole) =
          (let is : unmade_in w (shelf_at shelves b) ≡ (shelf_at shelves b).room - length (shelf_at shelves b).states =
          ap (λ t. cond t ((shelf_at shelves b).room - length (shelf_at shelves b).states) 0) (eq-eqb (shelf_at shelves b).width w e) in omega (arith, is, whole))
      by_width (inl e) (inl part) =
          (let is : unmade_in w (shelf_at shelves b) ≡ (shelf_at shelves b).room - length (shelf_at shelves b).states =
          ap (λ t. cond t ((shelf_at shelves b).room - length (shelf_at shelves b).states) 0) (eq-eqb (shelf_at shelves b).width w e) in
          let has : spare_in w (shelf_at shelves b) ≡ spare_of (shelf_at shelves b) =
          ap (λ t. cond (t && not (shelf_at shelves b).sealed) (spare_of (shelf_at shelves b)) 0) (eq-eqb (shelf_at shelves b).width w e)
          ∙ ap (λ t. cond (true && not t) (spare_of (shelf_at shelves b)) 0) (unsealed b part) in
          omega (arith, is, has))

  pub unmade-spare : unmade_of_width shelves w ≤ spare_of_width shelves w
  unmade-spare = sum-less (unmade_in w) (spare_in w) empty_shelf shelves unmade-in

-- so much at each place that counts, and nothing at others
pub sum-counted : {A B : Type 0} (f : A → ℕ) (p : B → Bool) (d : A) (e : B) (c : ℕ) (xs : List A) (ys : List B) → length xs ≡ length ys
    → ((i : ℕ) → f (get_or xs i d) ≤ cond (p (get_or ys i e)) c 0) → sum_by f xs ≤ count_by p ys * c
sum-counted f p d e c [] ys same each = omega arith
sum-counted f p d e c (x ∷ xs) [] same each = absurd (omega (arith, same))
sum-counted f p d e c (x ∷ xs) (y ∷ ys) same each =
    let here : f x ≤ cond (p y) c 0 = each 0 in
    let rest = sum-counted f p d e c xs ys (omega (arith, same)) (λ i. each (suc i)) in
    let more : count_by p (y ∷ ys) ≡ cond (p y) 1 0 + count_by p ys = sum_by-cons (λ z. cond (p z) 1 0) y ys in
    let all : count_by p (y ∷ ys) * c ≡ cond (p y) 1 0 * c + count_by p ys * c = ap (λ n. n * c) more ∙ add-mul (cond (p y) 1 0) (count_by p ys) c in
    omega (arith, here, rest, all, scaled (p y), sum_by-cons f x xs)
  where
    scaled : (t : Bool) → cond t c 0 ≡ cond t 1 0 * c
    scaled true = omega arith
    scaled false = omega arith
