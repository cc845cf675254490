-- No shelf is open.
use Rattle.std.proofs.Common.{◌≡◌, ℕ, zero, suc, ◌<◌, ◌^◌, Bool, false, cond, [], length, get_or, replicate, Option, None, refl, sym, ap, subst, arith}
use Rattle.std.specs.List.{count_by}
use Rattle.std.proofs.lemmas.List.{length-replicate}
use Rattle.std.proofs.lemmas.List.Sums.{sum_by-cons}
use Rattle.list_lemmas.specs.Counting.{one_if}
use Rattle.entry_ledger.specs.States.{ShelfView, empty_shelf, has_touched}
use Rattle.entry_ledger.specs.Stacks.{IsStack}
use Rattle.entry_ledger.specs.Shelves.{shelf_at, row_of}
use Rattle.entry_ledger.specs.ShelvesKept.{StackView, has_spare_in, IsRow, IsOfWidth, AreShelves}
use Rattle.entry_ledger.proofs.Rows.{row_of-below}
use Rattle.entry_ledger.proofs.Steps.{empty-none}

no-shelf : (n b : ℕ) → shelf_at (replicate n empty_shelf) b ≡ empty_shelf
no-shelf zero b = refl
no-shelf (suc n) zero = refl
no-shelf (suc n) (suc b) = no-shelf n b

each-place : {A : Type 0} (x d : A) (n i : ℕ) → i < n → get_or (replicate n x) i d ≡ x
each-place x d zero i below = absurd (omega (arith, below))
each-place x d (suc n) zero below = refl
each-place x d (suc n) (suc i) below = each-place x d n i (omega (arith, below))

none-passes : {A : Type 0} (test : A → Bool) (x : A) → test x ≡ false → (n : ℕ) → count_by test (replicate n x) ≡ 0
none-passes test x out zero = refl
none-passes test x out (suc n) =
    let later = none-passes test x out n in
    let here : one_if (test x) ≡ 0 = ap one_if out in
    omega (arith, sum_by-cons (λ y. cond (test y) 1 0) x (replicate n x), later, here)

empty-stack : (test : ShelfView → Bool) → test empty_shelf ≡ false → (n : ℕ) → IsStack empty_shelf test (replicate n empty_shelf) []
empty-stack test out n = record {
  below = λ i below. absurd (omega (arith, below));
  passes = λ i below. absurd (omega (arith, below));
  apart = λ i j before below. absurd (omega (arith, below));
  count = sym (none-passes test empty_shelf out n);
}

abbrev pub new_stack : ℕ → StackView
new_stack n = record { list = []; room = n }

pub created : (words n : ℕ) → n < 2 ^ 32 → AreShelves words (replicate n empty_shelf) (replicate 11 0) (replicate 11 None) (replicate 11 (new_stack n)) (new_stack n)
created words n few =
    let long = length-replicate {A = ShelfView} n empty_shelf in
    record {
      few = omega (arith, few, long);
      made_rows = refl;
      filled_rows = refl;
      stack_rows = refl;
      each_row = λ w is. (let row : IsRow (replicate n empty_shelf) None (new_stack n) w = record {
        open_is = empty-stack (has_spare_in w) (empty-none w) n;
        room = omega (arith, long);
        unmade = λ b wide less. absurd (no-room n b less);
      } in
          subst (λ (t : StackView). IsRow (replicate n empty_shelf) (get_or (replicate 11 None) (row_of w) None) t w) (sym (each-place (new_stack n) (new_stack 0) 11 (row_of w) (row_of-below w is)))
          (subst (λ (f : Option ℕ). IsRow (replicate n empty_shelf) f (new_stack n) w) (sym (each-place None None 11 (row_of w) (row_of-below w is))) row));
      each_shelf = λ b. subst (IsOfWidth words) (sym (no-shelf n b)) (record { width = λ some. absurd (omega (arith, some)); room = refl; taken = omega arith });
      touched_is = empty-stack has_touched refl n;
      touched_room = omega (arith, long);
    }
  where
    no-room : (n b : ℕ) → length (shelf_at (replicate n empty_shelf) b).states < (shelf_at (replicate n empty_shelf) b).room → ⊥
    no-room n b less = (let none : 0 < 0 = subst (λ (s : ShelfView). length s.states < s.room) (no-shelf n b) less in omega (arith, none))
