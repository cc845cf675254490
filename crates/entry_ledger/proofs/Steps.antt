-- What a change of one shelf leaves of the row of a width.
use Rattle.std.proofs.Common.{◌≡◌, ◌≢◌, ℕ, zero, suc, ◌+◌, ◌<◌, Bool, true, false, not, ◌&&◌, cond, eqb, List, [], ◌∷◌, ◌++◌, length, get_or, set, Option, refl, sym, ap, subst, ◌∙◌, arith, inl, inr, get_or-set_other}
use Rattle.std.proofs.Common.{get_or-set_same}
use Rattle.std.specs.Prelude.{nat_lt}
use Rattle.std.specs.List.{count_by, remove}
use Rattle.std.proofs.Math.ListN.{length-set, get_or-append}
use Rattle.std.proofs.lemmas.List.{length_push}
use Rattle.std.proofs.lemmas.List.Sums.{sum_by-cons, sum_by-set}
use Rattle.std.proofs.lemmas.List.Edits.{get_or-remove_below, length-remove}
use Rattle.std.proofs.lemmas.Bool.{cases_eq, cases_lt, ne_eqb, eq-eqb, true≢false, lt-ltb, ltb-true, and_parts}
use Rattle.list_lemmas.specs.Counting.{one_if}
use Rattle.store_api.specs.Ledgers.{is_width}
use Rattle.entry_ledger.specs.States.{ShelfView, empty_shelf, can_make, spare_of, is_free_state, IsOpen}
use Rattle.entry_ledger.specs.Stacks.{IsStack}
use Rattle.entry_ledger.proofs.StackSteps.{stack-keep, stack-push, count-none}
use Rattle.entry_ledger.proofs.StackRemoval.{stack-remove}
use Rattle.entry_ledger.specs.Shelves.{shelf_at, row_of, filled_at, spare_in, spare_of_width}
use Rattle.entry_ledger.specs.ShelvesKept.{StackView, stack_at, has_spare_in, IsBottom, IsRow}
use Rattle.entry_ledger.proofs.Rows.{row_of-below, row_of-apart}

-- what holds of each shelf with entries that were not taken, where one shelf is another
pub unmade-set : (shelves : List ShelfView) (w b : ℕ) (new : ShelfView) → b < length shelves → (P : ℕ → Type 0)
    → ((a : ℕ) → a ≢ b → (shelf_at shelves a).width ≡ w → length (shelf_at shelves a).states < (shelf_at shelves a).room → P a)
    → (new.width ≡ w → length new.states < new.room → P b)
    → (a : ℕ) → (shelf_at (set shelves b new) a).width ≡ w → length (shelf_at (set shelves b new) a).states < (shelf_at (set shelves b new) a).room → P a
unmade-set shelves w b new h P others mine a wide less = elim (cases_eq a b) [
  | inl e ↦
      (let is : shelf_at (set shelves b new) a ≡ new = ap (λ n. get_or (set shelves b new) n empty_shelf) e ∙ get_or-set_same shelves b new empty_shelf h in
      subst P (sym e) (mine (subst (λ (s : ShelfView). s.width ≡ w) is wide) (subst (λ (s : ShelfView). length s.states < s.room) is less)))
  | inr ne ↦
      (let is : shelf_at (set shelves b new) a ≡ shelf_at shelves a = get_or-set_other shelves b a new empty_shelf ne in
      others a ne (subst (λ (s : ShelfView). s.width ≡ w) is wide) (subst (λ (s : ShelfView). length s.states < s.room) is less))
]

bottom-push : (xs : List ℕ) (filled : Option ℕ) (a x : ℕ) → IsBottom xs filled a → IsBottom (xs ++ x ∷ []) filled a
bottom-push xs filled a x is = record {
  filled_is = is.filled_is;
  some = omega (arith, is.some, length_push xs x);
  bottom = get_or-append xs (x ∷ []) 0 0 is.some ∙ is.bottom;
}

pub bottom-remove : (xs : List ℕ) (filled : Option ℕ) (a place : ℕ) → IsBottom xs filled a → place < length xs → get_or xs place 0 ≢ a → IsBottom (remove xs place) filled a
bottom-remove xs filled a zero is below ne = absurd (ne is.bottom)
bottom-remove xs filled a (suc place) is below ne = record {
  filled_is = is.filled_is;
  some = (let long = length-remove xs (suc place) below in omega (arith, long, below));
  bottom = get_or-remove_below xs (suc place) 0 0 (omega arith) below ∙ is.bottom;
}

module _ (shelves : List ShelfView) (filled : Option ℕ) (stack : StackView) (w b : ℕ) (new : ShelfView) (h : b < length shelves) (row : IsRow shelves filled stack w) where
  pub row-keep : has_spare_in w new ≡ has_spare_in w (shelf_at shelves b) → (new.width ≡ w → length new.states < new.room → IsBottom stack.list filled b)
      → IsRow (set shelves b new) filled stack w
  row-keep same mine = record {
    open_is = stack-keep empty_shelf (has_spare_in w) shelves stack.list row.open_is b new h same;
    room = omega (arith, row.room, length-set {A = ShelfView} shelves b new);
    unmade = unmade-set shelves w b new h (IsBottom stack.list filled) (λ a ne wide less. row.unmade a wide less) mine;
  }

  pub row-push : has_spare_in w (shelf_at shelves b) ≡ false → has_spare_in w new ≡ true → (new.width ≡ w → length new.states < new.room → IsBottom (stack.list ++ b ∷ []) filled b)
      → IsRow (set shelves b new) filled (record stack { list = stack.list ++ b ∷ [] }) w
  row-push was is mine = record {
    open_is = stack-push empty_shelf (has_spare_in w) shelves stack.list row.open_is b new h was is;
    room = omega (arith, row.room, length-set {A = ShelfView} shelves b new);
    unmade = unmade-set shelves w b new h (IsBottom (stack.list ++ b ∷ []) filled) (λ a ne wide less. bottom-push stack.list filled a b (row.unmade a wide less)) mine;
  }

  pub row-remove : (i : ℕ) → i < length stack.list → get_or stack.list i 0 ≡ b → has_spare_in w new ≡ false → (new.width ≡ w → length new.states < new.room → ⊥)
      → IsRow (set shelves b new) filled (record stack { list = remove stack.list i }) w
  row-remove i within is out mine = record {
    open_is = subst (λ n. IsStack empty_shelf (has_spare_in w) (set shelves n new) (remove stack.list i)) is
        (stack-remove empty_shelf (has_spare_in w) shelves stack.list row.open_is i within new out);
    room = omega (arith, row.room, length-set {A = ShelfView} shelves b new);
    unmade = unmade-set shelves w b new h (IsBottom (remove stack.list i) filled)
        (λ a ne wide less. bottom-remove stack.list filled a i (row.unmade a wide less) within (λ e. ne (sym e ∙ is))) (λ wide less. absurd (mine wide less));
  }

  -- a shelf that has no less to spare than before enters where it had nothing
  pub row-gain : (is was : Bool) → is ≡ has_spare_in w new → was ≡ has_spare_in w (shelf_at shelves b) → (was ≡ true → is ≡ true)
      → (new.width ≡ w → length new.states < new.room → IsBottom stack.list filled b)
      → IsRow (set shelves b new) filled (cond (is && not was) (record stack { list = stack.list ++ b ∷ [] }) stack) w
  row-gain true true is was keeps mine = row-keep (sym is ∙ was) mine
  row-gain true false is was keeps mine = row-push (sym was) (sym is) (λ wide less. bottom-push stack.list filled b b (mine wide less))
  row-gain false true is was keeps mine = absurd (true≢false (sym (keeps refl)))
  row-gain false false is was keeps mine = row-keep (sym is ∙ was) mine

-- a shelf of another width has nothing to spare in this one
pub other-width : (w : ℕ) (shelf : ShelfView) → shelf.width ≢ w → has_spare_in w shelf ≡ false
other-width w shelf ne = ap (λ t. t && can_make shelf) (ne_eqb shelf.width w ne)

pub of-width : (w : ℕ) (shelf : ShelfView) → shelf.width ≡ w → has_spare_in w shelf ≡ can_make shelf
of-width w shelf is = ap (λ t. t && can_make shelf) (eq-eqb shelf.width w is)

-- the rows of all widths, where a shelf of one width is another
pub rows-set : (shelves : List ShelfView) (filled later : List (Option ℕ)) (stacks : List StackView) (width b : ℕ) (new : ShelfView) (stack : StackView)
    → length stacks ≡ 11 → is_width width ≡ true → b < length shelves → new.width ≡ width
    → ((w : ℕ) → is_width w ≡ true → w ≢ width → has_spare_in w (shelf_at shelves b) ≡ false)
    → ((w : ℕ) → w ≢ width → filled_at later w ≡ filled_at filled w)
    → ((w : ℕ) → is_width w ≡ true → IsRow shelves (filled_at filled w) (stack_at stacks w) w)
    → IsRow (set shelves b new) (filled_at later width) stack width
    → (w : ℕ) → is_width w ≡ true → IsRow (set shelves b new) (filled_at later w) (stack_at (set stacks (row_of width) stack) w) w
rows-set shelves filled later stacks width b new stack eleven valid h wide other same rows here w is = elim (cases_eq w width) [
  | inl e ↦
      (let there : row_of width < length stacks = (let low = row_of-below width valid in omega (arith, low, eleven)) in
      subst (λ v. IsRow (set shelves b new) (filled_at later v) (stack_at (set stacks (row_of width) stack) v) v) (sym e)
      (subst (λ (s : StackView). IsRow (set shelves b new) (filled_at later width) s width) (sym (get_or-set_same stacks (row_of width) stack (record { list = []; room = 0 }) there)) here))
  | inr ne ↦
      subst (λ (s : StackView). IsRow (set shelves b new) (filled_at later w) s w) (sym (get_or-set_other stacks (row_of width) (row_of w) stack (record { list = []; room = 0 }) (row_of-apart w width valid ne)))
      (subst (λ (f : Option ℕ). IsRow (set shelves b new) f (stack_at stacks w) w) (sym (same w ne))
      (row-keep shelves (filled_at filled w) (stack_at stacks w) w b new h (rows w is)
      (other-width w new (λ e. ne (sym e ∙ wide)) ∙ sym (other w is ne)) (λ wide_is less. absurd (ne (sym wide_is ∙ wide)))))
]

-- what a shelf has to spare, and whether it has
spare-none : (wide sealed : Bool) (n : ℕ) → (wide && (not sealed && nat_lt 0 n)) ≡ false → cond (wide && not sealed) n 0 ≡ 0
spare-none true true n out = refl
spare-none true false zero out = refl
spare-none true false (suc n) out = absurd (true≢false (sym (lt-ltb 0 (suc n) (omega arith)) ∙ out))
spare-none false true n out = refl
spare-none false false n out = refl

spare-some : (wide sealed : Bool) (n : ℕ) → (wide && (not sealed && nat_lt 0 n)) ≡ true → 0 < cond (wide && not sealed) n 0
spare-some true true n is = absurd (true≢false (sym is))
spare-some true false n is = ltb-true 0 n is
spare-some false true n is = absurd (true≢false (sym is))
spare-some false false n is = absurd (true≢false (sym is))

pub none-spare : (w : ℕ) (shelves : List ShelfView) → count_by (has_spare_in w) shelves ≡ 0 → spare_of_width shelves w ≡ 0
none-spare w [] none = refl
none-spare w (s ∷ shelves) none = omega (arith, sum_by-cons (spare_in w) s shelves, here (has_spare_in w s) refl both, none-spare w shelves (omega (arith, both)))
  where
    both : one_if (has_spare_in w s) + count_by (has_spare_in w) shelves ≡ 0
    both = sym (sum_by-cons (λ t. cond (has_spare_in w t) 1 0) s shelves) ∙ none

    here : (t : Bool) → has_spare_in w s ≡ t → one_if t + count_by (has_spare_in w) shelves ≡ 0 → spare_in w s ≡ 0
    here true e z = absurd (omega (arith, z))
    here false e z = spare-none (eqb s.width w) s.sealed (spare_of s) e

empty-spare : (w : ℕ) → spare_in w empty_shelf ≡ 0
empty-spare w = by_test (eqb 0 w)
  where
    by_test : (t : Bool) → cond (t && not false) (spare_of empty_shelf) 0 ≡ 0
    by_test true = refl
    by_test false = refl

pub some-spare : (w : ℕ) (shelves : List ShelfView) (b : ℕ) → b < length shelves → has_spare_in w (shelf_at shelves b) ≡ true → 0 < spare_of_width shelves w
some-spare w shelves b below is =
    let s = shelf_at shelves b in
    let some : 0 < spare_in w s = spare-some (eqb s.width w) s.sealed (spare_of s) is in
    omega (arith, sum_by-set (spare_in w) shelves b empty_shelf empty_shelf below, empty-spare w, some)

pub sealed-none : (w : ℕ) (s : ShelfView) → s.sealed ≡ true → has_spare_in w s ≡ false
sealed-none w s sealed = ap (λ t. eqb s.width w && (not t && nat_lt 0 (spare_of s))) sealed ∙ by_test (eqb s.width w)
  where
    by_test : (t : Bool) → (t && false) ≡ false
    by_test true = refl
    by_test false = refl

pub empty-none : (w : ℕ) → has_spare_in w empty_shelf ≡ false
empty-none w = by_test (eqb 0 w)
  where
    by_test : (t : Bool) → (t && can_make empty_shelf) ≡ false
    by_test true = refl
    by_test false = refl

-- a shelf that is not sealed and has nothing to spare has no free entry, and all were taken
pub nothing-spare : (s : ShelfView) → can_make s ≡ false → s.sealed ≡ false → spare_of s ≡ 0
nothing-spare s out unsealed = by_number (spare_of s) (ap (λ t. not t && nat_lt 0 (spare_of s)) (sym unsealed) ∙ out)
  where
    by_number : (n : ℕ) → (not false && nat_lt 0 n) ≡ false → n ≡ 0
    by_number zero e = refl
    by_number (suc n) e = absurd (true≢false (sym (lt-ltb 0 (suc n) (omega arith)) ∙ e))

pub something-spare : (s : ShelfView) → can_make s ≡ true → (s.sealed ≡ false) × (0 < spare_of s)
something-spare s is = (unsealed s.sealed (and_parts (not s.sealed) (nat_lt 0 (spare_of s)) is).0, ltb-true 0 (spare_of s) (and_parts (not s.sealed) (nat_lt 0 (spare_of s)) is).1)
  where
    unsealed : (t : Bool) → not t ≡ true → t ≡ false
    unsealed true e = absurd (true≢false (sym e))
    unsealed false e = refl

-- where the next entry of the filled shelf is taken, no other shelf of the width has a free one
pub first-free : (shelves : List ShelfView) (filled : Option ℕ) (stack : StackView) (w b place i : ℕ) → IsRow shelves filled stack w
    → i < length stack.list → get_or stack.list i 0 ≡ b → (i ≡ 0 → length stack.list ≡ 1)
    → (shelf_at shelves b).width ≡ w → IsOpen (shelf_at shelves b) place → place ≡ length (shelf_at shelves b).states
    → (a : ℕ) → (shelf_at shelves a).width ≡ w → (shelf_at shelves a).sealed ≡ false → count_by is_free_state (shelf_at shelves a).states ≡ 0
first-free shelves filled stack w b place i row within is one wide can next a of_w unsealed = elim (cases_eq a b) [
  | inl e ↦ ap (λ n. count_by is_free_state (shelf_at shelves n).states) e ∙ (can.next next).1
  | inr ne ↦
      (let less : length (shelf_at shelves b).states < (shelf_at shelves b).room = omega (arith, (can.next next).0, next) in
      let bottom = (row.unmade b wide less).bottom in
      let lowest : i ≡ 0 = elim (cases_lt 0 i) [
        | inl above ↦ absurd (row.open_is.apart 0 i above within (bottom ∙ sym is))
        | inr low ↦ omega arith
      ] in
      let left : IsStack empty_shelf (has_spare_in w) (set shelves b empty_shelf) (remove stack.list i) =
      subst (λ n. IsStack empty_shelf (has_spare_in w) (set shelves n empty_shelf) (remove stack.list i)) is
      (stack-remove empty_shelf (has_spare_in w) shelves stack.list row.open_is i within empty_shelf (empty-none w)) in
      let zero_is : count_by (has_spare_in w) (set shelves b empty_shelf) ≡ 0 = omega (arith, left.count, length-remove stack.list i within, one lowest) in
      let fails : has_spare_in w (shelf_at shelves a) ≡ false =
      ap (has_spare_in w) (sym (get_or-set_other shelves b a empty_shelf empty_shelf ne)) ∙ count-none empty_shelf (has_spare_in w) (set shelves b empty_shelf) (empty-none w) zero_is a in
      let spare = nothing-spare (shelf_at shelves a) (sym (of-width w (shelf_at shelves a) of_w) ∙ fails) unsealed in
      omega (arith, spare))
]
