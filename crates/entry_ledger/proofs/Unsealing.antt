-- The shelves after the seal of one was taken away.
use Rattle.std.proofs.Common.{◌≡◌, ◌<◌, ◌≤◌, ℕ, Bool, true, false, cond, List, [], ◌∷◌, ◌++◌, length, set, Option, refl, sym, ap, subst, ◌∙◌, arith}
use Rattle.std.proofs.Math.ListN.{length-set}
use Rattle.store_api.specs.Ledgers.{is_width}
use Rattle.entry_ledger.specs.States.{ShelfView, empty_shelf, can_make, has_touched}
use Rattle.entry_ledger.proofs.StackSteps.{stack-keep, stack-room}
use Rattle.entry_ledger.specs.Shelves.{shelf_at, row_of, filled_at}
use Rattle.entry_ledger.specs.ShelvesKept.{StackView, stack_at, has_spare_in, IsRow, IsOfWidth, AreShelves}
use Rattle.entry_ledger.proofs.Steps.{row-gain, of-width, other-width, rows-set, sealed-none}
use Rattle.entry_ledger.proofs.Gains.{each-set}

module _ (words : ℕ) (shelves : List ShelfView) (made : List ℕ) (filled : List (Option ℕ)) (stacks : List StackView) (touched : StackView)
    (k : AreShelves words shelves made filled stacks touched) (b : ℕ) (h : b < length shelves)
    (some : 0 < (shelf_at shelves b).width) (sealed : (shelf_at shelves b).sealed ≡ true) where
  abbrev unsealed : ShelfView
  unsealed = record (shelf_at shelves b) { sealed = false }

  abbrev wide : ℕ
  wide = (shelf_at shelves b).width

  valid : is_width wide ≡ true
  valid = (k.each_shelf b).width some

  was-none : has_spare_in wide (shelf_at shelves b) ≡ false
  was-none = sealed-none wide (shelf_at shelves b) sealed

  pub unseal-room : can_make unsealed ≡ true → length (stack_at stacks wide).list < (stack_at stacks wide).room
  unseal-room is =
      let row = k.each_row wide valid in
      let less = stack-room empty_shelf (has_spare_in wide) shelves (stack_at stacks wide).list row.open_is b unsealed h was-none (of-width wide unsealed refl ∙ is) in
      omega (arith, less, row.room)

  row-now : (is : Bool) → is ≡ can_make unsealed
      → IsRow (set shelves b unsealed) (filled_at filled wide) (cond is (record (stack_at stacks wide) { list = (stack_at stacks wide).list ++ b ∷ [] }) (stack_at stacks wide)) wide
  row-now true e =
      let row = k.each_row wide valid in
      row-gain shelves (filled_at filled wide) (stack_at stacks wide) wide b unsealed h row true false (e ∙ sym (of-width wide unsealed refl)) (sym was-none) (λ f. refl)
      (λ of less. row.unmade b refl less)
  row-now false e =
      let row = k.each_row wide valid in
      row-gain shelves (filled_at filled wide) (stack_at stacks wide) wide b unsealed h row false false (e ∙ sym (of-width wide unsealed refl)) (sym was-none) (λ f. f)
      (λ of less. row.unmade b refl less)

  -- it enters the stack of its width where an entry of it may be made
  unseals-one : (is : Bool) → is ≡ can_make unsealed
      → AreShelves words (set shelves b unsealed) made filled (set stacks (row_of wide) (cond is (record (stack_at stacks wide) { list = (stack_at stacks wide).list ++ b ∷ [] }) (stack_at stacks wide))) touched
  unseals-one is e =
      let long = length-set {A = ShelfView} shelves b unsealed in
      let of = k.each_shelf b in
      record {
        few = omega (arith, k.few, long);
        made_rows = k.made_rows;
        filled_rows = k.filled_rows;
        stack_rows = length-set {A = StackView} stacks (row_of wide) _ ∙ k.stack_rows;
        each_row = rows-set shelves filled filled stacks wide b unsealed _ k.stack_rows valid h refl
            (λ w is ne. other-width w (shelf_at shelves b) (λ e. ne (sym e))) (λ w ne. refl) k.each_row (row-now is e);
        each_shelf = each-set (IsOfWidth words) shelves b unsealed h (record { width = of.width; room = of.room; taken = of.taken }) k.each_shelf;
        touched_is = stack-keep empty_shelf has_touched shelves touched.list k.touched_is b unsealed h refl;
        touched_room = omega (arith, k.touched_room, long);
      }

  pub unseals : (is : Bool) → is ≡ can_make unsealed → (new : ShelfView) (place : ℕ) (stack entered : StackView) → new ≡ unsealed → place ≡ row_of wide → stack ≡ stack_at stacks wide
      → entered ≡ cond is (record stack { list = stack.list ++ b ∷ [] }) stack
      → AreShelves words (set shelves b new) made filled (set stacks place entered) touched
  unseals is e new place stack entered new_is place_is stack_is entered_is =
      subst (λ (n : ShelfView). AreShelves words (set shelves b n) made filled (set stacks place entered) touched) (sym new_is)
      (subst (λ p. AreShelves words (set shelves b unsealed) made filled (set stacks p entered) touched) (sym place_is)
      (subst (λ (t : StackView). AreShelves words (set shelves b unsealed) made filled (set stacks (row_of wide) t) touched)
      (sym (entered_is ∙ ap (λ (t : StackView). cond is (record t { list = t.list ++ b ∷ [] }) t) stack_is))
      (unseals-one is e)))
