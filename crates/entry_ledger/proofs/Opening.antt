-- The shelves after one is opened or sealed.
use Rattle.std.proofs.Common.{◌≡◌, ◌≢◌, ℕ, ◌/◌, ◌<◌, ◌≤◌, true, cond, List, [], ◌∷◌, ◌++◌, length, get_or, set, Option, None, Some, refl, sym, ap, subst, ◌∙◌, arith, get_or-set_other, get_or-set_same}
use Rattle.std.specs.List.{remove}
use Rattle.std.proofs.Math.ListN.{length-set}
use Rattle.std.proofs.lemmas.Nat.{le-div}
use Rattle.std.proofs.lemmas.Bool.{ne_eqb, lt-ltb}
use Rattle.store_api.specs.Ledgers.{is_width, capacity}
use Rattle.entry_ledger.specs.States.{ShelfView, empty_shelf, has_touched}
use Rattle.entry_ledger.specs.Stacks.{IsStack}
use Rattle.entry_ledger.proofs.StackSteps.{stack-keep, stack-room}
use Rattle.entry_ledger.proofs.StackRemoval.{stack-absent, stack-remove}
use Rattle.entry_ledger.specs.Shelves.{shelf_at, row_of, filled_at, spare_of_width}
use Rattle.entry_ledger.specs.ShelvesKept.{StackView, stack_at, has_spare_in, IsBottom, IsRow, IsOfWidth, AreShelves}
use Rattle.entry_ledger.proofs.Rows.{width-bounds, row_of-below, row_of-apart}
use Rattle.entry_ledger.proofs.Steps.{bottom-remove, row-keep, row-push, of-width, other-width, rows-set, unmade-set, empty-none, sealed-none, some-spare}
use Rattle.entry_ledger.proofs.Gains.{each-set}

-- a buffer has at least one entry of each width
pub some-capacity : (words w : ℕ) → is_width w ≡ true → 8192 ≤ words → 0 < capacity words w
some-capacity words w is many =
    let bounds = width-bounds w is in
    let two : 2 ≤ words / w = le-div 2 words w (omega (arith, bounds.0)) (omega (arith, many, bounds.1)) in
    omega (arith, two)

-- a row of which nothing is to spare has no shelf on its stack
empty-row : (shelves : List ShelfView) (filled : Option ℕ) (stack : StackView) (w : ℕ) → IsRow shelves filled stack w → spare_of_width shelves w ≡ 0 → stack.list ≡ []
empty-row shelves filled stack w row none = by_list stack.list refl
  where
    by_list : (xs : List ℕ) → stack.list ≡ xs → stack.list ≡ []
    by_list [] e = e
    by_list (x ∷ xs) e =
        let some : 0 < length stack.list = omega (arith, ap length e) in
        absurd (omega (arith, none, some-spare w shelves (get_or stack.list 0 0) (row.open_is.below 0 some) (row.open_is.passes 0 some)))

module _ (words : ℕ) (shelves : List ShelfView) (made : List ℕ) (filled : List (Option ℕ)) (stacks : List StackView) (touched : StackView)
    (k : AreShelves words shelves made filled stacks touched) (b : ℕ) (h : b < length shelves) where
  abbrev opened : ℕ → ShelfView
  opened w = record empty_shelf { width = w; room = capacity words w }

  pub opens-room : (w : ℕ) → is_width w ≡ true → 8192 ≤ words → shelf_at shelves b ≡ empty_shelf → length (stack_at stacks w).list < (stack_at stacks w).room
  opens-room w is many empty =
      let row = k.each_row w is in
      let less = stack-room empty_shelf (has_spare_in w) shelves (stack_at stacks w).list row.open_is b (opened w) h
      (ap (has_spare_in w) empty ∙ empty-none w) (of-width w (opened w) refl ∙ lt-ltb 0 _ (omega (arith, some-capacity words w is many))) in
      omega (arith, less, row.room)

  -- an empty shelf is opened for a width that has nothing to spare
  pub opens : (w : ℕ) → is_width w ≡ true → 8192 ≤ words → shelf_at shelves b ≡ empty_shelf → spare_of_width shelves w ≡ 0
      → AreShelves words (set shelves b (opened w)) made (set filled (row_of w) (Some b))
      (set stacks (row_of w) (record (stack_at stacks w) { list = (stack_at stacks w).list ++ b ∷ [] })) touched
  opens w is many empty none =
      let new = opened w in
      let long = length-set {A = ShelfView} shelves b new in
      let row = k.each_row w is in
      let nil = empty-row shelves (filled_at filled w) (stack_at stacks w) w row none in
      let low : row_of w < length filled = (let less = row_of-below w is in omega (arith, less, k.filled_rows)) in
      let here : filled_at (set filled (row_of w) (Some b)) w ≡ Some b = get_or-set_same filled (row_of w) (Some b) None low in
      let row_now : IsRow shelves (filled_at (set filled (row_of w) (Some b)) w) (stack_at stacks w) w = record {
        open_is = row.open_is;
        room = row.room;
        unmade = λ a wide less. absurd (let some = (row.unmade a wide less).some in omega (arith, some, ap length nil));
      } in
      let bottom : IsBottom ((stack_at stacks w).list ++ b ∷ []) (filled_at (set filled (row_of w) (Some b)) w) b =
      subst (λ xs. IsBottom (xs ++ b ∷ []) (filled_at (set filled (row_of w) (Some b)) w) b) (sym nil) (record { filled_is = here; some = omega arith; bottom = refl }) in
      record {
        few = omega (arith, k.few, long);
        made_rows = k.made_rows;
        filled_rows = length-set {A = Option ℕ} filled (row_of w) (Some b) ∙ k.filled_rows;
        stack_rows = length-set {A = StackView} stacks (row_of w) _ ∙ k.stack_rows;
        each_row = rows-set shelves filled (set filled (row_of w) (Some b)) stacks w b new _ k.stack_rows is h refl
            (λ v valid ne. ap (has_spare_in v) empty ∙ empty-none v)
            (λ v ne. get_or-set_other filled (row_of w) (row_of v) (Some b) None (row_of-apart v w is ne)) k.each_row
            (row-push shelves (filled_at (set filled (row_of w) (Some b)) w) (stack_at stacks w) w b new h row_now
            (ap (has_spare_in w) empty ∙ empty-none w) (of-width w new refl ∙ lt-ltb 0 _ (omega (arith, some-capacity words w is many))) (λ wide less. bottom));
        each_shelf = each-set (IsOfWidth words) shelves b new h
            (record { width = λ some. is; room = sym (ap (λ t. cond t 0 (capacity words w)) (ne_eqb w 0 (λ e. (let wide = (width-bounds w is).0 in omega (arith, wide, e))))); taken = omega arith }) k.each_shelf;
        touched_is = stack-keep empty_shelf has_touched shelves touched.list k.touched_is b new h (ap has_touched (sym empty));
        touched_room = omega (arith, k.touched_room, long);
      }

  abbrev sealed : ShelfView
  sealed = record (shelf_at shelves b) { sealed = true }

  abbrev wide : ℕ
  wide = (shelf_at shelves b).width

  seal-rest : (valid : is_width wide ≡ true) → (stack : StackView) → IsRow (set shelves b sealed) (filled_at filled wide) stack wide
      → AreShelves words (set shelves b sealed) made filled (set stacks (row_of wide) stack) touched
  seal-rest valid stack row =
      let long = length-set {A = ShelfView} shelves b sealed in
      let of = k.each_shelf b in
      record {
        few = omega (arith, k.few, long);
        made_rows = k.made_rows;
        filled_rows = k.filled_rows;
        stack_rows = length-set {A = StackView} stacks (row_of wide) stack ∙ k.stack_rows;
        each_row = rows-set shelves filled filled stacks wide b sealed stack k.stack_rows valid h refl
            (λ w is ne. other-width w (shelf_at shelves b) (λ e. ne (sym e))) (λ w ne. refl) k.each_row row;
        each_shelf = each-set (IsOfWidth words) shelves b sealed h (record { width = of.width; room = of.room; taken = of.taken }) k.each_shelf;
        touched_is = stack-keep empty_shelf has_touched shelves touched.list k.touched_is b sealed h refl;
        touched_room = omega (arith, k.touched_room, long);
      }

  -- a shelf is sealed that is not filled: it leaves the stack of its width, or was not on it
  pub seals-there : (valid : is_width wide ≡ true) → filled_at filled wide ≢ Some b → (place : ℕ) → place < length (stack_at stacks wide).list
      → get_or (stack_at stacks wide).list place 0 ≡ b
      → AreShelves words (set shelves b sealed) made filled (set stacks (row_of wide) (record (stack_at stacks wide) { list = remove (stack_at stacks wide).list place })) touched
  seals-there valid unfilled place below is =
      let row = k.each_row wide valid in
      let list = (stack_at stacks wide).list in
      seal-rest valid _ (record {
        open_is = subst (λ n. IsStack empty_shelf (has_spare_in wide) (set shelves n sealed) (remove list place)) is
            (stack-remove empty_shelf (has_spare_in wide) shelves list row.open_is place below sealed (sealed-none wide sealed refl));
        room = omega (arith, row.room, length-set {A = ShelfView} shelves b sealed);
        unmade = unmade-set shelves wide b sealed h (IsBottom (remove list place) (filled_at filled wide))
            (λ a ne of less. bottom-remove list (filled_at filled wide) a place (row.unmade a of less) below (λ e. ne (sym e ∙ is)))
            (λ of less. absurd (unfilled (row.unmade b refl less).filled_is));
      })

  pub seals-absent : (valid : is_width wide ≡ true) → filled_at filled wide ≢ Some b → ((i : ℕ) → i < length (stack_at stacks wide).list → get_or (stack_at stacks wide).list i 0 ≢ b)
      → AreShelves words (set shelves b sealed) made filled (set stacks (row_of wide) (stack_at stacks wide)) touched
  seals-absent valid unfilled absent =
      let row = k.each_row wide valid in
      seal-rest valid _ (row-keep shelves (filled_at filled wide) (stack_at stacks wide) wide b sealed h row
      (sealed-none wide sealed refl ∙ sym (stack-absent empty_shelf (has_spare_in wide) shelves (stack_at stacks wide).list (empty-none wide) row.open_is b h absent))
      (λ of less. absurd (unfilled (row.unmade b refl less).filled_is)))

pub seal-at : (words : ℕ) (shelves : List ShelfView) (made : List ℕ) (filled : List (Option ℕ)) (stacks : List StackView) (touched : StackView) (b : ℕ)
    (new is : ShelfView) (place row : ℕ) (entered stack : StackView) → new ≡ is → place ≡ row → entered ≡ stack
    → AreShelves words (set shelves b is) made filled (set stacks row stack) touched → AreShelves words (set shelves b new) made filled (set stacks place entered) touched
seal-at words shelves made filled stacks touched b new is place row entered stack new_is place_is entered_is kept =
    subst (λ (n : ShelfView). AreShelves words (set shelves b n) made filled (set stacks place entered) touched) (sym new_is)
    (subst (λ p. AreShelves words (set shelves b is) made filled (set stacks p entered) touched) (sym place_is)
    (subst (λ (t : StackView). AreShelves words (set shelves b is) made filled (set stacks row t) touched) (sym entered_is) kept))
