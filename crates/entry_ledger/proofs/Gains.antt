-- The shelves after an entry has another state, so that no less is to spare, and after a take.
use Rattle.std.proofs.Common.{◌≡◌, ℕ, zero, suc, ◌+◌, ◌-◌, ◌<◌, ◌≤◌, Bool, true, false, not, ◌&&◌, cond, eqb, List, [], ◌∷◌, ◌++◌, take, length, get_or, set, Option, refl, sym, ap, subst, ◌∙◌, arith, inl, inr}
use Rattle.std.proofs.Common.{get_or-set_other, get_or-set_same}
use Rattle.std.specs.Prelude.{nat_lt}
use Rattle.std.specs.List.{count_by, remove}
use Rattle.std.proofs.Math.ListN.{length-set}
use Rattle.std.proofs.lemmas.List.{take_more, set-get_or}
use Rattle.std.proofs.Math.Seq.{take-length}
use Rattle.std.proofs.lemmas.Bool.{cases_eq, eq-eqb, ne_eqb, eqb-true, and_parts, true≢false, lt-ltb}
use Rattle.list_lemmas.specs.Counting.{one_if}
use Rattle.list_lemmas.proofs.Counts.{count_by-set}
use Rattle.store_api.specs.Ledgers.{is_width, capacity}
use Rattle.entry_ledger.specs.declared.state.State.{State}
use Rattle.entry_ledger.specs.declared.state.State.TheVariants.{Free}
use Rattle.entry_ledger.specs.States.{ShelfView, empty_shelf, can_make, has_touched, is_free_state, is_touched, is_used, is_dropped, dropped, state_at, IsOpen, with_made, with_state_at}
use Rattle.entry_ledger.specs.Stacks.{IsStack}
use Rattle.entry_ledger.proofs.StackSteps.{stack-keep, stack-pop, stack-room, count-some}
use Rattle.entry_ledger.proofs.Settling.{dropped-touched, dropped-kept}
use Rattle.entry_ledger.specs.Shelves.{ShelvesView, shelf_at, row_of, filled_at}
use Rattle.entry_ledger.specs.ShelvesKept.{StackView, stack_at, has_spare_in, IsRow, IsOfWidth, AreShelves}
use Rattle.entry_ledger.proofs.Steps.{row-keep, row-remove, row-gain, of-width, other-width, rows-set, something-spare, empty-none, sealed-none}
use Rattle.entry_ledger.proofs.Making.{made-taken, made-length, can-from, state-can}

-- what holds of each shelf, where one is another
pub each-set : (P : ShelfView → Type 0) (shelves : List ShelfView) (b : ℕ) (new : ShelfView) → b < length shelves → P new → ((a : ℕ) → P (shelf_at shelves a))
    → (a : ℕ) → P (shelf_at (set shelves b new) a)
each-set P shelves b new h one each a = elim (cases_eq a b) [
  | inl e ↦ subst P (sym (ap (λ n. get_or (set shelves b new) n empty_shelf) e ∙ get_or-set_same shelves b new empty_shelf h)) one
  | inr ne ↦ subst P (sym (get_or-set_other shelves b a new empty_shelf ne)) (each a)
]

-- a shelf with an entry is one of a width
pub some-width : (words : ℕ) (s : ShelfView) (x : ℕ) → IsOfWidth words s → x < length s.states → is_width s.width ≡ true
some-width words s x is below = is.width (by_number s.width refl)
  where
    by_number : (w : ℕ) → s.width ≡ w → 0 < w
    by_number zero e =
        let none : s.room ≡ 0 = is.room ∙ ap (λ t. cond t 0 (capacity words s.width)) (eq-eqb s.width 0 e) in
        absurd (omega (arith, below, is.taken, none))
    by_number (suc w) e = omega arith

pub entered-list : (t : Bool) (o : StackView) (l : List ℕ) → (cond t (record o { list = l }) o).list ≡ cond t l o.list
entered-list true o l = refl
entered-list false o l = refl

pub entered-room : (t : Bool) (o : StackView) (l : List ℕ) → (cond t (record o { list = l }) o).room ≡ o.room
entered-room true o l = refl
entered-room false o l = refl

-- the last of a list
pub last-split : (xs : List ℕ) (x : ℕ) → 0 < length xs → get_or xs (length xs - 1) 0 ≡ x → xs ≡ take (length xs - 1) xs ++ x ∷ []
last-split xs x some is =
    let below : length xs - 1 < length xs = omega (arith, some) in
    let all : length xs - 1 + 1 ≡ length xs = omega (arith, some) in
    sym (take-length xs) ∙ ap (λ n. take n xs) (sym all) ∙ take_more xs (length xs - 1) 0 below ∙ ap (λ y. take (length xs - 1) xs ++ y ∷ []) is

module _ (words : ℕ) (shelves : List ShelfView) (made : List ℕ) (filled : List (Option ℕ)) (stacks : List StackView) (touched : StackView)
    (k : AreShelves words shelves made filled stacks touched) (b : ℕ) (h : b < length shelves) where
  abbrev old : ShelfView
  old = shelf_at shelves b

  -- the stack of a row has room where a shelf is to enter
  pub row-room : (new : ShelfView) (x : ℕ) → x < length old.states → new.width ≡ old.width → can_make old ≡ false → can_make new ≡ true
      → length (stack_at stacks old.width).list < (stack_at stacks old.width).room
  row-room new x below same was is =
      let row = k.each_row old.width (some-width words old x (k.each_shelf b) below) in
      let less = stack-room empty_shelf (has_spare_in old.width) shelves (stack_at stacks old.width).list row.open_is b new h (of-width old.width old refl ∙ was) (of-width old.width new same ∙ is) in
      omega (arith, less, row.room)

  pub touched-room : (new : ShelfView) → has_touched old ≡ false → has_touched new ≡ true → length touched.list < touched.room
  touched-room new was is =
      let less = stack-room empty_shelf has_touched shelves touched.list k.touched_is b new h was is in
      omega (arith, less, k.touched_room)

  -- one entry has another state, and what was free is free still
  gain : (x : ℕ) (state : State) → x < length old.states → (is_free_state (state_at old.states x) ≡ true → is_free_state state ≡ true)
      → (is was : Bool) → is ≡ can_make (with_state_at old x state) → was ≡ can_make old
      → (after : StackView) → IsStack empty_shelf has_touched (set shelves b (with_state_at old x state)) after.list → length shelves ≤ after.room
      → AreShelves words (set shelves b (with_state_at old x state)) made filled
      (set stacks (row_of old.width) (cond (is && not was) (record (stack_at stacks old.width) { list = (stack_at stacks old.width).list ++ b ∷ [] }) (stack_at stacks old.width))) after
  gain x state below keeps is was is_is was_is after touches room =
      let new = with_state_at old x state in
      let of = k.each_shelf b in
      let valid = some-width words old x of below in
      let row = k.each_row old.width valid in
      let long = length-set {A = ShelfView} shelves b new in
      let same = length-set {A = State} old.states x state in
      record {
        few = omega (arith, k.few, long);
        made_rows = k.made_rows;
        filled_rows = k.filled_rows;
        stack_rows = length-set {A = StackView} stacks (row_of old.width) _ ∙ k.stack_rows;
        each_row = rows-set shelves filled filled stacks old.width b new _ k.stack_rows valid h refl
            (λ w is ne. other-width w old (λ e. ne (sym e))) (λ w ne. refl) k.each_row
            (row-gain shelves (filled_at filled old.width) (stack_at stacks old.width) old.width b new h row is was
            (is_is ∙ sym (of-width old.width new refl)) (was_is ∙ sym (of-width old.width old refl))
            (λ e. is_is ∙ state-can old x state below keeps (sym was_is ∙ e))
            (λ wide less. row.unmade b refl (omega (arith, less, same))));
        each_shelf = each-set (IsOfWidth words) shelves b new h (record { width = of.width; room = of.room; taken = omega (arith, of.taken, same) }) k.each_shelf;
        touched_is = touches;
        touched_room = omega (arith, room, long);
      }

  pub gained : (x : ℕ) (state : State) → x < length old.states → (is_free_state (state_at old.states x) ≡ true → is_free_state state ≡ true)
      → (is was : Bool) → is ≡ can_make (with_state_at old x state) → was ≡ can_make old
      → (after : StackView) → IsStack empty_shelf has_touched (set shelves b (with_state_at old x state)) after.list → length shelves ≤ after.room
      → (new : ShelfView) (place : ℕ) (stack entered : StackView) → new ≡ with_state_at old x state → place ≡ row_of old.width → stack ≡ stack_at stacks old.width
      → entered ≡ cond (is && not was) (record stack { list = stack.list ++ b ∷ [] }) stack
      → AreShelves words (set shelves b new) made filled (set stacks place entered) after
  gained x state below keeps is was is_is was_is after touches room new place stack entered new_is place_is stack_is entered_is =
      subst (λ (n : ShelfView). AreShelves words (set shelves b n) made filled (set stacks place entered) after) (sym new_is)
      (subst (λ p. AreShelves words (set shelves b (with_state_at old x state)) made filled (set stacks p entered) after) (sym place_is)
      (subst (λ (t : StackView). AreShelves words (set shelves b (with_state_at old x state)) made filled (set stacks (row_of old.width) t) after)
      (sym (entered_is ∙ ap (λ (t : StackView). cond (is && not was) (record t { list = t.list ++ b ∷ [] }) t) stack_is))
      (gain x state below keeps is was is_is was_is after touches room)))

  -- the same, where the stack of the width is looked up only for a shelf that enters it
  pub gained-row : (x : ℕ) (state : State) → x < length old.states → (is_free_state (state_at old.states x) ≡ true → is_free_state state ≡ true)
      → (enters : Bool) → enters ≡ (can_make (with_state_at old x state) && not (can_make old))
      → (after : StackView) → IsStack empty_shelf has_touched (set shelves b (with_state_at old x state)) after.list → length shelves ≤ after.room
      → (new : ShelfView) (w : ℕ) (later : List StackView) → new ≡ with_state_at old x state → w ≡ old.width
      → later ≡ cond enters (set stacks (row_of w) (record (stack_at stacks w) { list = (stack_at stacks w).list ++ b ∷ [] })) stacks
      → AreShelves words (set shelves b new) made filled later after
  gained-row x state below keeps enters enters_is after touches room new w later new_is wide later_is =
      subst (λ (n : ShelfView). AreShelves words (set shelves b n) made filled later after) (sym new_is)
      (subst (λ (l : List StackView). AreShelves words (set shelves b (with_state_at old x state)) made filled l after)
      (lists (can_make (with_state_at old x state) && not (can_make old)) ∙ ap (λ t. cond t (pushed old.width) stacks) (sym enters_is)
      ∙ ap (λ v. cond enters (pushed v) stacks) (sym wide) ∙ sym later_is)
      (gain x state below keeps (can_make (with_state_at old x state)) (can_make old) refl refl after touches room))
    where
      pushed : ℕ → List StackView
      pushed v = set stacks (row_of v) (record (stack_at stacks v) { list = (stack_at stacks v).list ++ b ∷ [] })

      lists : (t : Bool) → set stacks (row_of old.width) (cond t (record (stack_at stacks old.width) { list = (stack_at stacks old.width).list ++ b ∷ [] }) (stack_at stacks old.width))
          ≡ cond t (pushed old.width) stacks
      lists true = refl
      lists false = set-get_or stacks (row_of old.width) (record { list = []; room = 0 })

  -- an entry is made, and this is the stack of the shelf's width then
  makes-one : (x : ℕ) → is_width old.width ≡ true → IsOpen old x → (row : StackView) → IsRow (set shelves b (with_made old x)) (filled_at filled old.width) row old.width
      → (after : StackView) → IsStack empty_shelf has_touched (set shelves b (with_made old x)) after.list → length shelves ≤ after.room
      → (counts : List ℕ) → length counts ≡ 11
      → AreShelves words (set shelves b (with_made old x)) counts filled (set stacks (row_of old.width) row) after
  makes-one x valid open_is row row_is after touches room counts eleven =
      let new = with_made old x in
      let of = k.each_shelf b in
      let long = length-set {A = ShelfView} shelves b new in
      record {
        few = omega (arith, k.few, long);
        made_rows = eleven;
        filled_rows = k.filled_rows;
        stack_rows = length-set {A = StackView} stacks (row_of old.width) row ∙ k.stack_rows;
        each_row = rows-set shelves filled filled stacks old.width b new row k.stack_rows valid h refl
            (λ w is ne. other-width w old (λ e. ne (sym e))) (λ w ne. refl) k.each_row row_is;
        each_shelf = each-set (IsOfWidth words) shelves b new h (record { width = of.width; room = of.room; taken = made-taken old x of.taken open_is }) k.each_shelf;
        touched_is = touches;
        touched_room = omega (arith, room, long);
      }

  less_before : (x : ℕ) → IsOpen old x → length (with_made old x).states < (with_made old x).room → length old.states < old.room
  less_before x open_is less = omega (arith, less, made-length old x open_is)

  -- the shelf stays on its stack, since there is one to spare still
  row-stays : (x : ℕ) → can_make old ≡ true → is_width old.width ≡ true → IsOpen old x → can_make (with_made old x) ≡ true
      → IsRow (set shelves b (with_made old x)) (filled_at filled old.width) (stack_at stacks old.width) old.width
  row-stays x could valid open_is can =
      row-keep shelves (filled_at filled old.width) (stack_at stacks old.width) old.width b (with_made old x) h (k.each_row old.width valid)
      (of-width old.width (with_made old x) refl ∙ can ∙ sym could ∙ sym (of-width old.width old refl))
      (λ wide less. (k.each_row old.width valid).unmade b refl (less_before x open_is less))

  -- or it leaves it
  row-left : (x i : ℕ) → can_make old ≡ true → is_width old.width ≡ true → IsOpen old x → i < length (stack_at stacks old.width).list → get_or (stack_at stacks old.width).list i 0 ≡ b
      → (can : Bool) → can ≡ can_make (with_made old x) → IsRow (set shelves b (with_made old x)) (filled_at filled old.width)
      (cond (not can) (record (stack_at stacks old.width) { list = remove (stack_at stacks old.width).list i }) (stack_at stacks old.width)) old.width
  row-left x i could valid open_is within is true e = row-stays x could valid open_is (sym e)
  row-left x i could valid open_is within is false e =
      row-remove shelves (filled_at filled old.width) (stack_at stacks old.width) old.width b (with_made old x) h (k.each_row old.width valid)
      i within is (of-width old.width (with_made old x) refl ∙ sym e)
      (λ wide less. true≢false (sym (can-from (with_made old x) (something-spare old could).0 less) ∙ sym e))

  -- an entry of a shelf is made that stays on its stack
  pub took-inside : (w x : ℕ) → old.width ≡ w → can_make old ≡ true → is_width w ≡ true → IsOpen old x → can_make (with_made old x) ≡ true
      → (after : StackView) → IsStack empty_shelf has_touched (set shelves b (with_made old x)) after.list → length shelves ≤ after.room
      → (counts : List ℕ) → length counts ≡ 11 → (new : ShelfView) → new ≡ with_made old x
      → AreShelves words (set shelves b new) counts filled stacks after
  took-inside w x wide could valid open_is can after touches room counts eleven new new_is =
      let wide_is = ap is_width wide ∙ valid in
      subst (λ (n : ShelfView). AreShelves words (set shelves b n) counts filled stacks after) (sym new_is)
      (subst (λ (l : List StackView). AreShelves words (set shelves b (with_made old x)) counts filled l after) (set-get_or stacks (row_of old.width) (record { list = []; room = 0 }))
      (makes-one x wide_is open_is (stack_at stacks old.width) (row-stays x could wide_is open_is can) after touches room counts eleven))

  -- an entry of a shelf is made that is this one of the stack of its width
  pub took : (w x i : ℕ) → old.width ≡ w → can_make old ≡ true → is_width w ≡ true → IsOpen old x
      → i < length (stack_at stacks w).list → get_or (stack_at stacks w).list i 0 ≡ b
      → (can : Bool) → can ≡ can_make (with_made old x)
      → (after : StackView) → IsStack empty_shelf has_touched (set shelves b (with_made old x)) after.list → length shelves ≤ after.room
      → (counts : List ℕ) → length counts ≡ 11
      → (new : ShelfView) (place : ℕ) (stack entered : StackView) → new ≡ with_made old x → place ≡ row_of w → stack ≡ stack_at stacks w
      → entered ≡ cond (not can) (record stack { list = remove stack.list i }) stack
      → AreShelves words (set shelves b new) counts filled (set stacks place entered) after
  took w x i wide could valid open_is within is can can_is after touches room counts eleven new place stack entered new_is place_is stack_is entered_is =
      let wide_is = ap is_width wide ∙ valid in
      subst (λ (n : ShelfView). AreShelves words (set shelves b n) counts filled (set stacks place entered) after) (sym new_is)
      (subst (λ p. AreShelves words (set shelves b (with_made old x)) counts filled (set stacks p entered) after) (sym (place_is ∙ ap row_of (sym wide)))
      (subst (λ (t : StackView). AreShelves words (set shelves b (with_made old x)) counts filled (set stacks (row_of old.width) t) after)
      (sym (entered_is ∙ ap (λ (t : StackView). cond (not can) (record t { list = remove t.list i }) t) (stack_is ∙ ap (stack_at stacks) (sym wide))))
      (makes-one x wide_is open_is _
      (row-left x i could wide_is open_is (subst (λ v. i < length (stack_at stacks v).list) (sym wide) within) (subst (λ v. get_or (stack_at stacks v).list i 0 ≡ b) (sym wide) is) can can_is)
      after touches room counts eleven)))

  -- the stack of changed shelves, where this one stays on it while an entry of it is changed
  pub touched-leave : (new : ShelfView) (still : Bool) → still ≡ has_touched new → 0 < length touched.list → get_or touched.list (length touched.list - 1) 0 ≡ b
      → IsStack empty_shelf has_touched (set shelves b new) (cond (not still) (take (length touched.list - 1) touched.list) touched.list)
  touched-leave new true is some last =
      let passes : has_touched old ≡ true = ap (λ n. has_touched (shelf_at shelves n)) (sym last) ∙ k.touched_is.passes (length touched.list - 1) (omega (arith, some)) in
      stack-keep empty_shelf has_touched shelves touched.list k.touched_is b new h (sym is ∙ sym passes)
  touched-leave new false is some last =
      stack-pop empty_shelf has_touched shelves (take (length touched.list - 1) touched.list) b
      (subst (IsStack empty_shelf has_touched shelves) (last-split touched.list b some last) k.touched_is) new (sym is)

  -- a sealed shelf of which nothing is changed is left
  pub closed : old.sealed ≡ true → count_by is_touched old.states ≡ 0 → AreShelves words (set shelves b empty_shelf) made filled stacks touched
  closed sealed settled =
      let long = length-set {A = ShelfView} shelves b empty_shelf in
      record {
        few = omega (arith, k.few, long);
        made_rows = k.made_rows;
        filled_rows = k.filled_rows;
        stack_rows = k.stack_rows;
        each_row = λ w is. row-keep shelves (filled_at filled w) (stack_at stacks w) w b empty_shelf h (k.each_row w is)
            (empty-none w ∙ sym (sealed-none w old sealed)) (λ wide less. absurd (omega (arith, less)));
        each_shelf = each-set (IsOfWidth words) shelves b empty_shelf h
            (record { width = λ some. absurd (omega (arith, some)); room = refl; taken = omega arith }) k.each_shelf;
        touched_is = stack-keep empty_shelf has_touched shelves touched.list k.touched_is b empty_shelf h (sym (ap (nat_lt 0) settled));
        touched_room = omega (arith, k.touched_room, long);
      }

-- a used entry that is dropped is a changed one
pub drop-touched : (s : ShelfView) (x last : ℕ) → x < length s.states → is_used (state_at s.states x) ≡ true
    → has_touched (with_state_at s x (dropped last (state_at s.states x))) ≡ true
drop-touched s x last below used =
    let new = dropped last (state_at s.states x) in
    let some : 0 < count_by is_touched (set s.states x new) =
    count-some Free is_touched (set s.states x new) x (omega (arith, below, length-set {A = State} s.states x new))
    (ap is_touched (get_or-set_same s.states x new Free below) ∙ dropped-touched last (state_at s.states x) used) in
    lt-ltb 0 _ some

-- a dropped entry that is free is not
pub release-touched : (s : ShelfView) (x : ℕ) → x < length s.states → is_dropped (state_at s.states x) ≡ true → has_touched (with_state_at s x Free) ≡ has_touched s
release-touched s x below is =
    let count = count_by-set is_touched s.states x Free Free below in
    let was : one_if (is_touched (state_at s.states x)) ≡ 0 = ap one_if (dropped-kept (state_at s.states x) is).1 in
    let same : count_by is_touched (set s.states x Free) ≡ count_by is_touched s.states = omega (arith, count, was) in
    ap (nat_lt 0) same

-- a shelf on the stack of a width
pub record IsOnRow (shelves : List ShelfView) (w b : ℕ) : Type 0 where
  pub below : b < length shelves
  pub wide : (shelf_at shelves b).width ≡ w
  pub can : can_make (shelf_at shelves b) ≡ true

pub is-on_row : (shelves : List ShelfView) (filled : Option ℕ) (stack : StackView) (w b i : ℕ) → IsRow shelves filled stack w
    → i < length stack.list → get_or stack.list i 0 ≡ b → IsOnRow shelves w b
is-on_row shelves filled stack w b i row within is =
    let passes : has_spare_in w (shelf_at shelves b) ≡ true = ap (λ n. has_spare_in w (shelf_at shelves n)) (sym is) ∙ row.open_is.passes i within in
    let parts = and_parts (eqb (shelf_at shelves b).width w) (can_make (shelf_at shelves b)) passes in
    record {
      below = subst (λ n. n < length shelves) is (row.open_is.below i within);
      wide = eqb-true (shelf_at shelves b).width w parts.0;
      can = parts.1;
    }

-- whether a place was taken before
pub again-is : (x next n : ℕ) → next ≡ n → x ≤ n → (not (eqb x next) ≡ true → x < n) × (not (eqb x next) ≡ false → x ≡ n)
again-is x next n same most = elim (cases_eq x next) [
  | inl e ↦ (λ t. absurd (true≢false (sym t ∙ ap not (eq-eqb x next e))), λ f. e ∙ same)
  | inr ne ↦ (λ t. omega (arith, most, ne, same), λ f. absurd (true≢false (sym (ap not (ne_eqb x next ne)) ∙ f)))
]

abbrev pub with_taken : ShelvesView → ℕ → ShelfView → ℕ → ℕ → ShelvesView
with_taken v b new place count = record v { shelves = set v.shelves b new; made = set v.made place count }
