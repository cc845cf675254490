-- The stored form of the shelves, with the stacks of those that have a spare entry and of those that the unit
-- changed.
use Rattle.std.specs.Prelude.{◌≡◌, ℕ, ◌<◌, ◌≤◌, ◌^◌, ◌&&◌, Bool, true, List, [], length, slice_index, slice_index_or, Option, Some}
use Rattle.std.specs.Prelude.{if◌then◌else◌, nat_eq}
use Rattle.store_api.specs.Ledgers.{is_width, capacity}
use Rattle.entry_ledger.specs.States.{ShelfView, empty_shelf, can_make, has_touched}
use Rattle.entry_ledger.specs.Stacks.{IsStack}
use Rattle.entry_ledger.specs.Shelves.{shelf_at, row_of, filled_at}

-- a stack, and the number of elements that fit
pub record StackView : Type 0 where
  pub list : List ℕ
  pub room : ℕ

abbrev pub stack_at : List StackView → ℕ → StackView
stack_at stacks w = slice_index_or stacks (row_of w) (record { list = []; room = 0 })

-- a shelf of this width in which an entry may be made
abbrev pub has_spare_in : ℕ → ShelfView → Bool
has_spare_in w shelf = nat_eq shelf.width w && can_make shelf

-- an open shelf has space for all entries of its width
pub record IsOfWidth (words : ℕ) (shelf : ShelfView) : Type 0 where
  pub width : 0 < shelf.width → is_width shelf.width ≡ true
  pub room : shelf.room ≡ (if nat_eq shelf.width 0 then 0 else capacity words shelf.width)
  pub taken : length shelf.states ≤ shelf.room

-- only the shelf of a width that was opened last has entries that were not taken; it is at the bottom of the stack of
-- shelves with spare entries
pub record IsBottom (stack : List ℕ) (filled : Option ℕ) (b : ℕ) : Type 0 where
  pub filled_is : filled ≡ Some b
  pub some : 0 < length stack
  pub bottom : slice_index stack 0 ≡ b

pub record IsRow (shelves : List ShelfView) (filled : Option ℕ) (stack : StackView) (w : ℕ) : Type 0 where
  pub open_is : IsStack empty_shelf (has_spare_in w) shelves stack.list
  pub room : length shelves ≤ stack.room
  pub unmade : (b : ℕ) → (shelf_at shelves b).width ≡ w → length (shelf_at shelves b).states < (shelf_at shelves b).room
      → IsBottom stack.list filled b

pub record AreShelves (words : ℕ) (shelves : List ShelfView) (made : List ℕ) (filled : List (Option ℕ)) (stacks : List StackView)
    (touched : StackView) : Type 0 where
  pub few : length shelves < 2 ^ 32
  pub made_rows : length made ≡ 11
  pub filled_rows : length filled ≡ 11
  pub stack_rows : length stacks ≡ 11
  pub each_row : (w : ℕ) → is_width w ≡ true → IsRow shelves (filled_at filled w) (stack_at stacks w) w
  pub each_shelf : (b : ℕ) → IsOfWidth words (shelf_at shelves b)
  pub touched_is : IsStack empty_shelf has_touched shelves touched.list
  pub touched_room : length shelves ≤ touched.room
