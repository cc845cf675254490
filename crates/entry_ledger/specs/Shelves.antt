-- The shelves of all buffers; and by width, how often an entry was made and which buffer is being filled.
use Rattle.std.specs.Prelude.{◌≡◌, ℕ, suc, ◌<◌, ◌&&◌, Bool, true, false, not, nat_eq, if◌then◌else◌, List, [], ◌∷◌, length, slice_set}
use Rattle.std.specs.Prelude.{slice_index_or, sum_by, count_by, Option, None}
use Rattle.store_api.specs.Ledgers.{widths, one_more}
use Rattle.entry_ledger.specs.States.{ShelfView, empty_shelf, spare_of, is_free_state, is_touched, state_at, settled_state, IsOpen}
use Rattle.entry_ledger.specs.States.{with_made, with_state_at}
use Rattle.entry_ledger.specs.declared.shelves.Taken.{Taken}
use Rattle.entry_ledger.specs.declared.shelves.Changed.{Changed}

pub record ShelvesView : Type 0 where
  pub words : ℕ
  pub shelves : List ShelfView
  -- by the index of a width: how often an entry was made, at most the greatest 64-bit number; and the buffer that was
  -- opened last
  pub made : List ℕ
  pub filled : List (Option ℕ)

abbrev pub shelf_at : List ShelfView → ℕ → ShelfView
shelf_at shelves b = slice_index_or shelves b empty_shelf

-- the first index of a number in a list, or the length of the list if it does not occur
abbrev pub place_among : ℕ → List ℕ → ℕ
place_among w [] = 0
place_among w (v ∷ vs) = if nat_eq w v then 0 else suc (place_among w vs)

-- the index of a width among the widths
unfoldable pub row_of : ℕ → ℕ
row_of w = place_among w widths

abbrev pub made_in : List ℕ → ℕ → ℕ
made_in made w = slice_index_or made (row_of w) 0

abbrev pub filled_at : List (Option ℕ) → ℕ → Option ℕ
filled_at filled w = slice_index_or filled (row_of w) None

-- the number of entries that can be made in a shelf of this width that is not sealed
abbrev pub spare_in : ℕ → ShelfView → ℕ
spare_in w shelf = if nat_eq shelf.width w && not shelf.sealed then spare_of shelf else 0

abbrev pub spare_of_width : List ShelfView → ℕ → ℕ
spare_of_width shelves w = sum_by (spare_in w) shelves

abbrev pub with_shelf : ShelvesView → ℕ → ShelfView → ShelvesView
with_shelf v b shelf = record v { shelves = slice_set v.shelves b shelf }

-- an entry of a width is made: a free one, or, if no shelf of the width has a free one, the next of the shelf being
-- filled
pub record Takes (old new : ShelvesView) (width : ℕ) (t : Taken) : Type 0 where
  pub below : t.buffer < length old.shelves
  pub of_width : (shelf_at old.shelves t.buffer).width ≡ width
  pub unsealed : (shelf_at old.shelves t.buffer).sealed ≡ false
  pub is_open : IsOpen (shelf_at old.shelves t.buffer) t.place
  pub again : (t.again ≡ true → t.place < length (shelf_at old.shelves t.buffer).states)
      × (t.again ≡ false → t.place ≡ length (shelf_at old.shelves t.buffer).states)
  pub free_first : t.place ≡ length (shelf_at old.shelves t.buffer).states → (a : ℕ) → (shelf_at old.shelves a).width ≡ width
      → (shelf_at old.shelves a).sealed ≡ false
      → count_by is_free_state (shelf_at old.shelves a).states ≡ 0
  pub new_is : new ≡ record (with_shelf old t.buffer (with_made (shelf_at old.shelves t.buffer) t.place))
      { made = slice_set old.made (row_of width) (one_more (made_in old.made width)) }

-- one entry that the unit changed is settled
pub record SettlesOne (accepts : Bool) (last generation : ℕ) (old new : ShelvesView) (step : Changed) : Type 0 where
  pub buffer : step.buffer < length old.shelves
  pub below : step.place < length (shelf_at old.shelves step.buffer).states
  pub was : step.was ≡ state_at (shelf_at old.shelves step.buffer).states step.place
  pub touched : is_touched step.was ≡ true
  pub now : step.now ≡ settled_state accepts last generation step.was
  pub same : new ≡ with_shelf old step.buffer (with_state_at (shelf_at old.shelves step.buffer) step.place step.now)
