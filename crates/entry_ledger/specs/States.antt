-- The states of entries, and how the end of a unit changes them.
use Rattle.std.specs.Prelude.{◌≡◌, ℕ, ◌+◌, ◌-◌, ◌<◌, ◌≤◌, ◌&&◌, not, Bool, true, false, nat_eq, nat_lt, if◌then◌else◌, List, [], ◌∷◌, ◌++◌}
use Rattle.std.specs.Prelude.{length, slice_set, slice_index_or, count_by}
use Rattle.entry_ledger.specs.declared.state.State.{State}
use Rattle.entry_ledger.specs.declared.state.State.TheVariants.{Free, Returned, Made, InUse, LetGo, DroppedNow, Dropped}
use Rattle.entry_ledger.specs.declared.shelf.Settled.{Settled}

-- free: a make can take it
abbrev pub is_free_state : State → Bool
is_free_state Free = true
is_free_state Returned = true
is_free_state state = false

-- changed by the open unit
abbrev pub is_touched : State → Bool
is_touched Returned = true
is_touched Made = true
is_touched LetGo = true
is_touched (DroppedNow after) = true
is_touched state = false

-- in use, and made by the unit
abbrev pub is_made : State → Bool
is_made Made = true
is_made state = false

-- pending or live
abbrev pub is_used : State → Bool
is_used Made = true
is_used (InUse after) = true
is_used state = false

-- dropped by an accepted unit
abbrev pub is_dropped : State → Bool
is_dropped (Dropped after generation) = true
is_dropped state = false

-- free, dropped or held
abbrev pub is_dead : State → Bool
is_dead Free = true
is_dead Returned = true
is_dead (DroppedNow after) = true
is_dead (Dropped after generation) = true
is_dead state = false

-- dropped before this commit
abbrev pub is_held : ℕ → State → Bool
is_held last (Dropped after generation) = if nat_eq after last then false else true
is_held last state = false

-- the state of an entry in use after it is dropped, where `last` is the last commit
abbrev pub dropped : ℕ → State → State
dropped last Made = Returned
dropped last (InUse after) = if nat_eq after last then LetGo else DroppedNow after
dropped last state = state

-- the change is kept; what the unit dropped is held with this generation
abbrev pub accepted : ℕ → ℕ → State → State
accepted last generation Returned = Free
accepted last generation Made = InUse last
accepted last generation LetGo = Free
accepted last generation (DroppedNow after) = Dropped last generation
accepted last generation state = state

-- the change is taken back; what the unit made is free
abbrev pub undone : ℕ → State → State
undone last Returned = Free
undone last Made = Free
undone last LetGo = InUse last
undone last (DroppedNow after) = InUse after
undone last state = state

abbrev pub settled_state : Bool → ℕ → ℕ → State → State
settled_state true last generation state = accepted last generation state
settled_state false last generation state = undone last state

-- the end of a unit frees an entry that was not free
abbrev pub is_freed : Bool → State → Bool
is_freed true LetGo = true
is_freed false Made = true
is_freed accepts state = false

-- the state of an entry, by its index
abbrev pub state_at : List State → ℕ → State
state_at states x = slice_index_or states x Free

-- the entries of one buffer: their width, whether the buffer is sealed, the states of those taken so far, and the
-- number of all
pub record ShelfView : Type 0 where
  pub width : ℕ
  pub sealed : Bool
  pub room : ℕ
  pub states : List State

abbrev pub empty_shelf : ShelfView
empty_shelf = record { width = 0; sealed = false; room = 0; states = [] }

-- the number of entries that can be made
abbrev pub spare_of : ShelfView → ℕ
spare_of shelf = count_by is_free_state shelf.states + (shelf.room - length shelf.states)

-- an entry may be made
abbrev pub can_make : ShelfView → Bool
can_make shelf = not shelf.sealed && nat_lt 0 (spare_of shelf)

-- exactly one entry may be made
abbrev pub has_one_spare : ShelfView → Bool
has_one_spare shelf = not shelf.sealed && nat_eq (spare_of shelf) 1

-- a free entry may be made, and another entry after it
abbrev pub has_free_and_more : ShelfView → Bool
has_free_and_more shelf = not shelf.sealed && (nat_lt 0 (count_by is_free_state shelf.states) && nat_lt 1 (spare_of shelf))

-- the unit changed an entry
abbrev pub has_touched : ShelfView → Bool
has_touched shelf = nat_lt 0 (count_by is_touched shelf.states)

-- the unit changed exactly one entry
abbrev pub has_one_touched : ShelfView → Bool
has_one_touched shelf = nat_eq (count_by is_touched shelf.states) 1

-- entry x is made: a free one, or the next that was not taken
abbrev pub with_made : ShelfView → ℕ → ShelfView
with_made shelf x = record shelf {
  states = if nat_eq x (length shelf.states) then shelf.states ++ Made ∷ [] else slice_set shelf.states x Made;
}

-- the shelf after the state of one entry changes
abbrev pub with_state_at : ShelfView → ℕ → State → ShelfView
with_state_at shelf x state = record shelf { states = slice_set shelf.states x state }

-- entry x can be taken: it is free, or none is free and it is the next
pub record IsOpen (shelf : ShelfView) (x : ℕ) : Type 0 where
  pub within : x ≤ length shelf.states
  pub free : x < length shelf.states → is_free_state (state_at shelf.states x) ≡ true
  pub next : x ≡ length shelf.states → (x < shelf.room) × (count_by is_free_state shelf.states ≡ 0)

-- one entry that the unit changed is settled
pub record Settles (accepts : Bool) (last generation : ℕ) (old new : ShelfView) (step : Settled) : Type 0 where
  pub below : step.place < length old.states
  pub was : step.was ≡ state_at old.states step.place
  pub touched : is_touched step.was ≡ true
  pub now : step.now ≡ settled_state accepts last generation step.was
  pub same : new ≡ with_state_at old step.place step.now
