-- The state of each entry of all buffers, and the invariant.
use Rattle.std.specs.Prelude.{◌≡◌, ℕ, zero, suc, ◌+◌, ◌*◌, ◌/◌, ◌<◌, ◌≤◌, Bool, true, false, not, ◌&&◌, nat_eq, nat_lt, nat_le}
use Rattle.std.specs.Prelude.{if◌then◌else◌, List, length, Option, None, Some}
use Rattle.std.specs.List.{IsDistinct, All}
use Rattle.entry_ref.specs.References.{buffer_of, packed}
use Rattle.entry_ref.specs.Places.{IsEntry}
use Rattle.store_api.specs.Ledgers.{OfWidth, is_width, widths, capacity, buffers_in}
use Rattle.buffer_states.specs.declared.BufferState.{BufferState}
use Rattle.buffer_states.specs.Buffers.{is_state_free, is_state_active, is_on_hold}
use Rattle.entry_ledger.specs.declared.state.State.{State}
use Rattle.entry_ledger.specs.declared.state.State.TheVariants.{InUse, DroppedNow, Dropped}
use Rattle.entry_ledger.specs.States.{is_free_state, is_touched, is_used, is_dead, is_held}

-- a buffer: free, active, or on hold with a generation; and the width of its entries
pub record Mark : Type 0 where
  pub state : BufferState
  pub width : ℕ
  pub generation : ℕ
  pub sealed : Bool

pub record EntriesView : Type 0 where
  -- the number of buffers, and the words of each
  pub count : ℕ
  pub words : ℕ
  -- the last commit, the current generation, and the generation below which nothing is held
  pub last : ℕ
  pub generation : ℕ
  pub oldest : ℕ
  -- the state of each taken entry, by reference
  pub state : ℕ → Option State
  pub mark : ℕ → Mark
  pub of_width : ℕ → OfWidth
  -- the sealed buffer that the next commit puts on hold
  pub finished : Option ℕ

-- the width of an active buffer's entries, otherwise 0
abbrev pub width_of : EntriesView → ℕ → ℕ
width_of e b = if is_state_active (e.mark b).state then (e.mark b).width else 0

-- a reference names an entry of an active buffer
abbrev pub IsEntryOf : ℕ → EntriesView → ℕ → Type 0
IsEntryOf bits e r = IsEntry bits e.count e.words (width_of e (buffer_of bits r)) r

-- a free entry that was taken before
abbrev pub is_free_entry : Option State → Bool
is_free_entry None = false
is_free_entry (Some state) = is_free_state state

-- an entry that a make can take: it was not taken, or is free
abbrev pub is_open_entry : Option State → Bool
is_open_entry None = true
is_open_entry (Some state) = is_free_state state

abbrev pub is_used_entry : Option State → Bool
is_used_entry None = false
is_used_entry (Some state) = is_used state

abbrev pub is_taken_entry : Option State → Bool
is_taken_entry None = false
is_taken_entry (Some state) = true

abbrev pub is_dead_entry : Option State → Bool
is_dead_entry None = false
is_dead_entry (Some state) = is_dead state

-- dropped before the last commit
abbrev pub is_held_entry : ℕ → Option State → Bool
is_held_entry last None = false
is_held_entry last (Some state) = is_held last state

-- no unit has changed the entry
abbrev pub is_settled_entry : Option State → Bool
is_settled_entry None = true
is_settled_entry (Some state) = not (is_touched state)

-- dropped by an accepted unit, since the last commit
abbrev pub is_dropped_since : ℕ → Option State → Bool
is_dropped_since last (Some (Dropped after generation)) = nat_eq after last
is_dropped_since last state = false

-- a state names no commit after the last; what is held has a generation from the oldest to the current one
abbrev pub is_timely : EntriesView → State → Bool
is_timely e (InUse after) = nat_le after e.last
is_timely e (DroppedNow after) = nat_lt after e.last
is_timely e (Dropped after generation) = nat_le after e.last && nat_le e.oldest generation && nat_le generation e.generation
is_timely e state = true

-- the number of entries, among the first n of a buffer, whose state passes
abbrev pub count_entries : {A : Type 0} → ℕ → (A → Bool) → (ℕ → A) → ℕ → ℕ → ℕ
count_entries bits passes state b zero = 0
count_entries bits passes state b (suc n) = count_entries bits passes state b n + (if passes (state (packed bits (suc n) b)) then 1 else 0)

abbrev pub entries_that : ℕ → (Option State → Bool) → EntriesView → ℕ → ℕ
entries_that bits passes e b = count_entries bits passes e.state b (capacity e.words (width_of e b))

-- the words of all offsets taken so far, offset 0 included; of the entries that are free, dropped or held; and of those
-- that are held
abbrev pub used_words : ℕ → EntriesView → ℕ → ℕ
used_words bits e b = width_of e b * (1 + entries_that bits is_taken_entry e b)

abbrev pub dead_words : ℕ → EntriesView → ℕ → ℕ
dead_words bits e b = width_of e b * entries_that bits is_dead_entry e b

abbrev pub held_words : ℕ → EntriesView → ℕ → ℕ
held_words bits e b = width_of e b * entries_that bits (is_held_entry e.last) e b

-- the number of buffers, among the first n, whose state passes
abbrev pub count_marks : (BufferState → Bool) → (ℕ → Mark) → ℕ → ℕ
count_marks passes mark zero = 0
count_marks passes mark (suc n) = count_marks passes mark n + (if passes (mark n).state then 1 else 0)

-- an entry of this width that a make can take
pub record IsSpare (bits : ℕ) (e : EntriesView) (width r : ℕ) : Type 0 where
  pub entry : IsEntry bits e.count e.words width r
  pub of_width : width_of e (buffer_of bits r) ≡ width
  pub is_open : is_open_entry (e.state r) ≡ true
  pub unsealed : (e.mark (buffer_of bits r)).sealed ≡ false

-- a buffer on hold has a generation from the oldest to the current one
pub record IsMark (e : EntriesView) (mark : Mark) : Type 0 where
  pub width : is_state_free mark.state ≡ false → is_width mark.width ≡ true
  pub from : is_on_hold mark.state ≡ true → e.oldest ≤ mark.generation
  pub to : is_on_hold mark.state ≡ true → mark.generation ≤ e.generation

-- a sealed buffer is active, and not the one of its width that is being filled
pub record IsSealed (e : EntriesView) (b : ℕ) : Type 0 where
  pub below : b < e.count
  pub active : is_state_active (e.mark b).state ≡ true
  pub unfilled : (e.of_width (e.mark b).width).filled ≡ Some b → ⊥

-- the invariant
pub record IsGood (bits : ℕ) (e : EntriesView) : Type 0 where
  pub entries : (r : ℕ) (s : State) → e.state r ≡ Some s → IsEntryOf bits e r
  pub up_to : (r : ℕ) (s : State) → e.state r ≡ Some s → is_timely e s ≡ true
  pub marks : (b : ℕ) → IsMark e (e.mark b)
  pub sealed : (b : ℕ) → (e.mark b).sealed ≡ true → IsSealed e b
  pub finished : (b : ℕ) → e.finished ≡ Some b → (e.mark b).sealed ≡ true
  -- an entry that was not taken lies in the buffer of its width that is being filled
  pub filled : (r : ℕ) → IsEntryOf bits e r → e.state r ≡ None
      → (e.of_width (width_of e (buffer_of bits r))).filled ≡ Some (buffer_of bits r)
  -- distinct entries that a make can take are at most the spare count
  pub spares : (w : ℕ) (refs : List ℕ) → is_width w ≡ true → IsDistinct nat_eq refs → All (IsSpare bits e w) refs
      → length refs ≤ (e.of_width w).spare
  -- a width has at most one buffer more than the entries made of it fill
  pub few : (w : ℕ) → is_width w ≡ true → (e.of_width w).buffers ≤ 1 + (e.of_width w).made / capacity e.words w
  pub few_made : (w : ℕ) → (e.of_width w).made ≤ 18446744073709551615
  -- the entries that fit in the buffers of a width were made or are spare
  pub enough : (w : ℕ) → is_width w ≡ true → (e.of_width w).buffers * capacity e.words w ≤ (e.of_width w).made + (e.of_width w).spare
  -- the entries that fit in an active buffer that is not being filled were made
  pub unfilled : (b : ℕ) → IsSealed e b → capacity e.words (e.mark b).width ≤ (e.of_width (e.mark b).width).made
  -- each buffer is free or has one of the widths
  pub whole : count_marks is_state_free e.mark e.count + buffers_in e.of_width widths ≡ e.count
