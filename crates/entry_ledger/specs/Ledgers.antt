-- How the entries are stored: shelves, buffers, and the list of dropped entries. Callers need only specs/Entries and
-- specs/Calls.
use Rattle.std.specs.Prelude.{◌≡◌, ◌≢◌, ℕ, suc, ◌+◌, ◌-◌, ◌*◌, ◌<◌, ◌≤◌, ◌^◌, ◌&&◌, not, Bool, true, false, nat_eq, nat_lt, nat_le}
use Rattle.std.specs.Prelude.{if◌then◌else◌, List, [], ◌∷◌, ◌++◌, length, sum_by, count_by, All, AllPairs, Option, None, Some}
use Rattle.std.specs.List.{slice_get, list_any}
use Rattle.entry_ref.specs.References.{buffer_of, offset_of, buffer_limit, offset_limit}
use Rattle.store_api.specs.Ledgers.{OfWidth, is_width, is_this, widths, capacity, buffers_in}
use Rattle.buffer_states.specs.declared.Buffer.{Buffer}
use Rattle.buffer_states.specs.Buffers.{buffer_at, with_released, is_state_free, is_state_active, is_on_hold}
use Rattle.entry_ledger.specs.declared.state.State.{State}
use Rattle.entry_ledger.specs.declared.state.State.TheVariants.{Free as FreeState, Made, Returned, LetGo, DroppedNow, Dropped}
use Rattle.entry_ledger.specs.States.{ShelfView, state_at, with_state_at, is_made, is_dead, is_dropped, is_held, is_touched}
use Rattle.entry_ledger.specs.Shelves.{ShelvesView, shelf_at, with_shelf, made_in, filled_at, spare_of_width}
use Rattle.entry_ledger.specs.ShelvesKept.{IsOfWidth}
use Rattle.hold_lists.specs.Held.{HeldEntry, HeldList, HoldTag, untagged}
use Rattle.entry_ledger.specs.Entries.{EntriesView, Mark, is_timely, IsMark, IsSealed, count_marks}

pub record LedgerView : Type 0 where
  pub shelves : ShelvesView
  pub buffers : List Buffer
  pub last : ℕ
  pub generation : ℕ
  pub oldest : ℕ
  pub finished : Option ℕ

-- the state of an entry, if it was taken; offset 0 is not an entry
abbrev pub state_in : ShelfView → ℕ → Option State
state_in shelf offset = if nat_eq offset 0 then None else slice_get shelf.states (offset - 1)

abbrev pub mark_of : Buffer → Mark
mark_of buffer = record { state = buffer.state; width = buffer.width; generation = buffer.generation; sealed = buffer.sealed }

-- the entries in use that the unit made in a shelf, if the shelf has this width and is not sealed
abbrev pub fresh_in : ℕ → ShelfView → ℕ
fresh_in w shelf = if nat_eq shelf.width w && not shelf.sealed then count_by is_made shelf.states else 0

-- a buffer of this width that is active or on hold
abbrev pub is_buffer_of : ℕ → Buffer → Bool
is_buffer_of w buffer = not (is_state_free buffer.state) && nat_eq buffer.width w

abbrev pub counts_of : LedgerView → ℕ → OfWidth
counts_of v w = record {
  made = made_in v.shelves.made w;
  spare = spare_of_width v.shelves.shelves w;
  fresh = sum_by (fresh_in w) v.shelves.shelves;
  buffers = count_by (is_buffer_of w) v.buffers;
  filled = filled_at v.shelves.filled w;
}

-- the states of all entries
unfoldable pub entries_of : ℕ → LedgerView → EntriesView
entries_of bits v = record {
  count = length v.shelves.shelves;
  words = v.shelves.words;
  last = v.last;
  generation = v.generation;
  oldest = v.oldest;
  state = λ r. state_in (shelf_at v.shelves.shelves (buffer_of bits r)) (offset_of bits r);
  mark = λ b. mark_of (buffer_at v.buffers b);
  of_width = counts_of v;
  finished = v.finished;
}

-- the number of entries of a shelf that are not in the list
abbrev pub unheld_in : ShelfView → ℕ
unheld_in shelf = shelf.room - count_by is_dropped shelf.states

-- the number of entries of a shelf of this width that were not taken
abbrev pub unmade_in : ℕ → ShelfView → ℕ
unmade_in w shelf = if nat_eq shelf.width w then shelf.room - length shelf.states else 0

abbrev pub unmade_of_width : List ShelfView → ℕ → ℕ
unmade_of_width shelves w = sum_by (unmade_in w) shelves

-- the counts of a buffer after an entry is made in a free place, or in the next one
abbrev pub taken_buffer : Bool → Buffer → Buffer
taken_buffer true buffer = record buffer { dead = buffer.dead - buffer.width }
taken_buffer false buffer = record buffer { used = buffer.used + buffer.width }

-- the counts of a buffer after a drop gives an entry this state
abbrev pub dropped_buffer : State → Buffer → Buffer
dropped_buffer Returned buffer = record buffer { dead = buffer.dead + buffer.width }
dropped_buffer (DroppedNow after) buffer = record buffer { dead = buffer.dead + buffer.width; dropped = buffer.dropped + buffer.width }
dropped_buffer state buffer = buffer

-- dropped by the open unit
abbrev pub is_dropped_now : State → Bool
is_dropped_now (DroppedNow after) = true
is_dropped_now state = false

-- the counts of a buffer after an entry that had this state is settled
abbrev pub settled_buffer : Bool → State → Buffer → Buffer
settled_buffer true LetGo buffer = record buffer { dead = buffer.dead + buffer.width }
settled_buffer false Made buffer = record buffer { dead = buffer.dead + buffer.width }
settled_buffer false (DroppedNow after) buffer =
    record buffer { dead = buffer.dead - buffer.width; dropped = buffer.dropped - buffer.width }
settled_buffer accepts state buffer = buffer

-- settling the entry makes it dead
abbrev pub is_dead_after : Bool → State → Bool
is_dead_after true LetGo = true
is_dead_after false Made = true
is_dead_after accepts state = false

-- the list after an entry is appended or not
abbrev pub held_after : Bool → ℕ → HeldList → HeldList
held_after true entry list = record { held = list.held ++ untagged entry ∷ []; room = list.room - 1 }
held_after false entry list = list

-- a dropped entry may be freed: its shelf has it, and its buffer counts it
pub record CanRelease (bits : ℕ) (shelves : ShelvesView) (buffers : List Buffer) (unheld r : ℕ) : Type 0 where
  pub inside : buffer_of bits r < length shelves.shelves
  pub counted : buffer_of bits r < length buffers
  pub first : 0 < offset_of bits r
  pub there : offset_of bits r - 1 < length (shelf_at shelves.shelves (buffer_of bits r)).states
  pub dropped : is_dropped (state_at (shelf_at shelves.shelves (buffer_of bits r)).states (offset_of bits r - 1)) ≡ true
  pub fits : (buffer_at buffers (buffer_of bits r)).width ≤ (buffer_at buffers (buffer_of bits r)).held
  pub few : unheld + 1 < 2 ^ 32

-- the dropped entry is freed
pub record Releases (bits r : ℕ) (old new : ShelvesView) (buffers counted : List Buffer) (unheld left : ℕ) : Type 0 where
  pub shelves : new ≡ with_shelf old (buffer_of bits r)
      (with_state_at (shelf_at old.shelves (buffer_of bits r)) (offset_of bits r - 1) FreeState)
  pub buffers_are : counted ≡ with_released buffers (buffer_of bits r)
  pub left_is : left ≡ unheld + 1

-- the number of entries that the unit changed
abbrev pub touched_total : LedgerView → ℕ
touched_total v = sum_by (λ (s : ShelfView). count_by is_touched s.states) v.shelves.shelves

-- dropped since this commit
abbrev pub is_since : ℕ → State → Bool
is_since last (DroppedNow after) = true
is_since last (Dropped after generation) = nat_eq after last
is_since last state = false

-- the tag of an entry in the list agrees with its state: it has no tag if it was dropped since the last commit
abbrev pub tag_fits : ℕ → ℕ → Option HoldTag → Option State → Bool
tag_fits last generation None (Some (Dropped after g)) = nat_eq after last && nat_eq g generation
tag_fits last generation (Some tag) (Some (Dropped after g)) = nat_lt after last && nat_eq tag.generation g && nat_eq tag.commit (suc after)
tag_fits last generation tag state = false

-- an entry in the list whose buffer went on hold was tagged before
abbrev pub tag_below : ℕ → Option HoldTag → Bool
tag_below generation None = false
tag_below generation (Some tag) = nat_le tag.generation generation

abbrev pub held_fits : ℕ → ℕ → Mark → Option HoldTag → Option State → Bool
held_fits last generation mark tag state =
    if is_state_active mark.state then tag_fits last generation tag state else
    (if is_on_hold mark.state then tag_below mark.generation tag else false)

-- an entry in the list is dropped, or lay in a buffer that is on hold
abbrev pub is_in_list : ℕ → EntriesView → HeldEntry → Bool
is_in_list bits e h = held_fits e.last e.generation (e.mark (buffer_of bits h.entry)) h.tag (e.state h.entry)

-- the counts of a buffer agree with its shelf
pub record IsCounted (words last : ℕ) (buffer : Buffer) (shelf : ShelfView) : Type 0 where
  pub of : IsOfWidth words shelf
  pub width : shelf.width ≡ (if is_state_active buffer.state then buffer.width else 0)
  pub sealed : buffer.sealed ≡ shelf.sealed
  pub used : buffer.used ≡ shelf.width * (1 + length shelf.states)
  pub dead : buffer.dead ≡ shelf.width * count_by is_dead shelf.states
  pub held : buffer.held ≡ shelf.width * count_by (is_held last) shelf.states
  pub dropped : buffer.dropped ≡ shelf.width * count_by (is_since last) shelf.states

-- the flag of a buffer says whether it is the one of its width that is being filled
abbrev pub IsFlagged : List (Option ℕ) → ℕ → Buffer → Type 0
IsFlagged filled b buffer = buffer.filled ≡ is_this (filled_at filled buffer.width) b

-- the list has each dropped entry once
pub record IsHeldList (bits : ℕ) (e : EntriesView) (held : List HeldEntry) : Type 0 where
  pub each : All (λ h. is_in_list bits e h ≡ true) held
  pub apart : AllPairs (λ a b. a.entry ≢ b.entry) held
  pub all : (r after g : ℕ) → e.state r ≡ Some (Dropped after g) → list_any (λ (h : HeldEntry). nat_eq h.entry r) held ≡ true

-- the invariant of states, buffers and counts, without the shelves
pub record IsSound (e : EntriesView) : Type 0 where
  pub order : e.oldest ≤ e.generation
  pub up_to : (r : ℕ) (s : State) → e.state r ≡ Some s → is_timely e s ≡ true
  pub marks : (b : ℕ) → IsMark e (e.mark b)
  pub sealed : (b : ℕ) → (e.mark b).sealed ≡ true → IsSealed e b
  pub finished : (b : ℕ) → e.finished ≡ Some b → (e.mark b).sealed ≡ true
  pub few_made : (w : ℕ) → (e.of_width w).made ≤ 18446744073709551615
  pub whole : count_marks is_state_free e.mark e.count + buffers_in e.of_width widths ≡ e.count

pub record AreEntries (bits : ℕ) (v : LedgerView) (held : List HeldEntry) (room unheld : ℕ) : Type 0 where
  pub count : length v.buffers ≡ length v.shelves.shelves
  pub few_buffers : length v.buffers < buffer_limit bits
  pub some_words : 8192 ≤ v.shelves.words
  pub few_words : v.shelves.words ≤ 65536
  pub offsets : v.shelves.words ≤ offset_limit bits
  pub product : length v.buffers * v.shelves.words ≤ 67108864
  pub made_rows : length v.shelves.made ≡ 11
  pub filled_rows : length v.shelves.filled ≡ 11
  pub counted : (b : ℕ) → IsCounted v.shelves.words v.last (buffer_at v.buffers b) (shelf_at v.shelves.shelves b)
  -- only the buffer of a width that is being filled has entries that were not taken
  pub filled : (b : ℕ) → length (shelf_at v.shelves.shelves b).states < (shelf_at v.shelves.shelves b).room
      → filled_at v.shelves.filled (shelf_at v.shelves.shelves b).width ≡ Some b
  pub flagged : (b : ℕ) → IsFlagged v.shelves.filled b (buffer_at v.buffers b)
  -- the entries that fit in the buffers of a width were made, except those that its shelves have left
  pub enough : (w : ℕ) → is_width w ≡ true
      → count_by (is_buffer_of w) v.buffers * capacity v.shelves.words w ≤ made_in v.shelves.made w + unmade_of_width v.shelves.shelves w
  pub sound : IsSound (entries_of bits v)
  pub list : IsHeldList bits (entries_of bits v) held
  pub unheld_is : unheld ≡ sum_by unheld_in v.shelves.shelves
  pub fits : unheld ≤ room
