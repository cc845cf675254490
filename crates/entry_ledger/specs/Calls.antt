-- How the calls change the entries.
use Rattle.std.specs.Prelude.{◌≡◌, ◌⊎◌, ℕ, ◌+◌, ◌*◌, ◌<◌, ◌≤◌, Bool, true, false, nat_eq, nat_lt, if◌then◌else◌, Option, None, Some}
use Rattle.std.specs.Option.{option_map}
use Rattle.entry_ref.specs.References.{buffer_of}
use Rattle.entry_ref.specs.Places.{IsEntry}
use Rattle.store_api.specs.Ledgers.{capacity, no_counts, with_counts}
use Rattle.store_api.specs.Calls.{GivesBackOf, DropsOf, EndsOf, SealsOf, UnsealsOf, took_spare}
use Rattle.store_api.specs.Usages.{over_buffers}
use Rattle.buffer_states.specs.declared.BufferState.TheVariants.{Free, Active, OnHold}
use Rattle.buffer_states.specs.declared.WordCounts.{WordCounts}
use Rattle.buffer_states.specs.Buffers.{is_state_free, is_state_active, is_on_hold}
use Rattle.entry_ledger.specs.declared.state.State.{State}
use Rattle.entry_ledger.specs.declared.state.State.TheVariants.{Free as FreeState, Made, Dropped}
use Rattle.entry_ledger.specs.States.{dropped, accepted, undone, settled_state, is_touched}
use Rattle.entry_ledger.specs.Entries.{EntriesView, Mark, width_of, is_open_entry, is_free_entry, is_settled_entry}
use Rattle.entry_ledger.specs.Entries.{used_words, dead_words, held_words}

-- the states after that of one entry changes
abbrev pub with_state : (ℕ → Option State) → ℕ → State → ℕ → Option State
with_state state r s q = if nat_eq q r then Some s else state q

-- the buffers after one changes
abbrev pub with_mark : (ℕ → Mark) → ℕ → Mark → ℕ → Mark
with_mark mark b new a = if nat_eq a b then new else mark a

abbrev pub free_mark : Mark
free_mark = record { state = Free; width = 0; generation = 0; sealed = false }

-- the entries of a new ledger: no buffer has any
abbrev pub new_entries : ℕ → ℕ → EntriesView
new_entries buffers words = record {
  count = buffers;
  words = words;
  last = 0;
  generation = 0;
  oldest = 0;
  state = λ r. None;
  mark = λ b. free_mark;
  of_width = λ w. no_counts;
  finished = None;
}

-- a make can take this entry: it is free, or, if the width has no free one outside sealed buffers, the next of the
-- buffer being filled
pub record CanTake (bits : ℕ) (e : EntriesView) (width r : ℕ) : Type 0 where
  pub entry : IsEntry bits e.count e.words width r
  pub of_width : width_of e (buffer_of bits r) ≡ width
  pub unsealed : (e.mark (buffer_of bits r)).sealed ≡ false
  pub is_open : is_open_entry (e.state r) ≡ true
  pub free_first : e.state r ≡ None → (q : ℕ) → width_of e (buffer_of bits q) ≡ width → (e.mark (buffer_of bits q)).sealed ≡ false
      → is_free_entry (e.state q) ≡ false

-- an entry of this width is made
abbrev pub made_at : EntriesView → ℕ → ℕ → EntriesView
made_at e width r = record e {
  state = with_state e.state r Made;
  of_width = with_counts e.of_width width (took_spare (e.of_width width));
}

-- a free buffer is opened for entries of this width, and is the one being filled
abbrev pub opened_at : EntriesView → ℕ → ℕ → EntriesView
opened_at e b width = record e {
  mark = with_mark e.mark b (record { state = Active; width = width; generation = 0; sealed = false });
  of_width = with_counts e.of_width width (record (e.of_width width) {
    spare = capacity e.words width;
    buffers = (e.of_width width).buffers + 1;
    filled = Some b;
  });
}

-- an entry in use with this state is dropped
pub record Drops (old new : EntriesView) (r : ℕ) (s : State) : Type 0 where
  pub state : new.state ≡ with_state old.state r (dropped old.last s)
  pub counts : (w : ℕ) → DropsOf (old.of_width w) (new.of_width w)
  pub same : new ≡ record old { state = new.state; of_width = new.of_width }

-- one entry that the unit changed is settled: the change is kept or taken back
pub record StepsEnd (accepts : Bool) (old new : EntriesView) : Type 0 where
  pub entry : ℕ
  pub was : State
  pub is : old.state entry ≡ Some was
  pub touched : is_touched was ≡ true
  pub state : (q : ℕ) → new.state q ≡ with_state old.state entry (settled_state accepts old.last old.generation was) q
  pub counts : (w : ℕ) → EndsOf (old.of_width w) (new.of_width w)
  pub even : accepts ≡ false → (w : ℕ) → (new.of_width w).spare + (new.of_width w).fresh ≡ (old.of_width w).spare + (old.of_width w).fresh
  pub same : new ≡ record old { state = new.state; of_width = new.of_width }

-- the unit changed nothing more
pub record IsEnded (e : EntriesView) : Type 0 where
  pub settled : (r : ℕ) → is_settled_entry (e.state r) ≡ true
  pub fresh : (w : ℕ) → (e.of_width w).fresh ≡ 0

-- a unit ends, and its changes are kept
pub record Accepts (old new : EntriesView) : Type 0 where
  pub state : (r : ℕ) → new.state r ≡ option_map (accepted old.last old.generation) (old.state r)
  pub counts : (w : ℕ) → EndsOf (old.of_width w) (new.of_width w)
  pub fresh : (w : ℕ) → (new.of_width w).fresh ≡ 0
  pub same : new ≡ record old { state = new.state; of_width = new.of_width }

-- a unit ends, and its changes are taken back
pub record Undoes (old new : EntriesView) : Type 0 where
  pub state : (r : ℕ) → new.state r ≡ option_map (undone old.last) (old.state r)
  pub counts : (w : ℕ) → EndsOf (old.of_width w) (new.of_width w)
  pub spare : (w : ℕ) → (new.of_width w).spare ≡ (old.of_width w).spare + (old.of_width w).fresh
  pub fresh : (w : ℕ) → (new.of_width w).fresh ≡ 0
  pub same : new ≡ record old { state = new.state; of_width = new.of_width }

-- what is held with a generation below the oldest becomes free
abbrev pub freed : ℕ → State → State
freed oldest (Dropped after generation) = if nat_lt generation oldest then FreeState else Dropped after generation
freed oldest state = state

abbrev pub freed_mark : ℕ → Mark → Mark
freed_mark oldest mark = if is_on_hold mark.state then (if nat_lt mark.generation oldest then free_mark else mark) else mark

-- entries and buffers that are held with a generation below the oldest become free
pub record Frees (old new : EntriesView) (oldest : ℕ) : Type 0 where
  pub state : (r : ℕ) → new.state r ≡ option_map (freed oldest) (old.state r)
  pub mark : (b : ℕ) → new.mark b ≡ freed_mark oldest (old.mark b)
  pub counts : (w : ℕ) → GivesBackOf (old.of_width w) (new.of_width w)
  pub same : new ≡ record old { state = new.state; mark = new.mark; of_width = new.of_width; oldest = oldest }

-- a buffer is sealed
pub record Seals (old new : EntriesView) (b : ℕ) : Type 0 where
  pub mark : new.mark ≡ with_mark old.mark b (record (old.mark b) { sealed = true })
  pub counts : (w : ℕ) → SealsOf (old.of_width w) (new.of_width w)
  pub same : new ≡ record old { mark = new.mark; of_width = new.of_width }

-- a buffer is no longer sealed
pub record Unseals (old new : EntriesView) (b : ℕ) : Type 0 where
  pub mark : new.mark ≡ with_mark old.mark b (record (old.mark b) { sealed = false })
  pub counts : (w : ℕ) → UnsealsOf (old.of_width w) (new.of_width w)
  pub same : new ≡ record old { mark = new.mark; of_width = new.of_width }

-- a sealed buffer goes on hold, and has no entries any more
abbrev pub retired_at : ℕ → EntriesView → ℕ → EntriesView
retired_at bits e b = record e {
  state = λ r. if nat_eq (buffer_of bits r) b then None else e.state r;
  mark = with_mark e.mark b (record { state = OnHold; width = (e.mark b).width; generation = e.generation; sealed = false });
  finished = None;
}

-- an active buffer that is neither being filled nor sealed, and of whose used words more than a twentieth is dead
pub record IsCandidate (bits : ℕ) (e : EntriesView) (b : ℕ) : Type 0 where
  pub below : b < e.count
  pub active : is_state_active (e.mark b).state ≡ true
  pub unfilled : (e.of_width (e.mark b).width).filled ≡ Some b → ⊥
  pub unsealed : (e.mark b).sealed ≡ false
  pub dead : used_words bits e b < dead_words bits e b * 20

-- the candidate with the most dead words, and the first among equals
pub record IsVictim (bits : ℕ) (e : EntriesView) (b : ℕ) : Type 0 where
  pub candidate : IsCandidate bits e b
  pub most : (a : ℕ) → IsCandidate bits e a
      → (dead_words bits e a < dead_words bits e b) ⊎ ((dead_words bits e a ≡ dead_words bits e b) × (b ≤ a))

-- the words of all buffers together
pub record HasWords (bits : ℕ) (e : EntriesView) (words : WordCounts) : Type 0 where
  pub used : words.used ≡ over_buffers (used_words bits e) e.count
  pub dead : words.dead ≡ over_buffers (dead_words bits e) e.count
  pub held : words.held ≡ over_buffers (held_words bits e) e.count

-- the free buffer with the lowest number
pub record IsLowestFree (e : EntriesView) (b : ℕ) : Type 0 where
  pub below : b < e.count
  pub free : is_state_free (e.mark b).state ≡ true
  pub lowest : (a : ℕ) → a < b → is_state_free (e.mark a).state ≡ false
