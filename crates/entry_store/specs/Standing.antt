-- How a store sees its work and its entries, and the invariant between them.
use Rattle.std.specs.Prelude.{◌≡◌, ℕ, ◌+◌, ◌<◌, ◌≤◌, Bool, true, false, ◌&&◌, ◌||◌, not, nat_eq, if◌then◌else◌, List, []}
use Rattle.std.specs.Prelude.{length, Option, Some, None, option_map}
use Rattle.entry_ref.specs.References.{buffer_of}
use Rattle.entry_ref.specs.Images.{words_at}
use Rattle.entry_ref.specs.Records.{Records, with_words}
use Rattle.arena_api.specs.Works.{WorkView, Commits, Hold, Buffer, Tag, active_width, last_image, oldest_of}
use Rattle.arena_api.specs.Calls.{IsKept, InNoCommit, padded}
use Rattle.arena_api.specs.Generations.{current}
use Rattle.store_api.specs.Statuses.{Status, has_record, is_committed, is_uncommitted}
use Rattle.store_api.specs.Ledgers.{Ledger, all_later, is_in, is_held}
use Rattle.buffer_states.specs.Buffers.{is_state_free, is_state_active, is_on_hold}
use Rattle.entry_ledger.specs.declared.state.State.{State}
use Rattle.entry_ledger.specs.declared.state.State.TheVariants.{Free, Returned, Made, InUse, LetGo, DroppedNow, Dropped}
use Rattle.entry_ledger.specs.States.{undone}
use Rattle.entry_ledger.specs.Entries.{EntriesView, Mark, IsGood, is_settled_entry}
use Rattle.entry_ledger.specs.Calls.{CanTake, made_at}

-- the tag of what is dropped in a generation, after a commit
abbrev pub tag_at : ℕ → ℕ → Tag
tag_at generation after = record { generation = generation; commit = after + 1 }

-- the status of an entry by its state, the last commit, and whether that has the entry
abbrev pub status_by : Bool → ℕ → State → Status
status_by has last Free = Status.free
status_by has last Returned = Status.free
status_by has last Made = Status.pending
status_by has last (InUse after) = if nat_eq after last then Status.pending else (if has then Status.live else Status.left)
status_by has last LetGo = Status.let_go
status_by has last (DroppedNow after) = Status.dropped
status_by has last (Dropped after generation) = if nat_eq after last then Status.dropped else Status.held (tag_at generation after)

abbrev pub status_of : Bool → ℕ → Option State → Status
status_of has last None = Status.unmade
status_of has last (Some state) = status_by has last state

-- the status that an undo restores
abbrev pub back_of : Bool → ℕ → Option State → Status
back_of has last state = status_of has last (option_map (undone last) state)

-- the statuses of all entries, for these commits
abbrev pub statuses : Commits → EntriesView → ℕ → Status
statuses commits e r = status_of (is_in (last_image commits) r) e.last (e.state r)

abbrev pub backs : Commits → EntriesView → ℕ → Status
backs commits e r = back_of (is_in (last_image commits) r) e.last (e.state r)

-- the records by these statuses
abbrev pub records_by_status : (ℕ → Status) → Records → Records
records_by_status status m r = if has_record (status r) then m r else []

-- the ledger of a store over a work with these records
abbrev pub ledger_of : {H : Type 0} → ℕ → WorkView H → ℕ → Records → EntriesView → Bool → Ledger H
ledger_of bits work shape m e unit = record {
  work = work;
  shape = shape;
  bits = bits;
  unit = unit;
  status = statuses work.commits e;
  back = backs work.commits e;
  back_records = records_by_status (backs work.commits e) m;
  of_width = e.of_width;
  sealed = λ b. (e.mark b).sealed;
  finished = e.finished;
}

-- the mark of a buffer agrees with the buffer of the work
abbrev pub is_mark_of : Mark → Buffer → Bool
is_mark_of mark (Buffer.free tag) = is_state_free mark.state
is_mark_of mark (Buffer.active width tag) = is_state_active mark.state && nat_eq mark.width width
is_mark_of mark (Buffer.held width tag) = is_on_hold mark.state && (nat_eq mark.width width && nat_eq mark.generation tag.generation)

-- no kept commit from the tag's on has the entry, and readers of later generations have only such commits
pub record IsOut (commits : Commits) (queue : List Hold) (tag : Tag) (r : ℕ) : Type 0 where
  pub unused : (n : ℕ) → IsKept commits n → tag.commit ≤ n → words_at (commits.image n) r ≡ []
  pub later : all_later tag queue ≡ true
  pub commit : tag.commit ≤ commits.last

-- what was dropped after the last commit was dropped in the current generation
abbrev pub is_in_generation : ℕ → ℕ → Option State → Bool
is_in_generation last generation None = true
is_in_generation last generation (Some (Dropped after g)) = not (nat_eq after last) || nat_eq g generation
is_in_generation last generation (Some state) = true

-- what the statuses of entries imply for the records and the commits
pub record AreSoundStatuses {H : Type 0} (bits : ℕ) (work : WorkView H) (m : Records) (status : ℕ → Status) : Type 0 where
  pub there : (r : ℕ) → has_record (status r) ≡ true → 0 < length (m r)
  pub committed : (r : ℕ) → is_committed (status r) ≡ true → m r ≡ words_at (last_image work.commits) r
  pub unkept : (r : ℕ) → 0 < active_width (work.buffer (buffer_of bits r)) → buffer_of bits r < work.sizes.buffers
      → is_uncommitted (status r) ≡ true → InNoCommit work.commits r
  pub out : (r : ℕ) (tag : Tag) → status r ≡ Status.held tag → IsOut work.commits work.queue tag r

-- the work and the entries belong to one store, except that the oldest holds may have been closed since
pub record IsOver {H : Type 0} (bits : ℕ) (work : WorkView H) (m : Records) (e : EntriesView) (unit : Bool) : Type 0 where
  pub good : IsGood bits e
  pub count : e.count ≡ work.sizes.buffers
  pub words : e.words ≡ work.sizes.words
  pub last : e.last ≡ work.commits.last
  pub generation : e.generation ≡ current work
  pub marks : (b : ℕ) → b < work.sizes.buffers → is_mark_of (e.mark b) (work.buffer b) ≡ true
  pub sound : AreSoundStatuses bits work m (statuses work.commits e)
  pub since : (r : ℕ) → is_in_generation e.last e.generation (e.state r) ≡ true
  pub settled : unit ≡ false → (r : ℕ) → is_settled_entry (e.state r) ≡ true
  pub no_fresh : unit ≡ false → (w : ℕ) → (e.of_width w).fresh ≡ 0
  pub left_out : (r : ℕ) → statuses work.commits e r ≡ Status.left → (e.mark (buffer_of bits r)).sealed ≡ true

-- the work and the entries belong to one store
pub record Stands {H : Type 0} (bits : ℕ) (work : WorkView H) (m : Records) (e : EntriesView) (unit : Bool) : Type 0 where
  pub good : IsGood bits e
  pub count : e.count ≡ work.sizes.buffers
  pub words : e.words ≡ work.sizes.words
  pub last : e.last ≡ work.commits.last
  pub generation : e.generation ≡ current work
  pub oldest : e.oldest ≡ (oldest_of work.queue).generation
  pub marks : (b : ℕ) → b < work.sizes.buffers → is_mark_of (e.mark b) (work.buffer b) ≡ true
  pub sound : AreSoundStatuses bits work m (statuses work.commits e)
  pub since : (r : ℕ) → is_in_generation e.last e.generation (e.state r) ≡ true
  -- if no unit is open, no unit has changed an entry
  pub settled : unit ≡ false → (r : ℕ) → is_settled_entry (e.state r) ≡ true
  pub no_fresh : unit ≡ false → (w : ℕ) → (e.of_width w).fresh ≡ 0
  -- what a commit left out lies in a sealed buffer
  pub left_out : (r : ℕ) → statuses work.commits e r ≡ Status.left → (e.mark (buffer_of bits r)).sealed ≡ true
  -- each generation ended with a commit
  pub timely : current work ≤ work.commits.last
  pub unread : (b : ℕ) → b < work.sizes.buffers → work.made ≡ 0 → current work < work.sizes.generations → is_held (work.buffer b) ≡ false

-- an entry is taken, and its record is put into the work
pub record Puts {H : Type 0} (bits : ℕ) (old new : WorkView H) (m n : Records) (before after : EntriesView) (width : ℕ) (words : List ℕ)
    (r : ℕ) : Type 0 where
  pub can : CanTake bits before width r
  pub made : after ≡ made_at before width r
  pub work : new ≡ record old { stored = new.stored }
  pub records : n ≡ with_words m r (padded words width)
