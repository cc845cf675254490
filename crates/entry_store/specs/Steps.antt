-- The steps of the calls of a store, by its ledger.
use Rattle.std.specs.Prelude.{◌≡◌, ◌≢◌, ℕ, ◌+◌, ◌<◌, ◌≤◌, true, false, ◌&&◌, not, if◌then◌else◌, List, [], length, Option, None, Some}
use Rattle.entry_ref.specs.References.{buffer_of}
use Rattle.entry_ref.specs.declared.images.Image.{Image}
use Rattle.entry_ref.specs.Places.{IsEntry}
use Rattle.entry_ref.specs.Records.{Records, with_words}
use Rattle.arena_api.specs.Works.{WorkView, active_width, free_count, oldest_of}
use Rattle.arena_api.specs.Calls.{AddsCommit, IsLowestFree, handed_out, padded, published}
use Rattle.arena_api.specs.Generations.{Advances, LetsGo, Reclaims, advanced, reclaimed, tag_now}
use Rattle.arena_api.specs.declared.answers.Advance.{Advance}
use Rattle.arena_api.specs.declared.answers.Advance.TheVariants.{To, NoHold, Spent}
use Rattle.arena_api.specs.declared.answers.Oldest.{Oldest}
use Rattle.store_api.specs.Statuses.{Status, is_open, after_commit, free_below, with_status}
use Rattle.store_api.specs.Ledgers.{Ledger, active_count, held_count, capacity, is_in, is_this, with_counts}
use Rattle.store_api.specs.Units.{IsSameBack}
use Rattle.store_api.specs.Calls.{TakesSpare, GivesBackOf, with_hold}
use Rattle.store_api.specs.declared.store.Stored.{Stored}
use Rattle.store_api.specs.declared.store.StoreError.{StoreError}
use Rattle.store_api.specs.declared.store.StoreError.TheVariants.{Full, Memory}
use Rattle.entry_ledger.specs.Entries.{EntriesView}
use Rattle.entry_ledger.specs.Calls.{retired_at}

-- a spare entry of the width is made
pub record TakesOne {H : Type 0} (bits : ℕ) (old new : Ledger H) (m n : Records) (width : ℕ) (words : List ℕ) (r : ℕ) : Type 0 where
  pub was : is_open (old.status r) ≡ true
  pub free_first : old.status r ≡ Status.unmade → (q : ℕ) → active_width (old.work.buffer (buffer_of bits q)) ≡ width
      → old.sealed (buffer_of bits q) ≡ false → old.status q ≢ Status.free
  pub place : IsEntry bits new.work.sizes.buffers new.work.sizes.words width r
  pub of_width : active_width (new.work.buffer (buffer_of bits r)) ≡ width
  pub unsealed : new.sealed (buffer_of bits r) ≡ false
  pub status : new.status ≡ with_status old.status r Status.pending
  pub none : m r ≡ []
  pub records : n ≡ with_words m r (padded words width)
  pub takes : TakesSpare old new width
  pub back : (q : ℕ) → IsSameBack (old.back q) (new.back q)
  pub back_was : is_open (old.back r) ≡ true
  pub back_other : (q : ℕ) → q ≢ r → new.back q ≡ old.back q
  pub opened : is_open (new.back r) ≡ true
  pub same : new ≡ record old { work = new.work; status = new.status; back = new.back; of_width = new.of_width }

-- a buffer is handed out for a width
pub record OpensBuffer {H : Type 0} (old new : Ledger H) (width : ℕ) : Type 0 where
  pub buffer : ℕ
  pub lowest : IsLowestFree old.work.buffer old.work.sizes.buffers buffer
  pub work : new.work ≡ handed_out old.work buffer width
  pub counts : new.of_width ≡ with_counts old.of_width width (record (old.of_width width) {
    spare = capacity old.work.sizes.words width;
    buffers = (old.of_width width).buffers + 1;
    filled = Some buffer;
  })
  pub same : new ≡ record old { work = new.work; of_width = new.of_width }

-- a buffer is handed out, and an entry is made in it
pub record MakesOpened {H : Type 0} (bits : ℕ) (old new : Ledger H) (m n : Records) (width : ℕ) (words : List ℕ) (r : ℕ) : Type 0 where
  pub opened : Ledger H
  pub opens : OpensBuffer old opened width
  pub takes : TakesOne bits opened new m n width words r

-- what a reclaim returns about the oldest hold that is left
pub record TellsOldest {H : Type 0} (old new : WorkView H) (oldest : Oldest) : Type 0 where
  pub generation : oldest.generation ≡ (oldest_of new.queue).generation
  pub hold : oldest.hold ≡ (oldest_of new.queue).hold
  pub newest : oldest.newest ≡ true → (length new.queue ≡ 1) × (oldest.found ≡ 0)
  pub stopped : oldest.newest ≡ false → (1 < length new.queue) × (0 < oldest.found) × (old.stops < new.stops)
  pub found : oldest.newest ≡ false → oldest.found ≡ new.found

-- why no buffer was handed out
abbrev pub FullAs : {H : Type 0} → WorkView H → ℕ → Oldest → StoreError → Type 0
FullAs work width oldest (Full w active held answer) =
    (w ≡ width) × (free_count work.buffer work.sizes.buffers ≡ 0) × (active ≡ active_count work.buffer work.sizes.buffers)
    × (held ≡ held_count work.buffer work.sizes.buffers) × (answer ≡ oldest)
FullAs work width oldest Memory = Unit {0}

-- a commit is published and recorded
pub record Publishes {H : Type 0} (old new : Ledger H) (image : Image) (number : ℕ) : Type 0 where
  pub number_is : number ≡ old.work.commits.last + 1
  pub adds : AddsCommit old.work.commits new.work.commits image
  pub work : new.work ≡ published old.work new.work.commits image
  pub status : (r : ℕ) → new.status r ≡ after_commit (tag_now new.work) (is_in image r) (old.status r)
  pub same : new ≡ record old { work = new.work; status = new.status; back = new.back; back_records = new.back_records }

-- the end of a commit: the finished buffer goes on hold, the generation advances, and what no reader can reach is
-- reclaimed
pub record EndsCommit {H : Type 0} (bits : ℕ) (old new : Ledger H) (answer : Stored) : Type 0 where
  pub next : WorkView H
  pub advances : Advances answer.advance (with_hold old.work old.finished) next
  pub advance_keeps : LetsGo old.work.commits next.commits
  pub next_is : next ≡ advanced (with_hold old.work old.finished) next
  pub reclaims : Reclaims answer.oldest next new.work
  pub reclaim_keeps : LetsGo next.commits new.work.commits
  pub work : new.work ≡ reclaimed next new.work
  pub stops : old.work.stops ≤ new.work.stops
  pub alone : old.work.made ≡ 0 → new.work.stops ≡ old.work.stops
  pub status : (r : ℕ) → new.status r ≡ free_below (oldest_of new.work.queue).generation
      (if is_this old.finished (buffer_of bits r) then Status.unmade else old.status r)
  pub counts : (width : ℕ) → GivesBackOf (old.of_width width) (new.of_width width)
  pub unit : new.unit ≡ false
  pub shape : new.shape ≡ old.shape
  pub sealed : (b : ℕ) → new.sealed b ≡ (old.sealed b && not (is_this old.finished b))
  pub finished : new.finished ≡ None

-- the finished buffer goes on hold
abbrev pub retired_by : ℕ → EntriesView → Option ℕ → EntriesView
retired_by bits e None = e
retired_by bits e (Some b) = retired_at bits e b

-- the current generation after an advance
abbrev pub generation_by : Advance → ℕ → ℕ
generation_by (To generation hold) now = generation
generation_by (NoHold holds found) now = now
generation_by (Spent generation) now = now
