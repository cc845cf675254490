-- How the calls of a store change its ledger.
use Rattle.std.specs.Prelude.{◌≡◌, ◌≢◌, ◌⊎◌, ℕ, ◌+◌, ◌-◌, ◌*◌, ◌<◌, ◌≤◌, true, false, ◌&&◌, not, nat_eq, if◌then◌else◌, List, [], length, drop}
use Rattle.std.specs.Prelude.{Option, None, Some}
use Rattle.entry_ref.specs.References.{buffer_of}
use Rattle.entry_ref.specs.declared.images.Image.{Image}
use Rattle.entry_ref.specs.Places.{IsEntry}
use Rattle.entry_ref.specs.Records.{Records, Among, with_words}
use Rattle.arena_api.specs.Works.{WorkView, Commits, Tag, active_width, free_count, oldest_of}
use Rattle.arena_api.specs.Calls.{AddsCommit, IsLowestFree, handed_out, padded, published}
use Rattle.arena_api.specs.Generations.{Advances, LetsGo, Reclaims, advanced, current, reclaimed, retired, freed_below, tag_now}
use Rattle.arena_api.specs.declared.answers.Oldest.{Oldest}
use Rattle.store_api.specs.Statuses.{Status, in_use, is_open, is_free_status, is_let_go, after_drop, after_commit, after_accept}
use Rattle.store_api.specs.Statuses.{free_below, with_status}
use Rattle.store_api.specs.Ledgers.{Ledger, OfWidth, active_count, held_count, capacity, is_in, is_this, is_width, one_more, with_counts}
use Rattle.store_api.specs.Units.{KeepsCommits}
use Rattle.store_api.specs.declared.store.Stored.{Stored}
use Rattle.store_api.specs.declared.store.StoreError.{StoreError}
use Rattle.store_api.specs.declared.store.StoreError.TheVariants.{Full, Memory}

-- nothing is made, and entries that become free are spare
pub record GivesBackOf (old new : OfWidth) : Type 0 where
  pub made : new.made ≡ old.made
  pub fresh : new.fresh ≡ old.fresh
  pub filled : new.filled ≡ old.filled
  pub spare : old.spare ≤ new.spare
  pub buffers : new.buffers ≤ old.buffers

-- a reclaim: holds are closed, and what is tagged below the oldest open one becomes free
pub record GivesBack {H : Type 0} (old new : Ledger H) : Type 0 where
  pub closed : ℕ
  pub left : closed < length old.work.queue
  pub queue : new.work.queue ≡ drop closed old.work.queue
  pub buffer : new.work.buffer ≡ (λ b. freed_below (oldest_of new.work.queue).generation (old.work.buffer b))
  pub work : new.work ≡ reclaimed old.work new.work
  pub commits : KeepsCommits old.work.commits new.work.commits
  pub stops : old.work.stops ≤ new.work.stops
  pub alone : old.work.made ≡ 0 → new.work.stops ≡ old.work.stops
  pub status : (r : ℕ) → new.status r ≡ free_below (oldest_of new.work.queue).generation (old.status r)
  pub back : (r : ℕ) → new.back r ≡ free_below (oldest_of new.work.queue).generation (old.back r)
  pub counts : (width : ℕ) → GivesBackOf (old.of_width width) (new.of_width width)
  pub same : new ≡ record old { work = new.work; status = new.status; back = new.back; of_width = new.of_width }

-- there is a reclaim or none
abbrev pub MayGiveBack : {H : Type 0} → Ledger H → Ledger H → Type 0
MayGiveBack old new = (new ≡ old) ⊎ GivesBack old new

-- the counts of a width after an entry is made: from the spare ones, or as the first of this buffer
abbrev pub took_spare : OfWidth → OfWidth
took_spare counts = record counts { made = one_more counts.made; spare = counts.spare - 1; fresh = counts.fresh + 1 }

abbrev pub took_buffer : ℕ → ℕ → OfWidth → OfWidth
took_buffer room b counts = record {
  made = one_more counts.made;
  spare = room - 1;
  fresh = counts.fresh + 1;
  buffers = counts.buffers + 1;
  filled = Some b;
}

-- where a made entry comes from: a spare entry of the width, or, if there is none after a reclaim, a buffer that is
-- handed out
pub record TakesSpare {H : Type 0} (old new : Ledger H) (width : ℕ) : Type 0 where
  pub some : 0 < (old.of_width width).spare
  pub work : new.work ≡ record old.work { stored = new.work.stored }
  pub counts : new.of_width ≡ with_counts old.of_width width (took_spare (old.of_width width))

pub record TakesBuffer {H : Type 0} (bits : ℕ) (old new : Ledger H) (width r : ℕ) : Type 0 where
  pub none : (old.of_width width).spare ≡ 0
  pub lowest : IsLowestFree old.work.buffer old.work.sizes.buffers (buffer_of bits r)
  pub work : new.work ≡ record (handed_out old.work (buffer_of bits r) width) { stored = new.work.stored }
  pub counts : new.of_width
      ≡ with_counts old.of_width width (took_buffer (capacity old.work.sizes.words width) (buffer_of bits r) (old.of_width width))

-- an entry of this width with these words is made
pub record Makes {H : Type 0} (bits : ℕ) (old new : Ledger H) (m n : Records) (width : ℕ) (words : List ℕ) (r : ℕ) : Type 0 where
  pub mid : Ledger H
  pub gives_back : MayGiveBack old mid
  -- a reclaim happens only if the width has no spare entry
  pub needed : (mid ≡ old) ⊎ ((old.of_width width).spare ≡ 0)
  pub was : is_open (mid.status r) ≡ true
  -- an unmade entry is taken only if the width has no free one outside sealed buffers
  pub free_first : mid.status r ≡ Status.unmade → (q : ℕ) → active_width (mid.work.buffer (buffer_of bits q)) ≡ width
      → mid.sealed (buffer_of bits q) ≡ false → mid.status q ≢ Status.free
  pub place : IsEntry bits new.work.sizes.buffers new.work.sizes.words width r
  pub of_width : active_width (new.work.buffer (buffer_of bits r)) ≡ width
  pub unsealed : new.sealed (buffer_of bits r) ≡ false
  pub status : new.status ≡ with_status mid.status r Status.pending
  pub none : m r ≡ []
  pub records : n ≡ with_words m r (padded words width)
  pub from : TakesSpare mid new width ⊎ (GivesBack old mid × TakesBuffer bits mid new width r)

-- the state of a full store, after a reclaim: the width has no spare entry and no buffer is free
pub record IsFull {H : Type 0} (old new : Ledger H) (width active held : ℕ) (oldest : Oldest) : Type 0 where
  pub spare : (new.of_width width).spare ≡ 0
  -- so all entries that fit in the buffers of the width were made
  pub made : (new.of_width width).buffers * capacity new.work.sizes.words width ≤ (new.of_width width).made
  pub free : free_count new.work.buffer new.work.sizes.buffers ≡ 0
  pub active_is : active ≡ active_count new.work.buffer new.work.sizes.buffers
  pub held_is : held ≡ held_count new.work.buffer new.work.sizes.buffers
  pub all : active + held ≡ new.work.sizes.buffers
  pub unread : new.work.made ≡ 0 → current new.work < new.work.sizes.generations → held ≡ 0
  -- the oldest open hold is the newest, or was found in use
  pub generation : oldest.generation ≡ (oldest_of new.work.queue).generation
  pub hold : oldest.hold ≡ (oldest_of new.work.queue).hold
  pub newest : oldest.newest ≡ true → (length new.work.queue ≡ 1) × (oldest.found ≡ 0)
  pub stopped : oldest.newest ≡ false → (1 < length new.work.queue) × (0 < oldest.found) × (old.work.stops < new.work.stops)
  pub found : oldest.newest ≡ false → oldest.found ≡ new.work.found

-- what a refusal means
abbrev pub Refuses : {H : Type 0} → Ledger H → Ledger H → ℕ → StoreError → Type 0
Refuses old new width (Full w active held oldest) = (w ≡ width) × IsFull old new width active held oldest
Refuses old new width Memory = Unit {0}

-- a refusal for lack of space follows a reclaim; a reclaim happens only if the width has no spare entry
abbrev pub ComesAfter : {H : Type 0} → Ledger H → Ledger H → ℕ → StoreError → Type 0
ComesAfter old new width (Full w active held oldest) = GivesBack old new
ComesAfter old new width Memory = (new ≡ old) ⊎ ((old.of_width width).spare ≡ 0)

-- the store was full for one of these widths
pub record IsFullOf {H : Type 0} (among : ℕ → Type 0) (old new : Ledger H) (width active held : ℕ) (oldest : Oldest) : Type 0 where
  pub one : among width
  pub is : is_width width ≡ true
  pub full : IsFull old new width active held oldest

-- a refusal of a change that makes several entries, each of one of these widths
abbrev pub RefusesOf : {H : Type 0} → (ℕ → Type 0) → Ledger H → Ledger H → StoreError → Type 0
RefusesOf among old new (Full width active held oldest) = IsFullOf among old new width active held oldest
RefusesOf among old new Memory = Unit {0}

-- a width of which a record is in use
pub record IsUsedWidth {H : Type 0} (ledger : Ledger H) (m : Records) (width : ℕ) : Type 0 where
  pub ref : ℕ
  pub used : in_use (ledger.status ref) ≡ true
  pub length_is : length (m ref) ≡ width

-- a free entry has no record
abbrev pub without_free : (ℕ → Status) → Records → Records
without_free status m r = if is_free_status (status r) then [] else m r

-- an entry is no longer in use; if it is free at once, it is spare
pub record DropsOf (old new : OfWidth) : Type 0 where
  pub made : new.made ≡ old.made
  pub buffers : new.buffers ≡ old.buffers
  pub filled : new.filled ≡ old.filled
  pub spare : old.spare ≤ new.spare
  pub even : new.spare + new.fresh ≡ old.spare + old.fresh

-- an entry in use is dropped
pub record DropsEntry {H : Type 0} (old new : Ledger H) (m n : Records) (r : ℕ) : Type 0 where
  pub status : new.status ≡ with_status old.status r (after_drop (old.status r) (old.back r))
  pub records : n ≡ without_free new.status m
  pub counts : (width : ℕ) → DropsOf (old.of_width width) (new.of_width width)
  pub same : new ≡ record old { status = new.status; of_width = new.of_width }

-- an entry that was let go has no record
abbrev pub kept_records : {H : Type 0} → Ledger H → Records → Records
kept_records ledger m r = if is_let_go (ledger.status r) then [] else m r

-- a unit ends, and the entries that it frees are spare
pub record EndsOf (old new : OfWidth) : Type 0 where
  pub made : new.made ≡ old.made
  pub buffers : new.buffers ≡ old.buffers
  pub filled : new.filled ≡ old.filled
  pub spare : old.spare ≤ new.spare

-- a unit is accepted: what it let go becomes free
pub record Accepts {H : Type 0} (old new : Ledger H) (m n : Records) : Type 0 where
  pub unit : new.unit ≡ false
  pub status : (r : ℕ) → new.status r ≡ after_accept (old.status r)
  pub records : n ≡ kept_records old m
  pub counts : (width : ℕ) → EndsOf (old.of_width width) (new.of_width width)
  pub work : new.work ≡ old.work
  pub shape : new.shape ≡ old.shape
  pub sealed : new.sealed ≡ old.sealed
  pub finished : new.finished ≡ old.finished

-- a unit is undone: what it made becomes free
pub record Undoes {H : Type 0} (old new : Ledger H) (n : Records) : Type 0 where
  pub unit : new.unit ≡ false
  pub status : new.status ≡ old.back
  pub records : n ≡ old.back_records
  pub counts : (width : ℕ) → EndsOf (old.of_width width) (new.of_width width)
  pub spare : (width : ℕ) → (new.of_width width).spare ≡ (old.of_width width).spare + (old.of_width width).fresh
  pub work : new.work ≡ old.work
  pub shape : new.shape ≡ old.shape
  pub sealed : new.sealed ≡ old.sealed
  pub finished : new.finished ≡ old.finished

-- the image of a commit has all records in use outside sealed buffers, only records in use, and none of the finished
-- buffer
pub record IsWhole {H : Type 0} (bits : ℕ) (ledger : Ledger H) (refs : List ℕ) : Type 0 where
  pub used : (r : ℕ) → Among r refs → in_use (ledger.status r) ≡ true
  pub all : (r : ℕ) → in_use (ledger.status r) ≡ true → ledger.sealed (buffer_of bits r) ≡ false → Among r refs
  pub apart : (r : ℕ) → Among r refs → is_this ledger.finished (buffer_of bits r) ≡ false

-- the finished buffer goes on hold
abbrev pub with_hold : {H : Type 0} → WorkView H → Option ℕ → WorkView H
with_hold work None = work
with_hold work (Some b) = retired work b

-- the statuses after a commit with a tag: the entries of the buffer that goes on hold are no longer entries
abbrev pub committed_status : {H : Type 0} → ℕ → Ledger H → Tag → Image → ℕ → Status
committed_status bits ledger tag image r =
    if is_this ledger.finished (buffer_of bits r) then Status.unmade else after_commit tag (is_in image r) (ledger.status r)

-- a commit: the image is published, what was dropped is tagged, the finished buffer goes on hold, the generation
-- advances, and what no reader can reach is reclaimed; the result holds the results of these calls
pub record StoresCommit {H : Type 0} (bits : ℕ) (old new : Ledger H) (image : Image) (answer : Stored) : Type 0 where
  pub number : answer.commit ≡ old.work.commits.last + 1
  pub commits : Commits
  pub adds : AddsCommit old.work.commits commits image
  pub next : WorkView H
  pub advances : Advances answer.advance (with_hold (published old.work commits image) old.finished) next
  pub advance_keeps : LetsGo commits next.commits
  pub next_is : next ≡ advanced (with_hold (published old.work commits image) old.finished) next
  pub reclaims : Reclaims answer.oldest next new.work
  pub reclaim_keeps : LetsGo next.commits new.work.commits
  pub work : new.work ≡ reclaimed next new.work
  pub stops : old.work.stops ≤ new.work.stops
  pub alone : old.work.made ≡ 0 → new.work.stops ≡ old.work.stops
  pub status : (r : ℕ) → new.status r ≡ free_below (oldest_of new.work.queue).generation
      (committed_status bits old (tag_now (published old.work commits image)) image r)
  pub counts : (width : ℕ) → GivesBackOf (old.of_width width) (new.of_width width)
  pub unit : new.unit ≡ false
  pub shape : new.shape ≡ old.shape
  pub sealed : (b : ℕ) → new.sealed b ≡ (old.sealed b && not (is_this old.finished b))
  pub finished : new.finished ≡ None

-- a width loses the spare entries of a buffer
pub record SealsOf (old new : OfWidth) : Type 0 where
  pub made : new.made ≡ old.made
  pub buffers : new.buffers ≡ old.buffers
  pub filled : new.filled ≡ old.filled
  pub spare : new.spare ≤ old.spare
  pub fresh : new.fresh ≤ old.fresh

-- a buffer is sealed: no entry of it is made from now on
pub record Seals {H : Type 0} (old new : Ledger H) (b : ℕ) : Type 0 where
  pub sealed : (a : ℕ) → new.sealed a ≡ (if nat_eq a b then true else old.sealed a)
  pub counts : (width : ℕ) → SealsOf (old.of_width width) (new.of_width width)
  pub same : new ≡ record old { sealed = new.sealed; of_width = new.of_width }

-- a width gets the spare entries of a buffer back
pub record UnsealsOf (old new : OfWidth) : Type 0 where
  pub made : new.made ≡ old.made
  pub buffers : new.buffers ≡ old.buffers
  pub filled : new.filled ≡ old.filled
  pub spare : old.spare ≤ new.spare
  pub fresh : new.fresh ≡ old.fresh

-- a buffer is no longer sealed: what is free in it can be made again
pub record Unseals {H : Type 0} (old new : Ledger H) (b : ℕ) : Type 0 where
  pub sealed : (a : ℕ) → new.sealed a ≡ (if nat_eq a b then false else old.sealed a)
  pub counts : (width : ℕ) → UnsealsOf (old.of_width width) (new.of_width width)
  pub same : new ≡ record old { sealed = new.sealed; of_width = new.of_width }

-- a sealed buffer that may be used again: it is not finished, and no commit has left out an entry of it
pub record CanUnseal {H : Type 0} (bits : ℕ) (ledger : Ledger H) (b : ℕ) : Type 0 where
  pub unit : ledger.unit ≡ false
  pub sealed : ledger.sealed b ≡ true
  pub unfinished : ledger.finished ≢ Some b
  pub none_left : (r : ℕ) → ledger.status r ≡ Status.left → buffer_of bits r ≢ b
