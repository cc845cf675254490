-- What the calls of a unit preserve, and how many entries they make.
use Rattle.std.specs.Prelude.{◌≡◌, ◌⊎◌, ℕ, ◌+◌, ◌*◌, ◌<◌, ◌≤◌, true, min}
use Rattle.entry_ref.specs.References.{buffer_of}
use Rattle.arena_api.specs.Works.{Commits, Tag, last_image, newest_of, oldest_of}
use Rattle.store_api.specs.Statuses.{Status, in_use, is_open, is_taken, can_become_free}
use Rattle.store_api.specs.Ledgers.{Ledger, OfWidth, capacity}

-- only old commits are released
pub record KeepsCommits (old new : Commits) : Type 0 where
  pub last : new.last ≡ old.last
  pub image : last_image new ≡ last_image old
  pub rises : old.floor ≤ new.floor
  pub kept : (n : ℕ) → new.floor ≤ n → n ≤ old.last → new.image n ≡ old.image n

-- an undo restores the same status, except that an offset taken since then, or an entry no longer held, is free
abbrev pub IsSameBack : Status → Status → Type 0
IsSameBack old new = (new ≡ old) ⊎ ((can_become_free old ≡ true) × (new ≡ Status.free))

-- what `make` and `drop_entry` may do within a unit
pub record MayDo {H : Type 0} (old new : Ledger H) : Type 0 where
  pub unit : new.unit ≡ old.unit
  pub home : new.work.home ≡ old.work.home
  pub shape : new.shape ≡ old.shape
  pub bits : new.bits ≡ old.bits
  pub sizes : new.work.sizes ≡ old.work.sizes
  pub commits : KeepsCommits old.work.commits new.work.commits
  pub told : new.work.told ≡ old.work.told
  pub readers : new.work.made ≡ old.work.made
  pub stops : old.work.stops ≤ new.work.stops
  pub alone : old.work.made ≡ 0 → new.work.stops ≡ old.work.stops
  pub newest : newest_of new.work.queue ≡ newest_of old.work.queue
  pub sealed : new.sealed ≡ old.sealed
  pub finished : new.finished ≡ old.finished
  pub made : (width : ℕ) → (old.of_width width).made ≤ (new.of_width width).made
  pub back : (r : ℕ) → IsSameBack (old.back r) (new.back r)
  -- an undo makes a held entry free only if its tag is below the oldest open hold, which may have risen
  pub oldest : (oldest_of old.work.queue).generation ≤ (oldest_of new.work.queue).generation
  pub held : (r : ℕ) (tag : Tag) → old.back r ≡ Status.held tag → new.back r ≡ Status.free
      → tag.generation < (oldest_of new.work.queue).generation
  -- an undo makes an unmade offset free only if it was taken; what is taken stays taken
  pub taken : (r : ℕ) → old.back r ≡ Status.unmade → new.back r ≡ Status.free → is_taken (new.status r) ≡ true
  pub stays : (r : ℕ) → is_taken (old.status r) ≡ true → is_taken (new.status r) ≡ true
  pub back_records : new.back_records ≡ old.back_records
  -- an entry that comes into use was made by the unit
  pub newly : (r : ℕ) → in_use (new.status r) ≡ true → (in_use (old.status r) ≡ true) ⊎ (is_open (new.back r) ≡ true)
  -- such an entry lies in no sealed buffer
  pub unsealed : (r : ℕ) → in_use (new.status r) ≡ true → new.sealed (buffer_of new.bits r) ≡ true → in_use (old.status r) ≡ true

-- at most `most` entries of one width were made; a buffer was handed out only if no entry was spare, so for at most
-- as many entries as fit in a buffer, at most one buffer was handed out
pub record MakesAtMost (capacity most : ℕ) (old new : OfWidth) : Type 0 where
  pub made : new.made ≤ old.made + most
  pub fresh : new.fresh ≤ old.fresh + most
  pub buffers : new.buffers ≤ old.buffers + most
  pub room : new.buffers * capacity + min old.spare capacity ≤ most + min new.spare capacity + old.buffers * capacity

-- at most this many entries of each width were made
pub record MakesWithin {H : Type 0} (old new : Ledger H) (most : ℕ → ℕ) : Type 0 where
  pub each : (width : ℕ) → MakesAtMost (capacity old.work.sizes.words width) (most width) (old.of_width width) (new.of_width width)
