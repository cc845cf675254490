-- What a unit preserves of the store, and why a unit is refused.
use Rattle.std.specs.Prelude.{◌≡◌, ℕ, ◌+◌, ◌*◌, ◌<◌, ◌≤◌, true, false, length}
use Rattle.entry_ref.specs.Records.{Records}
use Rattle.arena_api.specs.Generations.{current}
use Rattle.arena_api.specs.Works.{free_count, oldest_of}
use Rattle.arena_api.specs.declared.answers.Oldest.{Oldest}
use Rattle.store_api.specs.Ledgers.{Ledger, active_count, capacity, held_count, is_width}
use Rattle.store_api.specs.Statuses.{Status}
use Rattle.store_api.specs.Units.{IsSameBack, KeepsCommits}
use Rattle.store_api.specs.declared.store.StoreError.{StoreError}
use Rattle.store_api.specs.declared.store.StoreError.TheVariants as errors

-- the store after units: its work has the same commits and readers, no buffer was sealed or finished, and no entry was
-- left out
pub record KeepsStore {H : Type 0} (old new : Ledger H) : Type 0 where
  pub unit : new.unit ≡ old.unit
  pub home : new.work.home ≡ old.work.home
  pub shape : new.shape ≡ old.shape
  pub sizes : new.work.sizes ≡ old.work.sizes
  pub commits : KeepsCommits old.work.commits new.work.commits
  pub told : new.work.told ≡ old.work.told
  pub readers : new.work.made ≡ old.work.made
  pub stops : old.work.stops ≤ new.work.stops
  pub alone : old.work.made ≡ 0 → new.work.stops ≡ old.work.stops
  pub sealed : new.sealed ≡ old.sealed
  pub finished : new.finished ≡ old.finished
  pub left : (r : ℕ) → new.status r ≡ Status.left → old.status r ≡ Status.left

-- each entry has the same status as before, except that one taken or given back since then is free; and each record
-- is the same
pub record LeavesEntries {H : Type 0} (old new : Ledger H) (m n : Records) : Type 0 where
  pub status : (r : ℕ) → IsSameBack (old.status r) (new.status r)
  pub records : n ≡ m

-- the store was full for a width: no buffer is free, and all are active or on hold
pub record IsOutOfRoom {H : Type 0} (old new : Ledger H) (width active held : ℕ) (oldest : Oldest) : Type 0 where
  pub is_width_of : is_width width ≡ true
  -- all entries of its buffers were made
  pub made : (new.of_width width).buffers * capacity new.work.sizes.words width ≤ (new.of_width width).made
  pub free : free_count new.work.buffer new.work.sizes.buffers ≡ 0
  pub active_is : active ≡ active_count new.work.buffer new.work.sizes.buffers
  pub held_is : held ≡ held_count new.work.buffer new.work.sizes.buffers
  pub all : active + held ≡ new.work.sizes.buffers
  pub unread : new.work.made ≡ 0 → current new.work < new.work.sizes.generations → held ≡ 0
  -- the oldest open hold is the newest, or was found in use
  pub generation : oldest.generation ≡ (oldest_of new.work.queue).generation
  pub hold : oldest.hold ≡ (oldest_of new.work.queue).hold
  pub newest : oldest.newest ≡ true → (length new.work.queue ≡ 1) × (oldest.found ≡ 0)
  pub stopped : oldest.newest ≡ false → (1 < length new.work.queue) × (0 < oldest.found) × (old.work.stops < new.work.stops)
  pub found : oldest.newest ≡ false → oldest.found ≡ new.work.found

-- why a unit was refused: there is no space for an entry of a width, or memory is exhausted
abbrev pub RefusesUnit : {H : Type 0} → Ledger H → Ledger H → StoreError → Type 0
RefusesUnit old new (errors.Full width active held oldest) = IsOutOfRoom old new width active held oldest
RefusesUnit old new errors.Memory = Unit {0}
