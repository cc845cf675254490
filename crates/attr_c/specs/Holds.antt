-- What is noted of the holds for a monitor.
use Rattle.std.specs.Prelude.{◌≡◌, ◌+◌, ◌%◌, ◌^◌, ℕ, if◌then◌else◌, slice_index, slice_set}
use Rattle.arena_api.specs.Calls.{told_after}
use Rattle.arena_api.specs.Works.{last_image}
use Rattle.arena_api.specs.declared.answers.Advance.{Advance}
use Rattle.arena_api.specs.declared.answers.Advance.TheVariants.{To, NoHold, Spent}
use Rattle.arena_api.specs.declared.answers.Oldest.{Oldest}
use Rattle.attr_c.specs.declared.state.Counts.{Counts}
use Rattle.attr_c.specs.declared.told.Told.{Told}
use Rattle.attribute_kinds.specs.Calls.{CommitsImage}
use Rattle.attribute_kinds.specs.declared.answers.CommitInfo.{CommitInfo}
use Rattle.store_api.specs.Ledgers.{Ledger}

-- the earliest commit on which the oldest reader may stand, 0 without such a hold, and whether there is such a reader
abbrev pub with_oldest : Counts → Oldest → Counts
with_oldest counts oldest = record counts {
  oldest = slice_index counts.since oldest.hold;
  is_held = if oldest.newest then 0 else 1;
}

-- a new hold began with this commit; nothing is noted where none began
abbrev pub with_hold : Counts → Advance → ℕ → Counts
with_hold counts (To generation hold) commit = record counts { since = slice_set counts.since hold commit }
with_hold counts (NoHold holds found) commit = counts
with_hold counts (Spent generation) commit = counts

-- a commit of so many operations, and what readers hold after it
abbrev pub noted_commit : CommitInfo → Counts → Counts
noted_commit info counts = record (with_oldest (with_hold counts info.advance info.commit) info.oldest) {
  commit = info.commit;
  committed = info.operations;
}

-- more operations changed nothing
abbrev pub with_skipped : ℕ → Counts → Counts
with_skipped more counts = record counts { skipped = (counts.skipped + more) % 2 ^ 64 }

-- a commit of the store, as it is counted and told
pub record CommitsAs {H : Type 0} (bits : ℕ) (old new : Ledger H) (before after : Counts) (told : Told) : Type 0 where
  pub info : CommitInfo
  pub commits : CommitsImage bits old new (last_image new.work.commits) info
  pub number : info.commit ≡ old.work.commits.last + 1
  pub readers_told : new.work.told ≡ told_after old.work.told (last_image new.work.commits)
  pub counts_are : after ≡ noted_commit info before
  pub commit_is : told.commit ≡ info.commit
  pub operations_are : told.operations ≡ info.operations
  pub oldest_is : told.oldest ≡ after.oldest
  pub is_held_is : told.is_held ≡ after.is_held
