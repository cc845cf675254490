-- How one batch changes attributes.
use Rattle.std.specs.Prelude.{◌≡◌, ℕ, ◌+◌, ◌*◌, ◌<◌, ◌≤◌, true, List, length, take, None}
use Rattle.entry_ref.specs.declared.images.Image.{Image}
use Rattle.entry_ref.specs.Images.{words_at}
use Rattle.arena_api.specs.Calls.{told_after}
use Rattle.arena_api.specs.Generations.{current}
use Rattle.arena_api.specs.Works.{free_count}
use Rattle.arena_api.specs.declared.answers.Oldest.{Oldest}
use Rattle.store_api.specs.Ledgers.{Ledger, active_count, capacity, held_count, is_width}
use Rattle.attr_types.specs.declared.applied.Applied.{Applied}
use Rattle.attr_types.specs.declared.applied.Applied.TheVariants.{Changed, Skipped}
use Rattle.image_format.specs.Images.{IsLawfulImage, table_of, operations_at}
use Rattle.image_format.specs.Shapes.{shape_of, types_of}
use Rattle.attr_types.specs.Table.{after_ops, skipped_ops}
use Rattle.attr_types.specs.declared.op.Op.{Op}
use Rattle.attribute_kinds.specs.Views.{AttributeView}
use Rattle.attr_loader.specs.Made.{Steps, after_keys, after_root}
use Rattle.attr_loader.specs.Runs.{step_keys}
use Rattle.attr_loader.specs.Loading.{told_of, StaysIn}
use Rattle.attr_loader.specs.Refusals.{IsRefusedCall, IsRefusedCommit}
use Rattle.attr_loader.specs.declared.loaded.NoRoom.{NoRoom}
use Rattle.attr_operations.specs.Calls.{KeepsStore}
use Rattle.attribute_kinds.specs.declared.answers.AttrError.TheVariants as errors
use Rattle.attr_loader.specs.Room.{after_values, is_single_long, values_of, AreSparse, IsMade, IsRefusedBy, LeavesRoom}
use Rattle.attr_loader.specs.declared.error.LoadError.{LoadError}
use Rattle.attr_loader.specs.declared.error.LoadError.TheVariants.{CommitsSpent, Memory}
use Rattle.attr_loader.specs.declared.batch.Batch.{Batch}
use Rattle.attr_loader.specs.declared.batch.Batch.TheVariants.{Done, Full}

-- the number of skipped operations for one result
abbrev pub skips_of : Applied → ℕ
skips_of Skipped = 1
skips_of Changed = 0

module _ {S H : Type 0} (ledger : S → Ledger H) where
  -- the last commit is unchanged
  pub record KeepsCommit (old new : AttributeView S) : Type 0 where
    pub stays : StaysIn ledger old new
    pub told : told_of ledger new ≡ told_of ledger old
    pub last : (ledger new.store).work.commits.last ≡ (ledger old.store).work.commits.last
    pub committed : new.committed ≡ old.committed
    pub committed_operations : new.committed_operations ≡ old.committed_operations

  -- the table and the last commit are unchanged
  pub record KeepsTable (old new : AttributeView S) : Type 0 where
    pub keeps : KeepsCommit old new
    pub table : new.table ≡ old.table
    pub operations : new.operations ≡ old.operations

  -- there is one more commit, of the current table
  pub record MakesCommit (old new : AttributeView S) : Type 0 where
    pub stays : StaysIn ledger old new
    pub table : new.table ≡ old.table
    pub operations : new.operations ≡ old.operations
    pub committed : new.committed ≡ new.table
    pub committed_operations : new.committed_operations ≡ new.operations
    pub number : (ledger new.store).work.commits.last ≡ (ledger old.store).work.commits.last + 1
    pub image : Image
    pub told : told_of ledger new ≡ told_after (told_of ledger old) image
    pub lawful : IsLawfulImage (shape_of (types_of new.fields)) (words_at image) image.root
    pub image_operations : operations_at (words_at image) image.root ≡ new.operations
    pub image_table : table_of (shape_of (types_of new.fields)) (words_at image) image.root ≡ new.table

  -- all operations were applied, and this many of them skipped
  pub record AppliesAll (old new : AttributeView S) (ops : List Op) (skipped : ℕ) : Type 0 where
    pub keeps : KeepsCommit old new
    pub table : new.table ≡ after_ops old.fields old.table ops
    pub operations : new.operations ≡ old.operations + length ops
    pub skips : skipped ≡ skipped_ops old.fields old.table ops

  -- no buffer is free: this many are in use, and the others are held for readers
  pub record IsFullStore (a : AttributeView S) (active held : ℕ) : Type 0 where
    pub free : free_count (ledger a.store).work.buffer (ledger a.store).work.sizes.buffers ≡ 0
    pub active_is : active ≡ active_count (ledger a.store).work.buffer (ledger a.store).work.sizes.buffers
    pub held_is : held ≡ held_count (ledger a.store).work.buffer (ledger a.store).work.sizes.buffers
    pub all : active + held ≡ (ledger a.store).work.sizes.buffers
    pub unread : (ledger a.store).work.made ≡ 0 → current (ledger a.store).work < (ledger a.store).work.sizes.generations → held ≡ 0

  -- there was no space for one of the operations, after those applied before it; or for their commit, and then the last is
  -- named
  pub record FindsNoRoom (old new : AttributeView S) (ops : List Op) (number active held : ℕ) : Type 0 where
    pub keeps : KeepsCommit old new
    pub some : 1 ≤ number
    pub most : number ≤ length ops
    pub full : IsFullStore new active held
    pub applied : ℕ
    pub table : new.table ≡ after_ops old.fields old.table (take applied ops)
    pub operations : new.operations ≡ old.operations + applied
    pub fits : applied ≤ length ops
    pub refused : IsRefusedCall new.fields new.dense new.table ops applied (length ops) (ledger new.store)
        (record { operation = number; active = active; held = held })

  -- there was no space for the root record of a commit, and the attributes are as they were
  pub record CannotCommit (old new : AttributeView S) (active held : ℕ) : Type 0 where
    pub keeps : KeepsTable old new
    pub full : IsFullStore new active held
    pub store : KeepsStore (ledger old.store) (ledger new.store)
    pub width : ℕ
    pub oldest : Oldest
    pub refuses : IsRefusedCommit (ledger old.store) (ledger new.store) new.fields (errors.Full width active held oldest)

  -- memory was exhausted, or the last possible commit is made
  abbrev pub HasNoCommit : AttributeView S → LoadError → Type 0
  HasNoCommit old CommitsSpent = (ledger old.store).work.commits.last ≡ (ledger old.store).work.sizes.commits
  HasNoCommit old Memory = Unit {0}

  abbrev pub AppliesBatch : AttributeView S → AttributeView S → List Op → Batch → Type 0
  AppliesBatch old new ops (Done skipped) = AppliesAll old new ops skipped
  AppliesBatch old new ops (Full number active held) = FindsNoRoom old new ops number active held

  -- a commit of this many operations, with this many skipped
  abbrev pub CommitsBatch : AttributeView S → AttributeView S → ℕ → ℕ → Batch → Type 0
  CommitsBatch old new count skipped (Done more) = (more ≡ skipped) × MakesCommit old new
  CommitsBatch old new count skipped (Full number active held) = (number ≡ count) × CannotCommit old new active held

  -- the store of one attribute has made at most these steps more, after any steps before
  abbrev pub AddsSteps : AttributeView S → AttributeView S → (Steps → Steps) → Type 0
  AddsSteps old new more = (steps : Steps) → IsMade old.dense (ledger old.store) old.fields old.table steps
      → IsMade new.dense (ledger new.store) new.fields new.table (more steps)

  -- the same for a store that refused an entry of some width: all entries of its buffers were made
  pub record RefusesSteps (old new : AttributeView S) (more : Steps → Steps) : Type 0 where
    pub width : ℕ
    pub is : is_width width ≡ true
    pub whole : ((ledger new.store).of_width width).buffers * capacity (ledger new.store).work.sizes.words width
        ≤ ((ledger new.store).of_width width).made
    pub adds : (steps : Steps) → IsMade old.dense (ledger old.store) old.fields old.table steps
        → IsRefusedBy new.dense (ledger new.store) new.fields new.table (more steps) width

  -- the same while these steps leave room and are sparse: if no compaction is in progress, none is begun
  abbrev pub AddsQuietly : AttributeView S → AttributeView S → (Steps → Steps) → Type 0
  AddsQuietly old new more = old.plan ≡ None → (steps : Steps) → IsMade old.dense (ledger old.store) old.fields old.table steps
      → LeavesRoom (ledger old.store).work.sizes.words (is_single_long old.fields) (more steps) → AreSparse old.dense (more steps)
      → (new.plan ≡ None) × IsMade new.dense (ledger new.store) new.fields new.table (more steps)

  -- for operations, with the refused one; for a commit, without and with the keys after it; and for both
  abbrev pub AppliesRoom : AttributeView S → AttributeView S → List Op → Batch → Type 0
  AppliesRoom old new ops (Done skipped) =
      (new.plan ≡ old.plan) × AddsSteps old new (λ steps. after_values steps (values_of old.fields old.table ops))
  AppliesRoom old new ops (Full number active held) =
      RefusesSteps old new (λ steps. after_values steps (values_of old.fields old.table (take number ops)))

  abbrev pub CommitsRoot : AttributeView S → AttributeView S → Batch → Type 0
  CommitsRoot old new (Done skipped) = (new.plan ≡ old.plan) × AddsSteps old new after_root
  CommitsRoot old new (Full number active held) = RefusesSteps old new after_root

  abbrev pub CommitsRoom : AttributeView S → AttributeView S → Batch → Type 0
  CommitsRoom old new (Done skipped) =
      AddsSteps old new (λ steps. after_keys (after_root steps) step_keys) × AddsQuietly old new after_root
  CommitsRoom old new (Full number active held) = RefusesSteps old new after_root

  abbrev pub LoadsRoom : AttributeView S → AttributeView S → List Op → Batch → Type 0
  LoadsRoom old new ops (Done skipped) =
      AddsSteps old new (λ steps. after_keys (after_root (after_values steps (values_of old.fields old.table ops))) step_keys)
      × AddsQuietly old new (λ steps. after_root (after_values steps (values_of old.fields old.table ops)))
  LoadsRoom old new ops (Full number active held) =
      RefusesSteps old new (λ steps. after_root (after_values steps (values_of old.fields old.table (take number ops))))

  -- all operations were applied and committed
  pub record LoadsAll (old new : AttributeView S) (ops : List Op) (skipped : ℕ) : Type 0 where
    pub mid : AttributeView S
    pub applies : AppliesAll old mid ops skipped
    pub commits : MakesCommit mid new

  abbrev pub LoadsBatch : AttributeView S → AttributeView S → List Op → Batch → Type 0
  LoadsBatch old new ops (Done skipped) = LoadsAll old new ops skipped
  LoadsBatch old new ops (Full number active held) = FindsNoRoom old new ops number active held
