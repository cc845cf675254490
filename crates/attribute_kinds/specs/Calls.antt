-- How an operation and a commit change attributes, and what a refusal preserves.
use Rattle.std.specs.Prelude.{◌≡◌, ℕ, ◌+◌, ◌*◌, ◌<◌, if◌then◌else◌, List, length}
use Rattle.entry_ref.specs.declared.images.Image.{Image}
use Rattle.entry_ref.specs.Images.{words_at}
use Rattle.arena_api.specs.Works.{free_count, last_image}
use Rattle.arena_api.specs.declared.answers.Oldest.{Oldest}
use Rattle.store_api.specs.Calls.{StoresCommit}
use Rattle.store_api.specs.Ledgers.{Ledger}
use Rattle.attr_types.specs.declared.applied.Applied.{Applied}
use Rattle.attr_types.specs.declared.applied.Applied.TheVariants.{Changed, Skipped}
use Rattle.image_format.specs.Images.{IsLawfulImage, table_of, operations_at}
use Rattle.image_format.specs.Shapes.{shape_of, types_of}
use Rattle.image_format.specs.Words.{class_of}
use Rattle.attr_types.specs.Table.{Table, is_skipped}
use Rattle.attr_types.specs.declared.field.Field.{Field}
use Rattle.attr_types.specs.declared.op.Op.{Op}
use Rattle.attribute_kinds.specs.declared.answers.AttrError.{AttrError}
use Rattle.attribute_kinds.specs.declared.answers.AttrError.TheVariants.{Full, CommitsSpent, Memory}
use Rattle.attribute_kinds.specs.declared.answers.CommitInfo.{CommitInfo}
use Rattle.attr_operations.specs.Calls.{IsOutOfRoom}
pub use Rattle.attr_operations.specs.Calls.{KeepsStore}
pub use Rattle.compaction_steps.specs.Compactions.{KeepsStoreBut}

-- the result of an operation
abbrev pub applied_to : List Field → Table → Op → Applied
applied_to fields table op = if is_skipped fields table op then Skipped else Changed

-- why an operation was refused
abbrev pub RefusesOperation : {H : Type 0} → Ledger H → Ledger H → AttrError → Type 0
RefusesOperation old new (Full width active held oldest) = IsOutOfRoom old new width active held oldest
RefusesOperation old new (CommitsSpent commit) = ⊥
RefusesOperation old new Memory = Unit {0}

-- why a commit was refused: the last possible commit is made; or the store was full for the root record, and no
-- buffer was free before
pub record IsFullCommit {H : Type 0} (old new : Ledger H) (width active held : ℕ) (oldest : Oldest) : Type 0 where
  pub left : old.work.commits.last < old.work.sizes.commits
  pub room : IsOutOfRoom old new width active held oldest
  pub spare : (new.of_width width).spare ≡ 0
  pub before : free_count old.work.buffer old.work.sizes.buffers ≡ 0

pub record HasNoCommitLeft {H : Type 0} (old : Ledger H) (commit : ℕ) : Type 0 where
  pub last : old.work.commits.last ≡ old.work.sizes.commits
  pub number : commit ≡ old.work.commits.last

abbrev pub RefusesCommit : {H : Type 0} → Ledger H → Ledger H → AttrError → Type 0
RefusesCommit old new (Full width active held oldest) = IsFullCommit old new width active held oldest
RefusesCommit old new (CommitsSpent commit) = HasNoCommitLeft old commit
RefusesCommit old new Memory = Unit {0}

-- if the store was full, it was full for the root record: the operations, and two roots of each attribute
abbrev pub IsForRoot : List Field → AttrError → Type 0
IsForRoot fields (Full width active held oldest) = width ≡ class_of (1 + 2 * length fields)
IsForRoot fields (CommitsSpent commit) = Unit {0}
IsForRoot fields Memory = Unit {0}

-- an image was committed by the store, after a unit in which its root record was made
pub record CommitsImage {H : Type 0} (bits : ℕ) (old new : Ledger H) (image : Image) (info : CommitInfo) : Type 0 where
  pub mid : Ledger H
  pub prepares : KeepsStore old mid
  pub stores : StoresCommit bits mid new image (record { commit = info.commit; advance = info.advance; oldest = info.oldest })

-- the last commit of a store represents this table, after this many operations
pub record HasCommit {H : Type 0} (ledger : Ledger H) (fields : List Field) (root : ℕ) (table : Table) (operations : ℕ) : Type 0 where
  pub root_is : (last_image ledger.work.commits).root ≡ root
  pub lawful : IsLawfulImage (shape_of (types_of fields)) (words_at (last_image ledger.work.commits)) root
  pub table_is : table_of (shape_of (types_of fields)) (words_at (last_image ledger.work.commits)) root ≡ table
  pub operations_are : operations_at (words_at (last_image ledger.work.commits)) root ≡ operations
