-- How a loading changes attributes and the recorded images of their store.
use Rattle.std.specs.Prelude.{◌≡◌, false, ℕ, suc, ◌+◌, ◌-◌, ◌*◌, ◌/◌, ◌^◌, ◌<◌, ◌≤◌, min, List, [], length, slice_get, Option, Some, None}
use Rattle.std.specs.Prelude.{All, IfSome}
use Rattle.std.specs.List.{AllByRecursion}
use Rattle.entry_ref.specs.declared.images.Image.{Image}
use Rattle.entry_ref.specs.Images.{no_image, words_at}
use Rattle.arena_api.specs.Works.{free_count}
use Rattle.store_api.specs.Ledgers.{Ledger, active_count, held_count}
use Rattle.image_format.specs.Images.{IsLawfulImage, table_of, operations_at}
use Rattle.image_format.specs.Shapes.{shape_of, types_of}
use Rattle.attr_types.specs.Lawful.{OpFits}
use Rattle.attr_types.specs.Table.{after, skipped}
use Rattle.attr_types.specs.declared.field.Field.{Field}
use Rattle.attr_types.specs.declared.op.Op.{Op}
use Rattle.attribute_kinds.specs.Views.{AttributeView}
use Rattle.attr_loader.specs.Refusals.{IsRefusedCall}
use Rattle.attr_loader.specs.Runs.{IsOwed, IsSmall}
use Rattle.attr_loader.specs.Room.{load_of, HasMadeNothing}
use Rattle.attr_loader.specs.declared.error.LoadError.{LoadError}
use Rattle.attr_loader.specs.declared.error.LoadError.TheVariants.{CommitsSpent, Memory}
use Rattle.attr_loader.specs.declared.loaded.Loaded.{Loaded}
use Rattle.attr_loader.specs.declared.loaded.NoRoom.{NoRoom}

-- the number of operations of commit k, out of this total
abbrev pub commit_point : ℕ → ℕ → ℕ → ℕ
commit_point batch total k = min (batch * k) total

-- a lawful image of the first n operations
pub record IsImageAfter (fields : List Field) (ops : List Op) (n : ℕ) (image : Image) : Type 0 where
  pub lawful : IsLawfulImage (shape_of (types_of fields)) (words_at image) image.root
  pub operations : operations_at (words_at image) image.root ≡ n
  pub table : table_of (shape_of (types_of fields)) (words_at image) image.root ≡ after fields ops n

-- the images of commits 0 to `last`, if images are recorded
pub record AreCommits (fields : List Field) (batch : ℕ) (ops : List Op) (last : ℕ) (told : List Image) : Type 0 where
  pub count : 0 < length told → length told ≡ suc last
  pub each : (k : ℕ) (image : Image) → slice_get told k ≡ Some image → IsImageAfter fields ops (commit_point batch (length ops) k) image

-- all operations are committed; or, if one ran out of space, those of the whole batches before it, and every buffer
-- is in use or held
abbrev pub EndsAt : ℕ → ℕ → ℕ → ℕ → Option NoRoom → Type 0
EndsAt batch total buffers n None = n ≡ total
EndsAt batch total buffers n (Some full) = (1 ≤ full.operation) × (full.operation ≤ total)
    × (n ≡ batch * ((full.operation - 1) / batch)) × (full.active + full.held ≡ buffers)

module _ {S H : Type 0} (ledger : S → Ledger H) where
  abbrev pub told_of : AttributeView S → List Image
  told_of a = (ledger a.store).work.told

  -- nothing was applied, and at most the empty commit 0 is recorded
  pub record IsAtStart (a : AttributeView S) : Type 0 where
    pub table : a.table ≡ []
    pub operations : a.operations ≡ 0
    pub committed : a.committed ≡ []
    pub committed_operations : a.committed_operations ≡ 0
    pub few : length (told_of a) ≤ 1
    pub empty : All (λ image. image ≡ no_image) (told_of a)

  -- operations can be loaded in batches of this size
  pub record CanLoad (batch : ℕ) (ops : List Op) (a : AttributeView S) : Type 0 where
    pub some : 0 < batch
    pub few : length ops < 2 ^ 32
    pub fit : AllByRecursion (OpFits a.fields) ops
    pub start : IsAtStart a

  -- the store is in the same memory, and the attributes are the same
  pub record StaysIn (old new : AttributeView S) : Type 0 where
    pub home : (ledger new.store).work.home ≡ (ledger old.store).work.home
    pub sizes : (ledger new.store).work.sizes ≡ (ledger old.store).work.sizes
    pub readers : (ledger new.store).work.made ≡ (ledger old.store).work.made
    pub fields : new.fields ≡ old.fields
    pub dense : new.dense ≡ old.dense

  -- the operation that ran out of space: no buffer is free, and this many are in use and held. The attributes refused that
  -- operation, after those before it; or the commit of the batch of which it is the last
  pub record IsFullAt (batch : ℕ) (ops : List Op) (old new : AttributeView S) (loaded : ℕ) (full : NoRoom) : Type 0 where
    pub free : free_count (ledger new.store).work.buffer (ledger new.store).work.sizes.buffers ≡ 0
    pub active_is : full.active ≡ active_count (ledger new.store).work.buffer (ledger new.store).work.sizes.buffers
    pub held_is : full.held ≡ held_count (ledger new.store).work.buffer (ledger new.store).work.sizes.buffers
    pub table : new.table ≡ after old.fields ops new.operations
    pub refused : IsRefusedCall new.fields new.dense new.table ops new.operations (min (loaded + batch) (length ops)) (ledger new.store) full

  -- a loading: the recorded images are those of its commits, and the last has everything that was loaded
  pub record Loads (batch : ℕ) (ops : List Op) (old new : AttributeView S) (loaded : Loaded) : Type 0 where
    pub stays : StaysIn old new
    pub last : ℕ
    pub told : AreCommits old.fields batch ops last (told_of new)
    pub point : loaded.operations ≡ commit_point batch (length ops) last
    pub committed : new.committed ≡ after old.fields ops loaded.operations
    pub committed_operations : new.committed_operations ≡ loaded.operations
    pub skips : loaded.skipped ≡ skipped old.fields ops loaded.operations
    pub commits : (ledger new.store).work.commits.last ≡ (ledger old.store).work.commits.last + last
    pub ends : EndsAt batch (length ops) (ledger new.store).work.sizes.buffers loaded.operations loaded.full
    pub full : IfSome loaded.full (IsFullAt batch ops old new loaded.operations)
    -- with one attribute and without bit vectors, in a store in which nothing was made before, a full store is owed to
    -- what was made
    pub owed : old.dense ≡ false → length old.fields ≡ 1 → HasMadeNothing (ledger old.store) → IfSome loaded.full
        (λ full. IsOwed (load_of (ledger old.store).work.sizes.buffers (ledger old.store).work.sizes.words old.fields batch ops)
        full.operation loaded.operations)
    -- and a small run of one attribute is never out of room, if no compaction is in progress at its start
    pub small : length old.fields ≡ 1 → HasMadeNothing (ledger old.store) → old.plan ≡ None → 8 ≤ (ledger old.store).work.sizes.buffers
        → IsSmall (load_of (ledger old.store).work.sizes.buffers (ledger old.store).work.sizes.words old.fields batch ops)
        → loaded.full ≡ None
    -- without readers nothing is held, while generations last
    pub unheld : (ledger old.store).work.made ≡ 0
        → (ledger old.store).work.commits.last + length ops < (ledger old.store).work.sizes.generations
        → IfSome loaded.full (λ full. full.held ≡ 0)

  -- why a loading failed: memory was exhausted; or the last possible commit has fewer than all operations
  abbrev pub IsSpent : List Op → AttributeView S → LoadError → Type 0
  IsSpent ops old CommitsSpent =
      (ledger old.store).work.sizes.commits < (ledger old.store).work.commits.last + length ops
  IsSpent ops old Memory = Unit {0}
