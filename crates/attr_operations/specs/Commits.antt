-- How a commit changes attributes: a root record is made in a unit of its own, and then the store commits what it
-- reaches.
use Rattle.std.specs.Prelude.{◌≡◌, ◌⊎◌, ℕ, ◌+◌, ◌<◌, ◌≤◌, List, [], ◌∷◌}
use Rattle.std.specs.List.{flat_map}
use Rattle.entry_ref.specs.Images.{words_at}
use Rattle.entry_ref.specs.Records.{Records}
use Rattle.array_store.specs.Roots.{root_entries}
use Rattle.arena_api.specs.Calls.{told_after}
use Rattle.arena_api.specs.Works.{free_count, last_image}
use Rattle.store_api.specs.Calls.{StoresCommit}
use Rattle.store_api.specs.Ledgers.{Ledger}
use Rattle.store_api.specs.Parts.{AllStay, times, uses}
use Rattle.store_api.specs.Statuses.{Status}
use Rattle.store_api.specs.declared.store.Stored.{Stored}
use Rattle.store_api.specs.declared.store.StoreError.{StoreError}
use Rattle.store_api.specs.declared.store.StoreError.TheVariants as errors
use Rattle.attr_field.specs.declared.roots.FieldRoots.{FieldRoots}
use Rattle.image_format.specs.Laws.{IsImageOf}
use Rattle.image_format.specs.Shapes.{shape_of, types_of}
use Rattle.image_format.specs.Tables.{AttributeTrees}
use Rattle.attr_types.specs.declared.field.Field.{Field}
use Rattle.attr_operations.specs.Calls.{KeepsStore, IsOutOfRoom}
use Rattle.attr_operations.specs.Fields.{HoldsAttributes, parts_of}
use Rattle.attr_operations.specs.Views.{table_at}

-- the roots of attributes, as words of a root record
abbrev pub roots_listed : {bits : ℕ} → List (FieldRoots bits) → List ℕ
roots_listed roots = flat_map (λ root. root.documents ∷ root.dictionary ∷ []) roots

-- why no root record was made: its width has no spare entry, and no buffer is free or was free before; or memory is
-- exhausted
abbrev pub RefusesRoot : {H : Type 0} → Ledger H → Ledger H → StoreError → Type 0
RefusesRoot old new (errors.Full width active held oldest) = IsOutOfRoom old new width active held oldest × ((new.of_width width).spare ≡ 0)
    × (free_count old.work.buffer old.work.sizes.buffers ≡ 0)
RefusesRoot old new errors.Memory = Unit {0}

-- a full store is reported for this width
abbrev pub IsForWidth : ℕ → StoreError → Type 0
IsForWidth width (errors.Full other active held oldest) = other ≡ width
IsForWidth width errors.Memory = Unit {0}

-- attributes were committed after this many operations: the last image represents them, and they are all that is in
-- use
pub record CommitsAttributes {H : Type 0} (bits : ℕ) (fields : List Field) (trees : List AttributeTrees) (operations : ℕ)
    (old new : Ledger H) (m n : Records) (root : ℕ) (answer : Stored) : Type 0 where
  pub mid : Ledger H
  pub prepares : KeepsStore old mid
  pub stores : StoresCommit bits mid new (last_image new.work.commits) answer
  pub holds : HoldsAttributes bits new n fields trees root
  pub same : table_at n trees ≡ table_at m trees
  pub stay : AllStay (parts_of trees) m n
  pub records : n ≡ words_at (last_image new.work.commits)
  pub root_is : (last_image new.work.commits).root ≡ root
  pub image : IsImageOf operations trees (shape_of (types_of fields)) (words_at (last_image new.work.commits)) root
  pub number : answer.commit ≡ old.work.commits.last + 1
  pub last : new.work.commits.last ≡ old.work.commits.last + 1
  pub told : new.work.told ≡ told_after old.work.told (last_image new.work.commits)

-- a commit with a root record in place of the previous one: nothing but this record comes into use, and what it leaves out
-- was left out before, or was in use and is not the previous root record
pub record TurnsRoot {H : Type 0} (old new : Ledger H) (before root : ℕ) : Type 0 where
  pub used : (r : ℕ) → uses new r + times r (root_entries before) ≤ uses old r + times r (root_entries root)
  pub left : (r : ℕ) → new.status r ≡ Status.left
      → (old.status r ≡ Status.left) ⊎ (times r (root_entries before) < uses old r + times r (root_entries root))
