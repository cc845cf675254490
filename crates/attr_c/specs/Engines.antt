-- What the writer's handle holds, as its callers see it.
use Rattle.std.specs.Prelude.{◌≡◌, ◌<◌, ◌≤◌, ℕ, Bool, true, List, [], length, replicate, Option, None}
use Rattle.std.specs.List.{AllByRecursion}
use Rattle.atomic_table.specs.Seated.{TableId}
use Rattle.arena_api.specs.Works.{is_free}
use Rattle.attr_compaction.specs.Places.{PlanView}
use Rattle.image_format.specs.Tables.{AttributeTrees}
use Rattle.attr_types.specs.Table.{Table}
use Rattle.attr_types.specs.declared.field.Field.{Field}
use Rattle.attr_types.specs.declared.field.TheConstants.{MOST_FIELDS}
use Rattle.attr_types.specs.declared.op.Op.{Op}
use Rattle.store_api.specs.Ledgers.{Ledger, no_counts}
use Rattle.store_api.specs.declared.store.Usage.{Usage}
use Rattle.attr_c.specs.Applying.{Applies, LeavesAttributes}
use Rattle.attr_c.specs.Stops.{StopsOperation}
use Rattle.attr_c.specs.Stores.{open_ledger, OfOpen}
use Rattle.attr_c.specs.declared.stop.Stop.{Stop}
use Rattle.attr_c.specs.declared.told.CountsTold.{CountsTold}
use Rattle.attr_c.specs.declared.told.Sizes.{Sizes}
use Rattle.attr_c.specs.declared.state.Counts.{Counts}
use Rattle.attr_c.specs.declared.state.AnyOpen.{AnyOpen}
use Rattle.attr_c.specs.declared.state.AnyOpen.TheVariants.{Narrow, Wide}
use Rattle.attr_c.specs.declared.state.Engine.{Engine}

-- the attributes, the table that was fed, and the number of operations that made it
abbrev pub open_fields : AnyOpen → List Field
open_fields (Narrow o) = o.fields
open_fields (Wide o) = o.fields

abbrev pub open_table : AnyOpen → Table
open_table (Narrow o) = o.attribute.table
open_table (Wide o) = o.attribute.table

abbrev pub open_operations : AnyOpen → ℕ
open_operations (Narrow o) = o.attribute.operations
open_operations (Wide o) = o.attribute.operations

-- whether bit vectors are wanted
abbrev pub open_dense : AnyOpen → Bool
open_dense (Narrow o) = o.attribute.dense
open_dense (Wide o) = o.attribute.dense

-- the trees of the attributes, and the compaction in progress
abbrev pub open_trees : AnyOpen → List AttributeTrees
open_trees (Narrow o) = o.attribute.trees
open_trees (Wide o) = o.attribute.trees

abbrev pub open_plan : AnyOpen → Option PlanView
open_plan (Narrow o) = o.attribute.plan
open_plan (Wide o) = o.attribute.plan

-- the memory behind the attributes
abbrev pub open_home : AnyOpen → TableId
open_home (Narrow o) = o.attribute.store.work.place.table_id
open_home (Wide o) = o.attribute.store.work.place.table_id

-- the root record of the last commit, its table and its number of operations
abbrev pub open_root : AnyOpen → ℕ
open_root (Narrow o) = o.attribute.root
open_root (Wide o) = o.attribute.root

abbrev pub open_committed : AnyOpen → Table
open_committed (Narrow o) = o.attribute.committed
open_committed (Wide o) = o.attribute.committed

abbrev pub open_committed_operations : AnyOpen → ℕ
open_committed_operations (Narrow o) = o.attribute.committed_operations
open_committed_operations (Wide o) = o.attribute.committed_operations

-- what is counted for a monitor, and the number of readers that were not given away
abbrev pub open_counts : AnyOpen → Counts
open_counts (Narrow o) = o.counts
open_counts (Wide o) = o.counts

abbrev pub open_waiting : AnyOpen → ℕ
open_waiting (Narrow o) = length o.pool.items
open_waiting (Wide o) = length o.pool.items

-- the readers that were not given away are of these attributes, and of the memory behind them
abbrev pub HasOwnReaders : AnyOpen → Type 0
HasOwnReaders (Narrow o) =
    AllByRecursion (λ w. (w.fields ≡ o.fields) × (w.reader.place.table_id ≡ o.attribute.store.work.place.table_id)) o.pool.items
HasOwnReaders (Wide o) =
    AllByRecursion (λ w. (w.fields ≡ o.fields) × (w.reader.place.table_id ≡ o.attribute.store.work.place.table_id)) o.pool.items

-- the readers that were not given away are the same
abbrev pub KeepsWaiting : AnyOpen → AnyOpen → Type 0
KeepsWaiting (Narrow old) (Narrow new) = new.pool.items ≡ old.pool.items
KeepsWaiting (Wide old) (Wide new) = new.pool.items ≡ old.pool.items
KeepsWaiting old new = ⊥

-- the attributes and their store are the same
abbrev pub KeepsAttributes : AnyOpen → AnyOpen → Type 0
KeepsAttributes (Narrow old) (Narrow new) = new.attribute ≡ old.attribute
KeepsAttributes (Wide old) (Wide new) = new.attribute ≡ old.attribute
KeepsAttributes old new = ⊥

-- a call that leaves the attributes, their memory, what was fed and what was committed as they were
pub record KeepsTables (old new : AnyOpen) : Type 0 where
  pub fields : open_fields new ≡ open_fields old
  pub dense : open_dense new ≡ open_dense old
  pub home : open_home new ≡ open_home old
  pub table : open_table new ≡ open_table old
  pub operations : open_operations new ≡ open_operations old
  pub root : open_root new ≡ open_root old
  pub committed : open_committed new ≡ open_committed old
  pub published : open_committed_operations new ≡ open_committed_operations old

-- operations of which this holds were applied to the attributes of an engine
abbrev pub AppliesOpen : (List Op → Type 0) → AnyOpen → AnyOpen → Type 0
AppliesOpen which old new = OfOpen (λ store bits before now ledger records. Applies ledger which before now) old new

-- all but the store of the attributes is the same, and in it each entry and each record
abbrev pub LeavesOpen : AnyOpen → AnyOpen → Type 0
LeavesOpen old new = OfOpen (λ store bits before now ledger records. LeavesAttributes ledger records before now) old new

-- why the next operation was not applied
abbrev pub StopsOpen : (List Op → Type 0) → (Op → Type 0) → AnyOpen → AnyOpen → Stop → Type 0
StopsOpen which next old new stop =
    OfOpen (λ store bits before now ledger records. StopsOperation ledger records which next before now stop) old new

-- no document, nothing applied, nothing committed, and no compaction in progress
pub record HasNothing (table committed : Table) (operations published root : ℕ) (plan : Option PlanView) : Type 0 where
  pub table_is : table ≡ []
  pub committed_is : committed ≡ []
  pub operations_are : operations ≡ 0
  pub published_are : published ≡ 0
  pub root_is : root ≡ 0
  pub plan_is : plan ≡ None

-- no commit, no entry, and no buffer in use
pub record HasNewStore {H : Type 0} (ledger : Ledger H) : Type 0 where
  pub no_commit : ledger.work.commits.last ≡ 0
  pub no_entry : (width : ℕ) → ledger.of_width width ≡ no_counts
  pub no_buffer : (b : ℕ) → is_free (ledger.work.buffer b) ≡ true

-- nothing but attributes
pub record IsNewOpen (o : AnyOpen) : Type 0 where
  pub store_is : HasNewStore (open_ledger o)
  pub has_nothing : HasNothing (open_table o) (open_committed o) (open_operations o) (open_committed_operations o) (open_root o)
      (open_plan o)

-- the attributes that were asked for, and nothing else
pub record IsOpened (fields : List Field) (o : AnyOpen) : Type 0 where
  pub fields_are : open_fields o ≡ fields
  pub is_new : IsNewOpen o

-- one to eight attributes, and nothing else
pub record IsNewEngine (e : Engine) : Type 0 where
  pub some : 0 < length (open_fields e.inner)
  pub few : length (open_fields e.inner) ≤ MOST_FIELDS
  pub is_new : IsNewOpen e.inner

-- nothing counted, but the sizes
pub record AreNewCounts (sizes : Sizes) (counts : Counts) : Type 0 where
  pub sizes_are : counts.sizes ≡ sizes
  pub skipped_is : counts.skipped ≡ 0
  pub commit_is : counts.commit ≡ 0
  pub committed_is : counts.committed ≡ 0
  pub no_hold : counts.since ≡ replicate 16 0
  pub oldest_is : counts.oldest ≡ 0
  pub no_reader : counts.is_held ≡ 0

-- the numbers that the engine keeps for a monitor
pub record TellsCounts (counts : Counts) (told : CountsTold) : Type 0 where
  pub skipped : told.skipped ≡ counts.skipped
  pub commit : told.commit ≡ counts.commit
  pub committed : told.committed ≡ counts.committed
  pub oldest : told.oldest ≡ counts.oldest
  pub is_held : told.is_held ≡ counts.is_held
  pub buffers : told.buffers ≡ counts.sizes.buffers
  pub words : told.words ≡ counts.sizes.words

-- the buffers and words in use, of the numbers for a monitor
abbrev pub usage_told : CountsTold → Usage
usage_told told = record {
  active = told.active;
  on_hold = told.held;
  used = told.used_words;
  dead = told.dead_words;
  held = told.held_words;
}

abbrev pub fields_of : Engine → List Field
fields_of e = open_fields e.inner

abbrev pub dense_of : Engine → Bool
dense_of e = open_dense e.inner

abbrev pub home_of : Engine → TableId
home_of e = open_home e.inner

abbrev pub table_of : Engine → Table
table_of e = open_table e.inner

abbrev pub operations_of : Engine → ℕ
operations_of e = open_operations e.inner

abbrev pub committed_of : Engine → Table
committed_of e = open_committed e.inner

abbrev pub root_of : Engine → ℕ
root_of e = open_root e.inner

abbrev pub trees_of : Engine → List AttributeTrees
trees_of e = open_trees e.inner

abbrev pub plan_of : Engine → Option PlanView
plan_of e = open_plan e.inner

abbrev pub committed_operations_of : Engine → ℕ
committed_operations_of e = open_committed_operations e.inner
