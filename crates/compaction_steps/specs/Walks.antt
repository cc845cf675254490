-- How a walk over keys changes attributes in their store, and how far it gets.
use Rattle.std.specs.Prelude.{◌≡◌, ◌≢◌, ℕ, ◌+◌, ◌<◌, ◌≤◌, List, Option, None, Some, Result, Ok, Err}
use Rattle.std.specs.declared.cmp.Ordering.TheVariants.{Greater}
use Rattle.entry_ref.specs.Records.{Records}
use Rattle.store_api.specs.Ledgers.{Ledger}
use Rattle.store_api.specs.declared.store.StoreError.{StoreError}
use Rattle.attr_compaction.specs.Places.{place_cmp, PlanView}
use Rattle.attr_compaction.specs.declared.plan.TheConstants.{PHASES}
use Rattle.image_format.specs.Tables.{AttributeTrees}
use Rattle.attr_types.specs.declared.field.Field.{Field}
use Rattle.attr_operations.specs.Calls.{KeepsStore, LeavesEntries, RefusesUnit}
use Rattle.attr_operations.specs.Fields.{HoldsAttributes}
use Rattle.attr_operations.specs.Views.{table_at}
use Rattle.compaction_steps.specs.Units.{HasActive, IsUnderWay, KeepKeys, SparesBelow}
use Rattle.compaction_steps.specs.declared.walk.Walk.{Walk}
use Rattle.compaction_steps.specs.declared.walk.Walk.TheVariants.{Visited, Over}
use Rattle.attr_compaction.specs.Counts.{keys_between}

-- past the last phase the plan is in its last attribute
pub record HasLastField (plan : PlanView) : Type 0 where
  pub last : plan.place.stage.phase ≡ PHASES → plan.fields ≤ plan.place.stage.field + 1

-- why a key was refused
pub record RefusesNext {H : Type 0} (old new : Ledger H) (error : StoreError) : Type 0 where
  pub why : RefusesUnit old new error
  pub spare : SparesBelow new 34 error
  pub active : HasActive new error

-- some keys were visited, but not all, since the next one was refused
pub record StopsRefused {H : Type 0} (old new : Ledger H) (keys visited : ℕ) (error : StoreError) : Type 0 where
  pub some : 0 < visited
  pub few : visited < keys
  pub refused : RefusesNext old new error

abbrev pub Stops : {H : Type 0} → Ledger H → Ledger H → ℕ → ℕ → Option StoreError → Type 0
Stops old new keys visited None = visited ≡ keys
Stops old new keys visited (Some error) = StopsRefused old new keys visited error

module _ {H : Type 0} (bits root : ℕ) (old new : Ledger H) (m n : Records) (fields : List Field) (trees next : List AttributeTrees)
    (from to : PlanView) where
  -- this many keys were visited: the contents of the attributes are unchanged, and everything up to the plan's place
  -- lies elsewhere
  pub record Visits (keys : ℕ) : Type 0 where
    pub holds : HoldsAttributes bits new n fields next root
    pub under_way : IsUnderWay bits root new n next to
    pub last : HasLastField to
    pub table : table_at n next ≡ table_at m trees
    pub keep : KeepKeys m n trees next
    pub keeps : KeepsStore old new
    pub victim : to.victim ≡ from.victim
    pub all : to.fields ≡ from.fields
    pub rises : place_cmp from.place to.place ≢ Greater
    pub count : keys_between from.place to.place m trees ≡ keys

  -- no key is left
  pub record IsOver (keys : ℕ) : Type 0 where
    pub visited : ℕ
    pub few : visited ≤ keys
    pub visits : Visits visited
    pub over : to.place.stage.phase ≡ PHASES

  -- the first key was refused
  pub record RefusesFirst (error : StoreError) : Type 0 where
    pub visits : Visits 0
    pub left : LeavesEntries old new m n
    pub trees_are : next ≡ trees
    pub refused : RefusesNext old new error

  abbrev pub Walks : ℕ → Result Walk StoreError → Type 0
  Walks keys (Ok (Visited visited stop)) = Visits visited × Stops old new keys visited stop
  Walks keys (Ok Over) = IsOver keys
  Walks keys (Err error) = RefusesFirst error
