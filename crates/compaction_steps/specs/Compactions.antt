-- A step of a compaction: how it changes attributes in their store, and its result.
use Rattle.std.specs.Prelude.{◌≡◌, ◌≢◌, ℕ, ◌≤◌, true, nat_eq, if◌then◌else◌, List, length, Option, None, Some, Result, Ok, Err}
use Rattle.std.specs.declared.cmp.Ordering.TheVariants.{Greater}
use Rattle.entry_ref.specs.References.{buffer_of}
use Rattle.entry_ref.specs.Records.{Records, Among}
use Rattle.store_api.specs.Ledgers.{Ledger}
use Rattle.store_api.specs.Victims.{HasNoVictim, IsVictim}
use Rattle.store_api.specs.declared.store.StoreError.{StoreError}
use Rattle.attr_compaction.specs.Places.{first_place, place_cmp, PlanPlace, PlanView}
use Rattle.attr_compaction.specs.declared.plan.TheConstants.{PHASES}
use Rattle.image_format.specs.Tables.{AttributeTrees, attributes_reach}
use Rattle.attr_types.specs.declared.field.Field.{Field}
use Rattle.attr_operations.specs.Calls.{KeepsStore, LeavesEntries}
use Rattle.attr_operations.specs.Fields.{HoldsAttributes}
use Rattle.attr_operations.specs.Views.{table_at}
use Rattle.compaction_steps.specs.Counts.{RisesBy}
use Rattle.compaction_steps.specs.Units.{IsUnderWay}
use Rattle.compaction_steps.specs.Walks.{HasLastField, RefusesNext, Stops}
use Rattle.compaction_steps.specs.declared.stepping.Step.{Step}
use Rattle.compaction_steps.specs.declared.stepping.Step.TheVariants.{Idle, Moved, Finished}
use Rattle.attr_compaction.specs.Counts.{keys_between}

-- the place of a compaction; one that has not begun is before the first key
abbrev pub place_of_plan : Option PlanView → PlanPlace
place_of_plan None = first_place
place_of_plan (Some plan) = plan.place

-- ---- the store
-- the store keeps everything except which buffers are sealed and which is finished
abbrev pub KeepsStoreBut : {H : Type 0} → Ledger H → Ledger H → Type 0
KeepsStoreBut old new = KeepsStore old (record new { sealed = old.sealed; finished = old.finished })

-- a compaction was begun: no emptied buffer waited for its commit, and the victim was sealed
pub record Begins {H : Type 0} (bits fields : ℕ) (old new : Ledger H) (plan : PlanView) : Type 0 where
  pub unfinished : old.finished ≡ None
  pub victim : IsVictim bits old plan.victim
  pub all : plan.fields ≡ fields
  pub sealed : (b : ℕ) → new.sealed b ≡ (if nat_eq b plan.victim then true else old.sealed b)

-- the compaction was in progress before
pub record WasUnderWay {H : Type 0} (old new : Ledger H) (before plan : PlanView) : Type 0 where
  pub victim : plan.victim ≡ before.victim
  pub all : plan.fields ≡ before.fields
  pub sealed : new.sealed ≡ old.sealed

abbrev pub IsUnderPlan : {H : Type 0} → ℕ → ℕ → Ledger H → Ledger H → Option PlanView → PlanView → Type 0
IsUnderPlan bits fields old new None plan = Begins bits fields old new plan
IsUnderPlan bits fields old new (Some before) plan = WasUnderWay old new before plan

-- none is in progress, and no buffer is worth one
pub record BeginsNone {H : Type 0} (bits : ℕ) (old : Ledger H) (before : Option PlanView) (same : Type 0) : Type 0 where
  pub none : before ≡ None
  pub why : HasNoVictim bits old
  pub store_is : same

-- one is in progress, and no key was visited since
pub record OpensPlan {H : Type 0} (bits root : ℕ) (old new : Ledger H) (m n : Records) (fields : List Field) (trees : List AttributeTrees)
    (before : Option PlanView) (plan : PlanView) : Type 0 where
  pub under : IsUnderPlan bits (length fields) old new before plan
  pub place : plan.place ≡ place_of_plan before
  pub keeps : KeepsStoreBut old new
  pub counts : RisesBy old new (λ width. 0)
  pub left : LeavesEntries old new m n
  pub holds : HoldsAttributes bits new n fields trees root
  pub under_way : IsUnderWay bits root new n trees plan
  pub last : HasLastField plan

module _ {H : Type 0} (bits root : ℕ) (old new : Ledger H) (m n : Records) (fields : List Field) (trees next : List AttributeTrees)
    (before : Option PlanView) where
  -- this many keys were visited
  pub record Went (plan : PlanView) (visited : ℕ) : Type 0 where
    pub under : IsUnderPlan bits (length fields) old new before plan
    pub rises : place_cmp (place_of_plan before) plan.place ≢ Greater
    pub count : keys_between (place_of_plan before) plan.place m trees ≡ visited
    pub holds : HoldsAttributes bits new n fields next root
    pub table : table_at n next ≡ table_at m trees
    pub keeps : KeepsStoreBut old new

  -- and the compaction is in progress
  pub record GoesTo (after : Option PlanView) (visited : ℕ) : Type 0 where
    pub plan : PlanView
    pub plan_is : after ≡ Some plan
    pub went : Went plan visited
    pub under_way : IsUnderWay bits root new n next plan
    pub last : HasLastField plan

  -- no key is left, and nothing that is reached lies in its buffer
  pub record Empties (after : Option PlanView) (keys buffer : ℕ) : Type 0 where
    pub plan : PlanView
    pub gone : after ≡ None
    pub visited : ℕ
    pub few : visited ≤ keys
    pub went : Went plan visited
    pub over : plan.place.stage.phase ≡ PHASES
    pub victim : buffer ≡ plan.victim
    pub finished : new.finished ≡ Some buffer
    pub apart : (r : ℕ) → Among r (attributes_reach n next) → buffer_of bits r ≢ buffer

  pub record StaysIdle (after : Option PlanView) (same : Type 0) : Type 0 where
    pub none : BeginsNone bits old before same
    pub gone : after ≡ None
    pub trees_are : next ≡ trees

  -- the first key was refused
  pub record RefusesStep (after : Option PlanView) (error : StoreError) : Type 0 where
    pub goes : GoesTo after 0
    pub left : LeavesEntries old new m n
    pub trees_are : next ≡ trees
    pub refused : RefusesNext old new error

  abbrev pub Compacts : Option PlanView → Type 0 → ℕ → Result Step StoreError → Type 0
  Compacts after same keys (Ok Idle) = StaysIdle after same
  Compacts after same keys (Ok (Moved visited stop)) = GoesTo after visited × Stops old new keys visited stop
  Compacts after same keys (Ok (Finished buffer)) = Empties after keys buffer
  Compacts after same keys (Err error) = RefusesStep after error
