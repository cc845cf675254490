-- How a step of a compaction changes attributes, and its result.
use Rattle.std.specs.Prelude.{◌≡◌, ◌≢◌, ◌⊎◌, ℕ, ◌<◌, ◌≤◌, length, Option, None, Some, IsSome}
use Rattle.std.specs.declared.cmp.Ordering.TheVariants.{Greater}
use Rattle.entry_ref.specs.References.{buffer_of}
use Rattle.entry_ref.specs.Records.{Records, Among}
use Rattle.arena_api.specs.declared.answers.Oldest.{Oldest}
use Rattle.store_api.specs.Ledgers.{Ledger}
use Rattle.store_api.specs.Victims.{HasNoVictim}
use Rattle.attr_compaction.specs.Places.{place_cmp, PlanPlace, PlanView}
use Rattle.attr_compaction.specs.declared.plan.TheConstants.{PHASES}
use Rattle.image_format.specs.Tables.{attributes_reach}
use Rattle.attr_operations.specs.Calls.{IsOutOfRoom, LeavesEntries}
use Rattle.compaction_steps.specs.Compactions.{place_of_plan, IsUnderPlan}
use Rattle.compaction_steps.specs.Units.{IsActiveWidth}
use Rattle.attr_compaction.specs.Counts.{keys_between}
use Rattle.attribute_kinds.specs.Views.{AttributeView}
use Rattle.attribute_kinds.specs.declared.answers.AttrError.{AttrError}
use Rattle.attribute_kinds.specs.declared.answers.AttrError.TheVariants.{Full, CommitsSpent, Memory}
use Rattle.attribute_kinds.specs.declared.answers.Compacted.{Compacted}
use Rattle.attribute_kinds.specs.declared.answers.Compacted.TheVariants.{Idle, Moved, Finished}

-- no compaction is in progress, and an emptied buffer waits for its commit, or no buffer is worth it
pub record IsIdle {H : Type 0} (bits : ℕ) (ledger : Ledger H) (plan : Option PlanView) : Type 0 where
  pub none : plan ≡ None
  pub why : IsSome ledger.finished ⊎ HasNoVictim bits ledger

-- the store was full for a width: it has an active buffer of this width, and fewer spare entries than a node has
-- words
pub record IsFullForKey {H : Type 0} (old new : Ledger H) (width active held : ℕ) (oldest : Oldest) : Type 0 where
  pub room : IsOutOfRoom old new width active held oldest
  pub spare : (new.of_width width).spare < 34
  pub buffer : IsActiveWidth new width

-- why a key was refused
abbrev pub RefusesKey : {H : Type 0} → Ledger H → Ledger H → AttrError → Type 0
RefusesKey old new (Full width active held oldest) = IsFullForKey old new width active held oldest
RefusesKey old new (CommitsSpent commit) = ⊥
RefusesKey old new Memory = Unit {0}

module _ {S H : Type 0} (bits : ℕ) (ledger : S → Ledger H) (records : S → Records) (old new : AttributeView S) where
  -- the number of keys after the place of the compaction, up to this one
  abbrev pub keys_to : PlanPlace → ℕ
  keys_to place = keys_between (place_of_plan old.plan) place (records old.store) old.trees

  -- the compaction in progress, or the one that was begun; it did not move back
  pub record IsAt (plan : PlanView) : Type 0 where
    pub under : IsUnderPlan bits (length old.fields) (ledger old.store) (ledger new.store) old.plan plan
    pub rises : place_cmp (place_of_plan old.plan) plan.place ≢ Greater

  -- it is in progress, this many keys further
  pub record GoesTo (moved : ℕ) : Type 0 where
    pub plan : PlanView
    pub plan_is : new.plan ≡ Some plan
    pub at : IsAt plan
    pub count : keys_to plan.place ≡ moved
    pub unfinished : (ledger new.store).finished ≡ None

  -- some keys were visited, but not all, since the next one was refused
  pub record StopsAt (keys moved : ℕ) (error : AttrError) : Type 0 where
    pub some : 0 < moved
    pub few : moved < keys
    pub refused : RefusesKey (ledger old.store) (ledger new.store) error

  abbrev pub Stops : ℕ → ℕ → Option AttrError → Type 0
  Stops keys moved None = moved ≡ keys
  Stops keys moved (Some error) = StopsAt keys moved error

  -- no key is left, and nothing that the attributes reach lies in the buffer
  pub record Empties (keys buffer : ℕ) : Type 0 where
    pub plan : PlanView
    pub at : IsAt plan
    pub few : keys_to plan.place ≤ keys
    pub over : plan.place.stage.phase ≡ PHASES
    pub victim : buffer ≡ plan.victim
    pub gone : new.plan ≡ None
    pub finished : (ledger new.store).finished ≡ Some buffer
    pub apart : (r : ℕ) → Among r (attributes_reach (records new.store) new.trees) → buffer_of bits r ≢ buffer

  pub record StaysIdle : Type 0 where
    pub idle : IsIdle bits (ledger old.store) old.plan
    pub same : new ≡ old

  abbrev pub CompactsTo : ℕ → Compacted → Type 0
  CompactsTo keys Idle = StaysIdle
  CompactsTo keys (Moved moved stop) = GoesTo moved × Stops keys moved stop
  CompactsTo keys (Finished buffer) = Empties keys buffer

  -- the first key was refused: each entry is as it was
  pub record RefusesStep (error : AttrError) : Type 0 where
    pub goes : GoesTo 0
    pub refused : RefusesKey (ledger old.store) (ledger new.store) error
    pub entries : LeavesEntries (ledger old.store) (ledger new.store) (records old.store) (records new.store)
    pub trees_are : new.trees ≡ old.trees
