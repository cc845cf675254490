-- A step of a compaction, and what is told of it.
use Rattle.std.specs.Prelude.{◌≡◌, ℕ, ◌⊎◌, Some, None}
use Rattle.attr_c.specs.Engines.{open_plan}
use Rattle.attr_c.specs.Stores.{open_bits, open_ledger, OfOpen}
use Rattle.attr_c.specs.declared.state.AnyOpen.{AnyOpen}
use Rattle.attr_c.specs.declared.stop.Stop.{Stop}
use Rattle.attr_c.specs.declared.stop.Stop.TheVariants as stops
use Rattle.attr_c.specs.declared.told.Told.{Told}
use Rattle.attribute_kinds.specs.Compacting.{CompactsTo, IsIdle, RefusesStep}
use Rattle.attribute_kinds.specs.GivingUp.{GivesUp, KeepsPlan}
use Rattle.attribute_kinds.specs.Views.{AttributeView}
use Rattle.attribute_kinds.specs.declared.answers.AttrError.{AttrError}
use Rattle.attribute_kinds.specs.declared.answers.AttrError.TheVariants as errors
use Rattle.attribute_kinds.specs.declared.answers.Compacted.{Compacted}
use Rattle.attribute_kinds.specs.declared.answers.Compacted.TheVariants.{Idle, Moved, Finished}
use Rattle.entry_ref.specs.Records.{Records}
use Rattle.store_api.specs.Ledgers.{Ledger}

-- how many keys were visited, or which buffer was emptied; a step that the store stopped is not told as a step
abbrev pub TellsStep : Compacted → Told → Type 0
TellsStep Idle told = (told.keys ≡ 0) × (told.finished ≡ 0) × (told.buffer ≡ 0)
TellsStep (Moved keys None) told = (told.keys ≡ keys) × (told.finished ≡ 0) × (told.buffer ≡ 0)
TellsStep (Moved keys (Some error)) told = ⊥
TellsStep (Finished buffer) told = (told.keys ≡ 0) × (told.finished ≡ 1) × (told.buffer ≡ buffer)

-- a step, as it is told
pub record StepsAs (steps : Compacted → Type 0) (told : Told) : Type 0 where
  pub compacted : Compacted
  pub is : steps compacted
  pub tells : TellsStep compacted told

module _ {S H : Type 0} (ledger : S → Ledger H) (records : S → Records) (step new : AttributeView S) where
  -- the compaction is given up, unless it has copied a value's record: then nothing changes. Each record stays
  pub record EndsFull : Type 0 where
    pub which : GivesUp ledger step new ⊎ KeepsPlan ledger step new
    pub records_are : records new.store ≡ records step.store
    pub left : new ≡ record step { store = new.store; plan = new.plan }

  -- what follows a step at which a key was refused: only a full store gives its compaction up
  abbrev pub EndsStep : AttrError → Type 0
  EndsStep (errors.Full width active held oldest) = EndsFull
  EndsStep (errors.CommitsSpent commit) = new ≡ step
  EndsStep errors.Memory = new ≡ step

module _ {S H : Type 0} (bits : ℕ) (ledger : S → Ledger H) (records : S → Records) (old new : AttributeView S) (keys visited : ℕ) where
  -- the first key was refused, or a later one, after so many were visited; and what follows that
  pub record StoppedStep (error : AttrError) : Type 0 where
    pub step : AttributeView S
    pub refused : (RefusesStep bits ledger records old step error × (visited ≡ 0))
        ⊎ CompactsTo bits ledger records old step keys (Moved visited (Some error))
    pub ends : EndsStep ledger records step new error

  -- nothing else stops a step
  abbrev pub StopsStep : Stop → Type 0
  StopsStep (stops.Store error) = StoppedStep error
  StopsStep stop = ⊥

-- the same of the attributes of an engine
abbrev pub CompactsOpen : AnyOpen → AnyOpen → ℕ → Compacted → Type 0
CompactsOpen old new keys compacted =
    OfOpen (λ store bits before now ledger records. CompactsTo bits ledger records before now keys compacted) old new

abbrev pub StopsStepOpen : AnyOpen → AnyOpen → ℕ → ℕ → Stop → Type 0
StopsStepOpen old new keys visited stop =
    OfOpen (λ store bits before now ledger records. StopsStep bits ledger records before now keys visited stop) old new

-- no compaction is in progress, and none would begin
abbrev pub IsIdleOpen : AnyOpen → Type 0
IsIdleOpen o = IsIdle (open_bits o) (open_ledger o) (open_plan o)
