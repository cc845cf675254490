-- What preserves the cleared part, as laws.
use Rattle.std.specs.Prelude.{◌≡◌, ◌≢◌, ℕ, ◌+◌, ◌<◌, ◌≤◌, true, List, None, Some, length, slice_get}
use Rattle.std.specs.List.{AllByRecursion}
use Rattle.entry_ref.specs.References.{buffer_of}
use Rattle.entry_ref.specs.Records.{Records, Among, SameAt}
use Rattle.store_api.specs.Ledgers.{Ledger}
use Rattle.store_api.specs.Parts.{AllStay}
use Rattle.image_format.specs.Tables.{AttributeTrees, attributes_reach}
use Rattle.attr_types.specs.declared.field.Field.{Field}
use Rattle.attr_types.specs.declared.op.Op.{Op}
use Rattle.attr_operations.specs.Fields.{part_of, parts_of, HoldsAttributes, IsFieldAt}
use Rattle.attr_operations.specs.Steps.{StepsTo}
use Rattle.attr_compaction.specs.Places.{first_place, place_after, PlanPlace}
use Rattle.attr_compaction.specs.declared.plan.PlanKey.{PlanKey}
use Rattle.attr_compaction.specs.declared.plan.PlanKey.TheVariants.{Start}
use Rattle.attr_compaction.specs.declared.plan.TheConstants.{PHASES}
use Rattle.attr_compaction.specs.PhaseKeys.{key_past, phase_keys}
use Rattle.compaction_moves.specs.Visits.{place_at_key}
use Rattle.compaction_moves.specs.Cleared.{IsCleared, IsClearedField}

-- while the records that an attribute owns stay the same, what was cleared of it stays cleared
abbrev pub StayLeavesCleared : Type 0
StayLeavesCleared = (bits victim field : ℕ) (at : PlanPlace) (m n : Records) (a : AttributeTrees) → IsFieldAt m a
    → SameAt ((part_of a).reach m) m n → IsClearedField bits victim at field m a → IsClearedField bits victim at field n a

-- the same for all attributes
abbrev pub AllStayLeavesCleared : Type 0
AllStayLeavesCleared = (bits victim : ℕ) (at : PlanPlace) (m n : Records) (trees : List AttributeTrees) → AllByRecursion (IsFieldAt m) trees
    → AllStay (parts_of trees) m n → IsCleared bits victim at m trees → IsCleared bits victim at n trees

-- before the first key, everything counts as cleared
abbrev pub FirstIsCleared : Type 0
FirstIsCleared = (bits victim : ℕ) (m : Records) (trees : List AttributeTrees) → AllByRecursion (IsFieldAt m) trees
    → IsCleared bits victim first_place m trees

-- if a phase has no further key, what was cleared is all that the place of the next phase requires
abbrev pub PhaseEndLeavesCleared : Type 0
PhaseEndLeavesCleared = (bits victim : ℕ) (at : PlanPlace) (m : Records) (trees : List AttributeTrees) (a : AttributeTrees)
    → AllByRecursion (IsFieldAt m) trees → at.stage.phase < PHASES → slice_get trees at.stage.field ≡ Some a
    → key_past at.key (phase_keys a.type m a.documents a.dictionary at.stage.phase) ≡ None
    → IsCleared bits victim at m trees → IsCleared bits victim (place_after (length trees) at Start) m trees

-- after one more key in one attribute, the others stay cleared
abbrev pub OthersStayCleared : Type 0
OthersStayCleared = (bits victim field : ℕ) (at : PlanPlace) (key : PlanKey) (m : Records) (a : AttributeTrees) → IsFieldAt m a
    → at.stage.field ≢ field → IsClearedField bits victim at field m a → IsClearedField bits victim (place_at_key at key) field m a

-- past the last phase of the last attribute, nothing that attributes reach lies in the victim
abbrev pub NothingIsReached : Type 0
NothingIsReached = (bits victim : ℕ) (at : PlanPlace) (m : Records) (trees : List AttributeTrees) → AllByRecursion (IsFieldAt m) trees
    → at.stage.phase ≡ PHASES → length trees ≤ at.stage.field + 1 → IsCleared bits victim at m trees
    → (r : ℕ) → Among r (attributes_reach m trees) → buffer_of bits r ≢ victim

-- an operation in a store whose victim is sealed: what lies in the victim afterwards was there before, in the same
-- role
abbrev pub OperationLeavesCleared : ℕ → Type 0 → Type 0
OperationLeavesCleared bits H = (victim : ℕ) (at : PlanPlace) (old new : Ledger H) (m n : Records) (fields : List Field)
    (trees next : List AttributeTrees) (op : Op) (before root : ℕ) → old.back ≡ old.status → old.bits ≡ bits → old.sealed victim ≡ true
    → HoldsAttributes bits old m fields trees before → HoldsAttributes bits new n fields next root
    → StepsTo fields old new m n trees op next → IsCleared bits victim at m trees → IsCleared bits victim at n next
