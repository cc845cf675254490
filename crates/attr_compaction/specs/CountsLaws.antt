-- The number of keys between two places, as laws.
use Rattle.std.specs.Prelude.{◌≡◌, ◌≢◌, ℕ, suc, ◌<◌, List, length, slice_get, None, Some}
use Rattle.std.specs.List.{AllZip}
use Rattle.std.specs.List.Sorted.{IsStrictlySortedBy}
use Rattle.std.specs.declared.cmp.Ordering.TheVariants.{Greater}
use Rattle.entry_ref.specs.Records.{Records}
use Rattle.attr_compaction.specs.Places.{key_cmp, place_after, place_cmp, PlanPlace}
use Rattle.attr_compaction.specs.declared.plan.PlanKey.{PlanKey}
use Rattle.attr_compaction.specs.declared.plan.PlanKey.TheVariants.{Start}
use Rattle.attr_compaction.specs.declared.plan.TheConstants.{PHASES}
use Rattle.image_format.specs.Tables.{AttributeTrees}
use Rattle.attr_compaction.specs.PhaseKeys.{key_past}
use Rattle.attr_compaction.specs.Counts.{keys_between, keys_of_phase}

-- no key lies between a place and itself
abbrev pub NoneAreBetween : Type 0
NoneAreBetween = (m : Records) (trees : List AttributeTrees) (at : PlanPlace) → keys_between at at m trees ≡ 0

-- up to the next key of a place's phase there is one more
abbrev pub NextIsOneMore : Type 0
NextIsOneMore = (m : Records) (trees : List AttributeTrees) (a : AttributeTrees) (from at : PlanPlace) (key : PlanKey)
    → slice_get trees at.stage.field ≡ Some a → IsStrictlySortedBy key_cmp (keys_of_phase m a at.stage.phase) → at.stage.phase < PHASES
    → place_cmp from at ≢ Greater → key_past at.key (keys_of_phase m a at.stage.phase) ≡ Some key
    → keys_between from (record { stage = at.stage; key = key }) m trees ≡ suc (keys_between from at m trees)

-- if the phase has no further key, there is no key up to the next phase
abbrev pub EndIsNoMore : Type 0
EndIsNoMore = (m : Records) (trees : List AttributeTrees) (a : AttributeTrees) (from at : PlanPlace)
    → slice_get trees at.stage.field ≡ Some a → at.stage.phase < PHASES → key_past at.key (keys_of_phase m a at.stage.phase) ≡ None
    → keys_between from (place_after (length trees) at Start) m trees ≡ keys_between from at m trees

-- attributes with the same keys in each phase have the same counts
abbrev pub SameAreBetween : Type 0
SameAreBetween = (m n : Records) (trees next : List AttributeTrees) (from to : PlanPlace)
    → AllZip (λ a b. (phase : ℕ) → keys_of_phase n b phase ≡ keys_of_phase m a phase) trees next
    → keys_between from to n next ≡ keys_between from to m trees
