-- Which keys are visited after one more key or one more phase, as laws.
use Rattle.std.specs.Prelude.{◌≡◌, ◌≢◌, ◌⊎◌, ℕ, ◌<◌, false, List, [], ◌∷◌, None, Some}
use Rattle.std.specs.List.Sorted.{IsStrictlySortedBy}
use Rattle.compaction_moves.specs.Cleared.{IsVisited}
use Rattle.attr_compaction.specs.Places.{is_start, key_cmp, place_after, PlanPlace}
use Rattle.attr_compaction.specs.declared.plan.PlanKey.{PlanKey}
use Rattle.attr_compaction.specs.declared.plan.PlanKey.TheVariants.{Start}
use Rattle.attr_compaction.specs.declared.plan.TheConstants.{PHASES}
use Rattle.attr_compaction.specs.PhaseKeys.{key_past}

-- the key is among these keys
abbrev pub IsAmongKeys : PlanKey → List PlanKey → Type 0
IsAmongKeys k [] = ⊥
IsAmongKeys k (key ∷ keys) = (k ≡ key) ⊎ IsAmongKeys k keys

-- a place with this key, in the stage of another place
abbrev pub place_at_key : PlanPlace → PlanKey → PlanPlace
place_at_key at key = record { stage = at.stage; key = key }

-- among the keys of the phase, those visited after one more key were visited before, or are that key
abbrev pub NextIsVisited : Type 0
NextIsVisited = (at : PlanPlace) (field phase : ℕ) (keys : List PlanKey) (key k : PlanKey) → at.stage.field ≡ field → at.stage.phase ≡ phase
    → key_past at.key keys ≡ Some key → IsStrictlySortedBy key_cmp keys → IsAmongKeys k keys
    → IsVisited (place_at_key at key) field phase k → IsVisited at field phase k ⊎ (k ≡ key)

-- if the phase has no further key, all its keys are visited
abbrev pub EndIsVisited : Type 0
EndIsVisited = (at : PlanPlace) (field phase : ℕ) (keys : List PlanKey) (k : PlanKey) → at.stage.field ≡ field → at.stage.phase ≡ phase
    → key_past at.key keys ≡ None → IsAmongKeys k keys → IsVisited at field phase k

-- if a key of a phase is visited, all keys of the earlier phases of its attribute are
abbrev pub EarlierIsVisited : Type 0
EarlierIsVisited = (at : PlanPlace) (field phase later : ℕ) (k key : PlanKey) → phase < later → IsVisited at field later k
    → IsVisited at field phase key

-- all keys of earlier phases, and of the attributes before, are visited
abbrev pub AreAllBefore : Type 0
AreAllBefore = (at : PlanPlace) (field phase : ℕ) (key : PlanKey)
    → (field < at.stage.field) ⊎ ((at.stage.field ≡ field) × (phase < at.stage.phase)) → IsVisited at field phase key

-- no key of a later phase, or of an attribute after this one, is visited
abbrev pub IsNoneBehind : Type 0
IsNoneBehind = (at : PlanPlace) (field phase : ℕ) (key : PlanKey)
    → (at.stage.field < field) ⊎ ((at.stage.field ≡ field) × (at.stage.phase < phase)) → IsVisited at field phase key → ⊥

-- after one more key, nothing else is visited in other phases and other attributes
abbrev pub OthersAreVisited : Type 0
OthersAreVisited = (at : PlanPlace) (key : PlanKey) (field phase : ℕ) (k : PlanKey) → (at.stage.field ≢ field) ⊎ (at.stage.phase ≢ phase)
    → IsVisited (place_at_key at key) field phase k → IsVisited at field phase k

-- after one more phase, what is visited was visited before, or belongs to the phase that ended
abbrev pub NextStageIsVisited : Type 0
NextStageIsVisited = (fields : ℕ) (at : PlanPlace) (field phase : ℕ) (k : PlanKey) → at.stage.phase < PHASES → field < fields
    → phase < PHASES
    → is_start k ≡ false → IsVisited (place_after fields at Start) field phase k
    → IsVisited at field phase k ⊎ ((at.stage.field ≡ field) × (at.stage.phase ≡ phase))
