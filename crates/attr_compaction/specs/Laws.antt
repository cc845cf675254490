-- Places and keys, as laws.
use Rattle.std.specs.Prelude.{◌≡◌, ◌⊎◌, ℕ, ◌<◌}
use Rattle.std.specs.Cmp.{IsTotalOrder}
use Rattle.std.specs.declared.cmp.Ordering.TheVariants.{Less, Equal}
use Rattle.attr_compaction.specs.declared.plan.TheConstants.{PHASES}
use Rattle.attr_compaction.specs.declared.plan.PlanKey.{PlanKey}
use Rattle.attr_compaction.specs.declared.plan.PlanKey.TheVariants.{Start}
use Rattle.attr_compaction.specs.Places.{key_cmp, place_after, place_cmp, IsPast, PlanPlace}

-- keys and places are in total orders
abbrev pub PlacesAreOrdered : Type 0
PlacesAreOrdered = IsTotalOrder key_cmp × IsTotalOrder place_cmp

-- keys that compare as equal are the same
abbrev pub KeysAreExact : Type 0
KeysAreExact = (a b : PlanKey) → key_cmp a b ≡ Equal → a ≡ b

-- the place after a place is above it
abbrev pub NextIsAbove : Type 0
NextIsAbove = (fields : ℕ) (at : PlanPlace) (done : PlanKey) → at.stage.phase < PHASES → (done ≡ Start) ⊎ IsPast at done
    → place_cmp at (place_after fields at done) ≡ Less
