-- Visited keys, as laws.
use Rattle.std.specs.Prelude.{◌≡◌, ◌≢◌, ℕ, ◌<◌, ◌≤◌, false}
use Rattle.std.specs.declared.cmp.Ordering.TheVariants.{Less}
use Rattle.entry_ref.specs.References.{buffer_of}
use Rattle.entry_ref.specs.Records.{Records, Among}
use Rattle.image_format.specs.Attributes.{trees_reach, IsLawfulAttribute}
use Rattle.image_format.specs.Tables.{AttributeTrees}
use Rattle.attr_compaction.specs.Places.{first_place, is_start, place_cmp, PlanPlace}
use Rattle.attr_compaction.specs.declared.plan.PlanKey.{PlanKey}
use Rattle.attr_compaction.specs.declared.plan.TheConstants.{PHASES}
use Rattle.compaction_moves.specs.Cleared.{IsClearedField, IsVisited}

-- at first no key is visited
abbrev pub NothingIsVisited : Type 0
NothingIsVisited = (field phase : ℕ) (key : PlanKey) → is_start key ≡ false → IsVisited first_place field phase key → ⊥

-- a visited key is visited at each later place
abbrev pub VisitedStays : Type 0
VisitedStays = (at next : PlanPlace) (field phase : ℕ) (key : PlanKey) → place_cmp at next ≡ Less → IsVisited at field phase key
    → IsVisited next field phase key

-- past the phases of an attribute all its keys are visited, and all keys of the attributes before it
abbrev pub AllIsVisited : Type 0
AllIsVisited = (at : PlanPlace) (field phase : ℕ) (key : PlanKey) → at.stage.phase ≡ PHASES → field ≤ at.stage.field → phase < PHASES
    → IsVisited at field phase key

-- then nothing that a lawful attribute reaches lies in the victim
abbrev pub NothingIsLeft : Type 0
NothingIsLeft = (bits victim field : ℕ) (at : PlanPlace) (m : Records) (a : AttributeTrees) → at.stage.phase ≡ PHASES
    → field ≤ at.stage.field
    → IsLawfulAttribute a.kind a.type m a.documents a.dictionary → IsClearedField bits victim at field m a
    → (r : ℕ) → Among r (trees_reach a.kind m a.documents a.dictionary) → buffer_of bits r ≢ victim
