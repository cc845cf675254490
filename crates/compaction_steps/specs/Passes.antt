-- Keys of a phase that are passed together.
use Rattle.std.specs.Prelude.{◌≡◌, ℕ, ◌<◌, List, [], ◌∷◌, length, Some}
use Rattle.entry_ref.specs.Records.{Records}
use Rattle.compaction_moves.specs.Cleared.{IsClearedField}
use Rattle.compaction_moves.specs.Visits.{place_at_key}
use Rattle.attr_compaction.specs.Places.{PlanPlace}
use Rattle.attr_compaction.specs.declared.plan.PlanKey.{PlanKey}
use Rattle.attr_field.specs.Documents.{IsDocuments}
use Rattle.image_format.specs.Tables.{AttributeTrees}
use Rattle.attr_compaction.specs.PhaseKeys.{key_past, phase_keys, HasType}
use Rattle.value_index.specs.Indexes.{IsIndex}

-- each of these keys is the next after the one before it, and the last is `to`; without keys, `to` is the first one
abbrev pub GoesThrough : List PlanKey → PlanKey → List PlanKey → PlanKey → Type 0
GoesThrough keys from [] to = to ≡ from
GoesThrough keys from (key ∷ passed) to = (key_past from keys ≡ Some key) × GoesThrough keys key passed to

-- up to this key there are this many keys of the place's phase, and everything up to it is cleared
pub record Passes (bits victim : ℕ) (at : PlanPlace) (m : Records) (a : AttributeTrees) (key : PlanKey) (count : ℕ) : Type 0 where
  pub some : 0 < count
  pub passed : List PlanKey
  pub count_is : length passed ≡ count
  pub through : GoesThrough (phase_keys a.type m a.documents a.dictionary at.stage.phase) at.key passed key
  pub cleared : IsClearedField bits victim (place_at_key at key) at.stage.field m a

-- an attribute that is cleared up to a place with this key of its phase
pub record CanPass (bits victim : ℕ) (at : PlanPlace) (m : Records) (a : AttributeTrees) (phase : ℕ) (key : PlanKey) : Type 0 where
  pub phase_is : at.stage.phase ≡ phase
  pub key_is : at.key ≡ key
  pub documents_are : IsDocuments a.kind a.type m a.documents
  pub index_is : IsIndex a.type m a.dictionary
  pub typed : HasType a.type key
  pub cleared : IsClearedField bits victim at at.stage.field m a
