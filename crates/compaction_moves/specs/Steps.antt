-- What a move of one key requires, and what it leaves, in the same form for each phase.
use Rattle.std.specs.Prelude.{◌≡◌, ◌≢◌, ℕ, true, Some, [], ◌∷◌}
use Rattle.entry_ref.specs.References.{buffer_of}
use Rattle.entry_ref.specs.Records.{Records}
use Rattle.store_api.specs.Ledgers.{Ledger}
use Rattle.store_api.specs.Parts.{Owns}
use Rattle.compaction_moves.specs.Cleared.{IsClearedField}
use Rattle.attr_compaction.specs.Places.{PlanView}
use Rattle.attr_compaction.specs.declared.plan.PlanKey.{PlanKey}
use Rattle.attr_compaction.specs.declared.plan.PlanKey.TheVariants.{Value}
use Rattle.attr_compaction.specs.declared.plan.TheConstants.{KEYS}
use Rattle.attr_field.specs.Fields.{field_part, IsField, RefersBeside}
use Rattle.image_format.specs.Tables.{AttributeTrees}
use Rattle.attr_types.specs.declared.value.Value.{Value as AnyValue}
use Rattle.value_index.specs.Indexes.{key_at}
use Rattle.compaction_moves.specs.FieldMoves.{HasBegun, MovesField}
use Rattle.attr_compaction.specs.PhaseKeys.{key_past, phase_keys}

-- in a unit that has just begun, an attribute that is cleared up to the plan's place, and the next key of the phase
pub record CanMove {H : Type 0} (bits : ℕ) (ledger : Ledger H) (m : Records) (a : AttributeTrees) (plan : PlanView) (phase : ℕ)
    (key : PlanKey) : Type 0 where
  pub unit : ledger.unit ≡ true
  pub begun : HasBegun ledger
  pub sealed : ledger.sealed plan.victim ≡ true
  pub phase_is : plan.place.stage.phase ≡ phase
  pub field : IsField a.kind a.type m a.documents a.dictionary
  pub owns : Owns ledger m (field_part a.kind a.documents a.dictionary ∷ [])
  pub refers : RefersBeside ledger a.kind m a.documents a.dictionary (field_part a.kind a.documents a.dictionary ∷ [])
  pub next : key_past plan.place.key (phase_keys a.type m a.documents a.dictionary phase) ≡ Some key
  pub cleared : IsClearedField bits plan.victim plan.place plan.place.stage.field m a

-- the move of this key copies no record of a value: in the phase of the keys, the value's record lies outside the victim
pub record CopiesNone (bits : ℕ) (m : Records) (a : AttributeTrees) (plan : PlanView) (key : PlanKey) : Type 0 where
  pub apart : (value : AnyValue) (ref : ℕ) → plan.place.stage.phase ≡ KEYS → key ≡ Value value → key_at value m a.dictionary ≡ Some ref
      → buffer_of bits ref ≢ plan.victim

-- another attribute replaces it, cleared up to the key. If no record of a value was copied, no old one is left in use
pub record Moved {H : Type 0} (bits : ℕ) (plan : PlanView) (key : PlanKey) (old new : Ledger H) (m n : Records) (a b : AttributeTrees)
    : Type 0 where
  pub moves : MovesField bits plan.victim a.kind a.type old new m n a.documents a.dictionary b.documents b.dictionary
  pub cleared : IsClearedField bits plan.victim (record { stage = plan.place.stage; key = key }) plan.place.stage.field n b
  pub left_none : CopiesNone bits m a plan key → moves.left ≡ []
