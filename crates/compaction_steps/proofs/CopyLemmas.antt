-- What the move of a key copies.
use Rattle.std.proofs.Common.{◌≡◌, ℕ, false, true≢false, Some, sym, ap, subst, ◌∙◌}
use Rattle.entry_ref.specs.References.{buffer_of}
use Rattle.entry_ref.specs.Records.{Records}
use Rattle.image_format.specs.Tables.{AttributeTrees}
use Rattle.attr_types.specs.declared.value.Value.{Value as AnyValue}
use Rattle.attr_compaction.specs.Places.{has_key, value_in, PlanView}
use Rattle.attr_compaction.specs.declared.plan.PlanKey.{PlanKey}
use Rattle.attr_compaction.specs.declared.plan.PlanKey.TheVariants.{Value}
use Rattle.attr_compaction.specs.declared.plan.TheConstants.{KEYS}
use Rattle.value_index.specs.Indexes.{key_at}
use Rattle.compaction_moves.specs.Steps.{CopiesNone}

module _ (bits : ℕ) (m : Records) (a : AttributeTrees) (plan : PlanView) (key : PlanKey) where
  -- in another phase
  pub copies_elsewhere : (plan.place.stage.phase ≡ KEYS → ⊥) → CopiesNone bits m a plan key
  copies_elsewhere other = record { apart = λ value ref phase is there. absurd (other phase) }

  -- a key that is no value
  pub copies_no_value : has_key KEYS key ≡ false → CopiesNone bits m a plan key
  copies_no_value other = record { apart = λ value ref phase is there. absurd (true≢false (sym (ap (has_key KEYS) is) ∙ other)) }

  -- a value whose record lies elsewhere
  pub copies_apart : (value : AnyValue) → key ≡ Value value → ((ref : ℕ) → key_at value m a.dictionary ≡ Some ref → buffer_of bits ref ≡ plan.victim → ⊥) → CopiesNone bits m a plan key
  copies_apart value is far = record {
    apart = λ other ref phase same there.
        far ref (subst (λ (v : AnyValue). key_at v m a.dictionary ≡ Some ref) (ap value_in (sym same ∙ is)) there);
  }
