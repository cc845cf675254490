-- A compaction that is under way stays so through operations and commits.
use Rattle.std.proofs.Common.{◌≡◌, ℕ, zero, suc, Bool, true, false, List, [], ◌∷◌, Option, None, Some, cond, inl, inr, refl, sym, ap, ap₂, subst, ◌∙◌, true≢false, arith}
use Rattle.std.specs.Prelude.{◌&&◌, is_some, not, slice_get}
use Rattle.std.specs.List.{AllZip}
use Rattle.std.specs.Option.{IfSome}
use Rattle.entry_ref.specs.Records.{Records}
use Rattle.store_api.specs.Ledgers.{Ledger, is_this}
use Rattle.store_api.specs.declared.store.Stored.{Stored}
use Rattle.store_api.specs.Parts.{uses}
use Rattle.store_api.specs.Statuses.{Status, in_use}
use Rattle.store_api.proofs.PartLemmas.{count-stays}
use Rattle.attr_compaction.specs.Places.{PlanView}
use Rattle.attr_compaction.specs.declared.plan.PlanKey.{PlanKey}
use Rattle.image_format.specs.Tables.{AttributeTrees}
use Rattle.attr_types.specs.declared.field.Field.{Field}
use Rattle.attr_types.specs.declared.kind.ValueType.{ValueType}
use Rattle.attr_types.specs.declared.op.Op.{Op}
use Rattle.attr_compaction.specs.PhaseKeys.{HasType}
use Rattle.attr_operations.specs.Calls.{KeepsStore}
use Rattle.attr_operations.specs.Commits.{CommitsAttributes, TurnsRoot}
use Rattle.attr_operations.specs.Fields.{FlowsTrees, HoldsAttributes, parts_of}
use Rattle.attr_operations.specs.Steps.{StepsTo}
use Rattle.compaction_steps.specs.LeavesCleared.{AllStayLeavesCleared, OperationLeavesCleared}
use Rattle.compaction_steps.specs.Units.{IsUnderWay}

pub if_some_map : {A : Type 0} (P Q : A → Type 0) (o : Option A) → ((x : A) → P x → Q x) → IfSome o P → IfSome o Q
if_some_map P Q None f h = tt
if_some_map P Q (Some x) f h = f x h

typed_on : {H : Type 0} (old : Ledger H) (m n : Records) (key : PlanKey) (trees next : List AttributeTrees) (i : ℕ) → AllZip (FlowsTrees old m n) trees next
    → IfSome (slice_get trees i) (λ (a : AttributeTrees). HasType a.type key) → IfSome (slice_get next i) (λ (a : AttributeTrees). HasType a.type key)
typed_on old m n key [] [] i flows typed = tt
typed_on old m n key (a ∷ trees) (b ∷ next) zero flows typed = subst (λ (t : ValueType). HasType t key) (sym flows.0.type) typed
typed_on old m n key (a ∷ trees) (b ∷ next) (suc i) flows typed = typed_on old m n key trees next i flows.1 typed
typed_on old m n key [] (b ∷ next) i flows typed = absurd flows
typed_on old m n key (a ∷ trees) [] i flows typed = absurd flows

module _ {H : Type 0} (bits : ℕ) (old new : Ledger H) (m n : Records) where
  -- through an operation
  pub under_stepped : (fields : List Field) (trees next : List AttributeTrees) (op : Op) (root : ℕ) (plan : PlanView) → OperationLeavesCleared bits H → old.back ≡ old.status → old.bits ≡ bits
      → HoldsAttributes bits old m fields trees root → HoldsAttributes bits new n fields next root → KeepsStore old new → StepsTo fields old new m n trees op next → IsUnderWay bits root old m trees plan
      → IsUnderWay bits root new n next plan
  under_stepped fields trees next op root plan law settled is holds now keeps steps under = record {
    sealed = ap (λ (s : ℕ → Bool). s plan.victim) keeps.sealed ∙ under.sealed;
    unfinished = keeps.finished ∙ under.unfinished;
    all = under.all ∙ holds.are_fields.sized ∙ sym now.are_fields.sized;
    typed = typed_on old m n plan.place.key trees next plan.place.stage.field steps.flows under.typed;
    cleared = law plan.victim plan.place old new m n fields trees next op root root settled is under.sealed holds now steps under.cleared;
    whole = λ fresh. let was = under.whole fresh in record {
      owned = λ r lies. let most = was.owned r lies in let t = steps.turns.balance r in omega arith;
      none_left = λ r gone. was.none_left r (keeps.left r gone);
    };
  }

  -- through a commit
  pub under_committed : (fields : List Field) (trees : List AttributeTrees) (operations before root : ℕ) (answer : Stored) (plan : PlanView) → AllStayLeavesCleared → HoldsAttributes bits old m fields trees before
      → CommitsAttributes bits fields trees operations old new m n root answer → TurnsRoot old new before root
      → IsUnderWay bits before old m trees plan → IsUnderWay bits root new n trees plan
  under_committed fields trees operations before root answer plan law holds commits turns under = record {
    sealed = commits.stores.sealed plan.victim
        ∙ ap₂ (λ (s : Bool) (f : Option ℕ). s && not (is_this f plan.victim)) (ap (λ (s : ℕ → Bool). s plan.victim) commits.prepares.sealed ∙ under.sealed)
        (commits.prepares.finished ∙ under.unfinished);
    unfinished = commits.stores.finished;
    all = under.all;
    typed = under.typed;
    cleared = law bits plan.victim plan.place m n trees holds.are_fields.each commits.stay under.cleared;
    whole = λ fresh. let was = under.whole fresh in record {
      owned = λ r lies.
          let most = was.owned r lies in
          let used = turns.used r in
          let same = count-stays (parts_of trees) m n r commits.stay in
          omega arith;
      none_left = λ r gone lies. elim (turns.left r gone) [
        | inl before_left ↦ was.none_left r before_left lies
        | inr some ↦ (let most = was.owned r lies in
            let same = count-stays (parts_of trees) m n r commits.stay in
            let few = commits.holds.owns.each r in
            let unused : uses new r ≡ 0 = ap (λ (s : Status). cond (in_use s) 1 0) gone in
            absurd (omega arith))
      ];
    };
  }

-- none is under way where an emptied buffer waits
pub none_waits : {H : Type 0} (bits root : ℕ) (ledger : Ledger H) (m : Records) (trees : List AttributeTrees) (plan : Option PlanView) → IfSome plan (IsUnderWay bits root ledger m trees)
    → true ≡ is_some ledger.finished → plan ≡ None
none_waits bits root ledger m trees None under waits = refl
none_waits bits root ledger m trees (Some plan) under waits = absurd (true≢false (waits ∙ ap is_some under.unfinished))

pub none_finished : (o : Option ℕ) → false ≡ is_some o → o ≡ None
none_finished None waits = refl
none_finished (Some b) waits = absurd (true≢false (sym waits))
