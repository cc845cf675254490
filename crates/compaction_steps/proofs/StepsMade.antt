-- What was cleared of attributes, through an operation.
use Rattle.std.proofs.Common.{◌≡◌, ℕ, zero, suc, ◌<◌, List, [], ◌∷◌, Some, true, inl, inr, refl, sym, ap, subst, ◌∙◌, arith}
use Rattle.std.specs.Prelude.{slice_get}
use Rattle.std.specs.List.{AllZip}
use Rattle.list_lemmas.proofs.Each.{AllByRecursion-slice_get}
use Rattle.entry_ref.specs.References.{buffer_of}
use Rattle.entry_ref.specs.Records.{Records, Among}
use Rattle.store_api.specs.Ledgers.{Ledger}
use Rattle.store_api.specs.Parts.{count_in, entries}
use Rattle.store_api.specs.Statuses.{Status, in_use}
use Rattle.store_api.proofs.Times.{among-times}
use Rattle.store_api.proofs.Uses.{in-uses}
use Rattle.attr_field.specs.Documents.{documents_refer}
use Rattle.attr_field.specs.Fields.{RefersBeside}
use Rattle.image_format.specs.Tables.{AttributeTrees}
use Rattle.array_store.specs.Roots.{root_entries}
use Rattle.attr_operations.specs.Fields.{part_of, parts_of, FlowsTrees, HoldsAttributes, IsFieldAt}
use Rattle.attr_types.specs.declared.kind.Kind.{Kind}
use Rattle.attr_types.specs.declared.kind.ValueType.{ValueType}
use Rattle.compaction_moves.specs.Cleared.{IsClearedField}
use Rattle.compaction_steps.specs.StepsLaws.{OperationLeavesCleared}
use Rattle.compaction_steps.proofs.StepsField.{field_next}
use Rattle.compaction_steps.proofs.StepsOwned.{key_is_owned}
use Rattle.compaction_steps.proofs.SameLemmas.{none_some, some_or}

pub counted : (r : ℕ) (m : Records) (trees : List AttributeTrees) (i : ℕ) (a : AttributeTrees) → slice_get trees i ≡ Some a → Among r ((part_of a).reach m)
    → 0 < count_in r m (parts_of trees)
counted r m [] i a at among = absurd (none_some a at)
counted r m (first ∷ trees) zero a at among =
    let some = among-times r ((part_of first).reach m) (subst (λ (x : AttributeTrees). Among r ((part_of x).reach m)) (sym (ap (some_or first) at)) among) in omega arith
counted r m (first ∷ trees) (suc i) a at among = let some = counted r m trees i a at among in omega arith

-- the one in whose place another stands
record Former (R : AttributeTrees → AttributeTrees → Type 0) (trees : List AttributeTrees) (i : ℕ) (b : AttributeTrees) : Type 0 where
  former : AttributeTrees
  at : slice_get trees i ≡ Some former
  joined : R former b

former_of : (R : AttributeTrees → AttributeTrees → Type 0) (trees next : List AttributeTrees) → AllZip R trees next → (i : ℕ) (b : AttributeTrees) → slice_get next i ≡ Some b
    → Former R trees i b
former_of R [] [] all i b at = absurd (none_some b at)
former_of R [] (y ∷ next) all i b at = absurd all
former_of R (x ∷ trees) [] all i b at = absurd all
former_of R (x ∷ trees) (y ∷ next) all zero b at = record { former = x; at = refl; joined = subst (R x) (ap (some_or y) at) all.0 }
former_of R (x ∷ trees) (y ∷ next) all (suc i) b at =
    let found = former_of R trees next all.1 i b at in record { former = found.former; at = found.at; joined = found.joined }

-- ---- what is owned, and what is referred to, is in use
module _ {H : Type 0} (bits : ℕ) (ledger : Ledger H) (m : Records) (fields : List _) (trees : List AttributeTrees) (root : ℕ)
    (holds : HoldsAttributes bits ledger m fields trees root) (i : ℕ) (a : AttributeTrees) (at : slice_get trees i ≡ Some a) where
  pub owned_used : (r : ℕ) → Among r ((part_of a).reach m) → in_use (ledger.status r) ≡ true
  owned_used r among =
      let some = counted r m trees i a at among in
      let few = holds.owns.each r in
      in-uses ledger r (omega arith)

  pub referred_used : (r : ℕ) → Among r (documents_refer a.kind m a.documents) → in_use (ledger.status r) ≡ true
  referred_used r among =
      let refers = AllByRecursion-slice_get (λ (x : AttributeTrees). RefersBeside ledger x.kind m x.documents x.dictionary (entries (root_entries root) ∷ parts_of trees)) trees i a holds.refer at in
      elim (refers.each r among) [
        | inl key ↦ owned_used r (key_is_owned a.kind m a.documents a.dictionary r key)
        | inr less ↦ in-uses ledger r (omega arith)
      ]

-- ---- one attribute, which may say its kind and type otherwise
module _ (kind : Kind) (type : ValueType) (b : AttributeTrees) (kind_is : b.kind ≡ kind) (type_is : b.type ≡ type) where
  abbrev named : AttributeTrees
  named = record { kind = kind; type = type; documents = b.documents; dictionary = b.dictionary }

  pub named_is : named ≡ b
  named_is = ap (λ (k : Kind). record { kind = k; type = type; documents = b.documents; dictionary = b.dictionary }) (sym kind_is)
      ∙ ap (λ (t : ValueType). record { kind = b.kind; type = t; documents = b.documents; dictionary = b.dictionary }) (sym type_is)

pub operation_clear : {H : Type 0} (bits : ℕ) → OperationLeavesCleared bits H
operation_clear bits victim at old new m n fields trees next op before root back_is bits_are sealed holds holds_then steps cleared field b here =
    let found = former_of (FlowsTrees old m n) trees next steps.flows field b here in
    let a = found.former in
    let flows = found.joined in
    let same = named_is a.kind a.type b flows.kind flows.type in
    let is = AllByRecursion-slice_get (IsFieldAt m) trees field a holds.are_fields.each found.at in
    let is_then = AllByRecursion-slice_get (IsFieldAt n) next field b holds_then.are_fields.each here in
    let began : (r : ℕ) → in_use (old.status r) ≡ true → in_use (old.back r) ≡ true = λ r now_used. ap (λ (s : ℕ → Status). in_use (s r)) back_is ∙ now_used in
    subst (IsClearedField bits victim at field n) same (
    field_next bits victim field at old new m n a.kind a.type a.documents a.dictionary b.documents b.dictionary is (subst (IsFieldAt n) (sym same) is_then)
    (λ r among. began r (owned_used bits old m fields trees before holds field a found.at r among))
    (λ r among. owned_used bits new n fields next root holds_then field b here r (subst (λ (x : AttributeTrees). Among r ((part_of x).reach n)) same among))
    (λ r among. referred_used bits new n fields next root holds_then field b here r (subst (λ (x : AttributeTrees). Among r (documents_refer x.kind n x.documents)) same among))
    (λ r now_used in_victim. began r (steps.unsealed.each r now_used
    (ap (λ (w : ℕ). old.sealed (buffer_of w r)) bits_are ∙ ap (λ (w : ℕ). old.sealed w) in_victim ∙ sealed)))
    steps.words flows.flows (cleared field a found.at))
