-- A change of the index beside the documents, and of the documents beside the index.
use Rattle.std.proofs.Common.{◌≡◌, ℕ, suc, ◌<◌, List, [], ◌∷◌, length, map, refl, sym, ap, subst, arith, inl, inr}
use Rattle.std.specs.Prelude.{Contains, ℤ, Option, None}
use Rattle.std.specs.List.{AllByRecursion}
use Rattle.entry_ref.proofs.Pairs.{same-from}
use Rattle.entry_ref.proofs.Among.{Among-all}
use Rattle.entry_ref.specs.Records.{Records, Among, SameAt}
use Rattle.store_api.specs.Ledgers.{Ledger}
use Rattle.store_api.specs.Parts.{After, Turns, count_in, uses}
use Rattle.store_api.proofs.PartLemmas.{after}
use Rattle.store_api.proofs.Times.{among-times}
use Rattle.attr_field.specs.DocumentsChanges.{AreBeside, MakesDocuments}
use Rattle.attr_field.specs.Documents.{documents_part, documents_refer, IsDocuments}
use Rattle.attr_field.specs.DocumentsLaws.{DocumentsStay, DocumentsHaveValues}
use Rattle.image_format.specs.Documents.{column_at}
use Rattle.image_format.specs.Postings.{index_of}
use Rattle.image_format.specs.Values.{stored_value}
use Rattle.index_model.proofs.OfLemmas.{no_documents}
use Rattle.index_model.specs.Changes.{IsBetween}
use Rattle.index_model.specs.Columns.{Column, column_values, documents_with}
use Rattle.index_model.specs.Index.{Index, IsIndexOf, list_of}
use Rattle.attr_types.specs.declared.kind.Kind.{Kind}
use Rattle.attr_types.specs.declared.kind.ValueType.{ValueType}
use Rattle.attr_types.specs.declared.value.Value.{Value}
use Rattle.value_index.proofs.WalksKeyLemmas.{settled_long}
use Rattle.value_index.specs.Changes.{KeepsKeys}
use Rattle.value_index.specs.Flows.{FlowsIndex}
use Rattle.value_index.specs.Forms.{KeepsForm}
use Rattle.value_index.specs.Indexes.{index_part, index_reach, IsIndex, IsKey}
use Rattle.value_index.specs.Laws.{FormStays, IndexStays, KeyIsRead}
use Rattle.attr_field.specs.Changes.{KeepsCopies}
use Rattle.attr_field.specs.Steps.{StandsField, StepsField}
use Rattle.attr_field.proofs.CopyLemmas.{refers_after}
use Rattle.attr_field.proofs.FlowLemmas.{field_flows_documents, field_flows_index}

-- ---- the index is another
module _ (documents_stay : DocumentsStay) {H : Type 0} (kind : Kind) (type : ValueType) (old new : Ledger H) (m n : Records) (documents dictionary next : ℕ)
    (stands : StandsField kind type old m documents dictionary) (index_is : IsIndex type n next) (keys : KeepsKeys type m n dictionary next)
    (flows : FlowsIndex type old m n dictionary next) (turns : Turns old new m n (index_part dictionary ∷ []) (index_part next ∷ []))
    (listed : (r : ℕ) → Among r (documents_refer kind m documents) → 0 < length (list_of (stored_value type m r) (index_of type n next))) where
  index_after : After old new m n (documents_part kind documents ∷ index_part dictionary ∷ []) (documents_part kind documents ∷ index_part next ∷ [])
      (documents_part kind documents ∷ [])
  index_after = after old new m n (index_part dictionary ∷ []) (index_part next ∷ []) (documents_part kind documents ∷ [])
      (documents_part kind documents ∷ index_part dictionary ∷ []) (documents_part kind documents ∷ index_part next ∷ []) stands.owns turns
      (λ k r. omega arith) (λ k r. omega arith)

  index_refer : SameAt (documents_refer kind m documents) m n
  index_refer = same-from (documents_refer kind m documents) m n (λ r among. elim (stands.refers.each r among) [
    | inl key ↦ (keys.kept r key (listed r among)).1
    | inr free ↦ turns.kept r (omega arith)
  ])

  index_documents : IsDocuments kind type n documents × (column_at kind type n documents ≡ column_at kind type m documents)
      × (documents_refer kind n documents ≡ documents_refer kind m documents)
  index_documents = documents_stay kind type m n documents index_after.stay.0 index_refer stands.documents_are

  index_keeps : KeepsCopies old kind m n documents (documents_part kind documents ∷ index_part dictionary ∷ []) documents next
  index_keeps = record {
    each = λ r among. let was = subst (Among r) index_documents.2 among in elim (stands.refers.each r was) [
      | inl key ↦ inl (keys.kept r key (listed r was)).0
      | inr free ↦ inr (was, free)
    ];
  }

  pub index_steps : StepsField kind type old new m n documents dictionary (column_at kind type m documents) documents next
  index_steps = record {
    stands = record {
      documents_are = index_documents.0;
      index_is = index_is;
      refers = refers_after kind old new m n documents documents next (documents_part kind documents ∷ index_part dictionary ∷ [])
          (documents_part kind documents ∷ index_part next ∷ []) index_after.turns index_keeps;
      owns = index_after.owns;
    };
    column_is = index_documents.1;
    refers = index_keeps;
    flows = field_flows_index kind type old m n documents dictionary next index_after.stay.0 flows;
    turns = index_after.turns;
  }

-- ---- the documents are others
module _ (index_stays : IndexStays) {H : Type 0} (kind : Kind) (type : ValueType) (old new : Ledger H) (m n : Records) (documents dictionary next : ℕ) (keys : List ℕ)
    (column : Column) (stands : StandsField kind type old m documents dictionary) (makes : MakesDocuments kind type old new m n documents keys column next)
    (are : AllByRecursion (IsKey m dictionary) keys) where
  documents_after : After old new m n (documents_part kind documents ∷ index_part dictionary ∷ []) (documents_part kind next ∷ index_part dictionary ∷ [])
      (index_part dictionary ∷ [])
  documents_after = after old new m n (documents_part kind documents ∷ []) (documents_part kind next ∷ []) (index_part dictionary ∷ [])
      (documents_part kind documents ∷ index_part dictionary ∷ []) (documents_part kind next ∷ index_part dictionary ∷ []) stands.owns makes.turns
      (λ k r. omega arith) (λ k r. omega arith)

  documents_index : IsIndex type n dictionary × (index_of type n dictionary ≡ index_of type m dictionary) × ((ref : ℕ) → IsKey m dictionary ref → IsKey n dictionary ref)
  documents_index = index_stays type m n dictionary documents_after.stay.0 stands.index_is

  pub documents_index_same : index_of type n dictionary ≡ index_of type m dictionary
  documents_index_same = documents_index.1

  pub documents_form : FormStays → KeepsForm type m n dictionary
  documents_form stays = stays type m n dictionary documents_after.stay.0

  documents_keeps : KeepsCopies old kind m n documents (documents_part kind documents ∷ index_part dictionary ∷ []) next dictionary
  documents_keeps = record {
    each = λ r among. elim (makes.refers r among) [
      | inl was ↦ elim (stands.refers.each r was) [
        | inl key ↦ inl (documents_index.2 r key)
        | inr free ↦ inr (was, free)
      ]
      | inr given ↦ inl (documents_index.2 r (Among-all (IsKey m dictionary) keys are r given))
    ];
  }

  pub documents_steps : StepsField kind type old new m n documents dictionary column next dictionary
  documents_steps = record {
    stands = record {
      documents_are = makes.documents_are;
      index_is = documents_index.0;
      refers = refers_after kind old new m n documents next dictionary (documents_part kind documents ∷ index_part dictionary ∷ [])
          (documents_part kind next ∷ index_part dictionary ∷ []) documents_after.turns documents_keeps;
      owns = documents_after.owns;
    };
    column_is = makes.column_is;
    refers = documents_keeps;
    flows = field_flows_documents kind type old m n documents dictionary next keys documents_after.stay.0 are makes.flows;
    turns = documents_after.turns;
  }

-- keys are owned beside the documents
module _ (key_read : KeyIsRead) {H : Type 0} (kind : Kind) (type : ValueType) (ledger : Ledger H) (m : Records) (documents dictionary : ℕ)
    (stands : StandsField kind type ledger m documents dictionary) where
  pub keys_owned : (r : ℕ) → IsKey m dictionary r → 0 < count_in r m (documents_part kind documents ∷ index_part dictionary ∷ [])
  keys_owned r key = let some = among-times r (index_reach m dictionary) (key_read type m dictionary r stands.index_is key).owned in omega arith

  key_beside : (r : ℕ) → IsKey m dictionary r → count_in r m (documents_part kind documents ∷ []) < uses ledger r
  key_beside r key =
      let some = among-times r (index_reach m dictionary) (key_read type m dictionary r stands.index_is key).owned in
      let all = stands.owns.each r in
      omega arith

  pub refer_beside : AreBeside ledger m (documents_part kind documents ∷ []) (documents_refer kind m documents)
  refer_beside = record {
    each = λ r among. elim (stands.refers.each r among) [
      | inl key ↦ key_beside r key
      | inr free ↦ omega arith
    ];
  }

  pub keys_beside : (keys : List ℕ) → AllByRecursion (IsKey m dictionary) keys → AreBeside ledger m (documents_part kind documents ∷ []) keys
  keys_beside keys are = record { each = λ r among. key_beside r (Among-all (IsKey m dictionary) keys are r among) }

-- ---- each value of the documents is in their index
contains_map : (f : ℕ → Value) (refs : List ℕ) (r : ℕ) → Among r refs → Contains (map f refs) (f r)
contains_map f [] r among = absurd among
contains_map f (q ∷ refs) r (inl e) = (0, omega arith, ap f (sym e))
contains_map f (q ∷ refs) r (inr later) = let there = contains_map f refs r later in (suc there.0, (let below = there.1 in omega arith), there.2)

some_documents : (value : Value) (column : Column) (docs : List (ℕ × ℤ)) → documents_with value column ≡ docs → Contains (column_values column) value → 0 < length docs
some_documents value column [] is there = absurd (no_documents value column is there)
some_documents value column (e ∷ docs) is there = omega arith

pub ended_listed : DocumentsHaveValues → (kind : Kind) (type : ValueType) (m : Records) (documents : ℕ) (index : Index) → IsIndexOf (column_at kind type m documents) index
    → (r : ℕ) → Among r (documents_refer kind m documents) → 0 < length (list_of (stored_value type m r) index)
ended_listed values kind type m documents index of r among =
    let value = stored_value type m r in
    let there = subst (λ vs. Contains vs value) (values kind type m documents) (contains_map (stored_value type m) (documents_refer kind m documents) r among) in
    subst (λ docs. 0 < length docs) (sym (of.lists value)) (some_documents value (column_at kind type m documents) (documents_with value (column_at kind type m documents)) refl there)

-- and stays there while documents are added
pub added_listed : DocumentsHaveValues → (kind : Kind) (type : ValueType) (m : Records) (documents dictionary doc : ℕ) (added : Value → Option ℤ) (index : Index)
    → IsIndexOf (column_at kind type m documents) (index_of type m dictionary) → IsBetween (index_of type m dictionary) doc added (λ v. None) index
    → (r : ℕ) → Among r (documents_refer kind m documents) → 0 < length (list_of (stored_value type m r) index)
added_listed values kind type m documents dictionary doc added index of between r among =
    let value = stored_value type m r in
    subst (λ docs. 0 < length docs) (sym (between.lists value))
    (settled_long (added value) doc (list_of value (index_of type m dictionary)) (ended_listed values kind type m documents (index_of type m dictionary) of r among))
