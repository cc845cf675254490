-- What the next key of a phase is.
use Rattle.std.proofs.Common.{◌≡◌, ℕ, zero, suc, ◌<◌, Bool, true, false, cond, List, [], ◌∷◌, map, Some, refl, subst, arith}
use Rattle.std.specs.List.{find, AllByRecursion}
use Rattle.std.specs.Ordering.{is_lt}
use Rattle.list_lemmas.proofs.Options.{same_Some}
use Rattle.list_lemmas.proofs.Each.{AllByRecursion-append}
use Rattle.entry_ref.specs.Records.{Records}
use Rattle.tree_read.specs.Trees.{tree_pairs}
use Rattle.attr_compaction.specs.Places.{has_key, key_cmp}
use Rattle.attr_compaction.specs.declared.plan.PlanKey.{PlanKey}
use Rattle.attr_compaction.specs.declared.plan.PlanKey.TheVariants.{Start, Value, Doc, Pair}
use Rattle.image_format.proofs.ImageLemmas.{value_typed}
use Rattle.image_format.specs.Postings.{list_form}
use Rattle.image_format.specs.Values.{stored_value}
use Rattle.attr_types.specs.Lawful.{IsDocNumber}
use Rattle.attr_types.specs.Value.{type_of}
use Rattle.attr_types.specs.declared.kind.ValueType.{ValueType}
use Rattle.doc_vector.specs.Documents.{IsDocumentMap, IsDocumentPair}
use Rattle.attr_compaction.specs.PhaseKeys.{document_keys, key_past, keys_of_pairs, phase_keys, value_keys}
use Rattle.posting_store.specs.Moves.{form_docs}

-- a key of this phase: a value of the type, or a document's number
abbrev pub IsFine : ValueType → ℕ → PlanKey → Type 0
IsFine type phase Start = ⊥
IsFine type phase (Value value) = (type_of value ≡ type) × (has_key phase (Value value) ≡ true)
IsFine type phase (Doc doc) = IsDocNumber doc × (has_key phase (Doc doc) ≡ true)
IsFine type phase (Pair value doc) = (type_of value ≡ type) × (has_key phase (Pair value doc) ≡ true)

found : (test : PlanKey → Bool) (P : PlanKey → Type 0) (key : PlanKey) (keys : List PlanKey) → AllByRecursion P keys → find test keys ≡ Some key → P key
found test P key [] all is = absurd (grind (arith, is))
found test P key (k ∷ keys) all is =
    (elim (test k) as (λ b. cond b (Some k) (find test keys) ≡ Some key → P key) [
      | true ↦ λ h. subst P (same_Some k key h) all.0
      | false ↦ λ h. found test P key keys all.1 h
    ]) is

-- ---- the keys of a phase
module _ (type : ValueType) (m : Records) (phase : ℕ) where
  all_values : ((value : _) → has_key phase (Value value) ≡ true) → (ps : List (ℕ × ℕ)) → AllByRecursion (IsFine type phase) (map (λ p. Value (stored_value type m p.0)) ps)
  all_values has [] = tt
  all_values has (p ∷ ps) = ((value_typed type (m p.0), has (stored_value type m p.0)), all_values has ps)

  all_documents : ((doc : ℕ) → has_key phase (Doc doc) ≡ true) → (ps : List (ℕ × ℕ)) → AllByRecursion IsDocumentPair ps → AllByRecursion (IsFine type phase) (map (λ p. Doc p.0) ps)
  all_documents has [] all = tt
  all_documents has (p ∷ ps) all = ((all.0.document, has p.0), all_documents has ps all.1)

  all_in : ((value : _) (doc : ℕ) → has_key phase (Pair value doc) ≡ true) → (r : ℕ) (docs : List ℕ) → AllByRecursion (IsFine type phase) (map (λ doc. Pair (stored_value type m r) doc) docs)
  all_in has r [] = tt
  all_in has r (doc ∷ docs) = ((value_typed type (m r), has (stored_value type m r) doc), all_in has r docs)

  all_pairs : ((value : _) (doc : ℕ) → has_key phase (Pair value doc) ≡ true) → (ps : List (ℕ × ℕ)) → AllByRecursion (IsFine type phase) (keys_of_pairs type m ps)
  all_pairs has [] = tt
  all_pairs has (p ∷ ps) =
      AllByRecursion-append (IsFine type phase) (map (λ doc. Pair (stored_value type m p.0) doc) (form_docs m (list_form p.1))) (keys_of_pairs type m ps)
      (all_in has p.0 (form_docs m (list_form p.1))) (all_pairs has ps)

all_fine : (type : ValueType) (m : Records) (documents dictionary phase : ℕ) → IsDocumentMap m documents → phase < 4
    → AllByRecursion (IsFine type phase) (phase_keys type m documents dictionary phase)
all_fine type m documents dictionary zero is below = all_values type m 0 (λ value. refl) (tree_pairs m dictionary)
all_fine type m documents dictionary (suc zero) is below = all_documents type m 1 (λ doc. refl) (tree_pairs m documents) is.pairs
all_fine type m documents dictionary (suc (suc zero)) is below = all_pairs type m 2 (λ value doc. refl) (tree_pairs m dictionary)
all_fine type m documents dictionary (suc (suc (suc zero))) is below =
    AllByRecursion-append (IsFine type 3) (value_keys type m dictionary) (document_keys m documents) (all_values type m 3 (λ value. refl) (tree_pairs m dictionary))
    (all_documents type m 3 (λ doc. refl) (tree_pairs m documents) is.pairs)
all_fine type m documents dictionary (suc (suc (suc (suc phase)))) is below = absurd (omega arith)

pub next_fine : (type : ValueType) (m : Records) (documents dictionary phase : ℕ) (at key : PlanKey) → IsDocumentMap m documents → phase < 4
    → key_past at (phase_keys type m documents dictionary phase) ≡ Some key → IsFine type phase key
next_fine type m documents dictionary phase at key is below next =
    found (λ k. is_lt (key_cmp at k)) (IsFine type phase) key (phase_keys type m documents dictionary phase) (all_fine type m documents dictionary phase is below) next

-- which phase a key is of
pub value_phase : (phase : ℕ) (value : _) → phase < 4 → has_key phase (Value value) ≡ true → (phase ≡ 0 → ⊥) → phase ≡ 3
value_phase zero value below has other = absurd (other refl)
value_phase (suc zero) value below has other = absurd (grind (arith, has))
value_phase (suc (suc zero)) value below has other = absurd (grind (arith, has))
value_phase (suc (suc (suc zero))) value below has other = refl
value_phase (suc (suc (suc (suc phase)))) value below has other = absurd (omega arith)

pub document_phase : (phase doc : ℕ) → phase < 4 → has_key phase (Doc doc) ≡ true → (phase ≡ 1 → ⊥) → phase ≡ 3
document_phase zero doc below has other = absurd (grind (arith, has))
document_phase (suc zero) doc below has other = absurd (other refl)
document_phase (suc (suc zero)) doc below has other = absurd (grind (arith, has))
document_phase (suc (suc (suc zero))) doc below has other = refl
document_phase (suc (suc (suc (suc phase)))) doc below has other = absurd (omega arith)

pub pair_phase : (phase : ℕ) (value : _) (doc : ℕ) → phase < 4 → has_key phase (Pair value doc) ≡ true → phase ≡ 2
pair_phase zero value doc below has = absurd (grind (arith, has))
pair_phase (suc zero) value doc below has = absurd (grind (arith, has))
pair_phase (suc (suc zero)) value doc below has = refl
pair_phase (suc (suc (suc zero))) value doc below has = absurd (grind (arith, has))
pair_phase (suc (suc (suc (suc phase)))) value doc below has = absurd (omega arith)
