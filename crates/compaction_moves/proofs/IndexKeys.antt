-- The keys of a phase are told by what the index and the column read as, and by the form of each list.
use Rattle.std.proofs.Common.{◌≡◌, ℕ, ℤ, Bool, true, false, cond, nat_eq, List, [], ◌∷◌, ◌++◌, map, refl, sym, ap, ap₂, ◌∙◌}
use Rattle.entry_ref.specs.Records.{Records}
use Rattle.tree_read.specs.Trees.{tree_pairs}
use Rattle.image_format.specs.Documents.{items_at}
use Rattle.image_format.specs.Postings.{list_form, postings_at}
use Rattle.image_format.specs.Values.{stored_value}
use Rattle.index_model.specs.Columns.{Column}
use Rattle.attr_types.specs.declared.items.Item.{Item}
use Rattle.attr_types.specs.declared.kind.ValueType.{ValueType}
use Rattle.attr_types.specs.declared.value.Value.{Value as AnyValue}
use Rattle.attr_compaction.specs.declared.plan.PlanKey.{PlanKey}
use Rattle.attr_compaction.specs.declared.plan.PlanKey.TheVariants.{Value, Doc, Pair}
use Rattle.attr_compaction.specs.PhaseKeys.{document_keys, keys_of_pairs, pair_keys, value_keys}
use Rattle.posting_store.specs.Moves.{form_docs}
use Rattle.compaction_moves.specs.IndexLaws.{KeysAreSame}

abbrev Docs : Type 0
Docs = List (ℕ × ℤ)

-- the keys of values with the documents of their lists in the form of keys
keys_of_values : List (AnyValue × Docs) → List (List ℕ) → List PlanKey
keys_of_values [] lists = []
keys_of_values (e ∷ es) [] = []
keys_of_values (e ∷ es) (docs ∷ lists) = map (λ doc. Pair e.0 doc) docs ++ keys_of_values es lists

module _ (type : ValueType) (m : Records) where
  abbrev shown : ℕ × ℕ → AnyValue × Docs
  shown p = (stored_value type m p.0, postings_at m (list_form p.1))

  values_shown : (ps : List (ℕ × ℕ)) → map (λ p. Value (stored_value type m p.0)) ps ≡ map (λ e. Value e.0) (map shown ps)
  values_shown [] = refl
  values_shown (p ∷ ps) = ap (λ ks. Value (stored_value type m p.0) ∷ ks) (values_shown ps)

  pairs_shown : (ps : List (ℕ × ℕ)) → keys_of_pairs type m ps ≡ keys_of_values (map shown ps) (map (λ p. form_docs m (list_form p.1)) ps)
  unfolding keys_of_values
  pairs_shown [] = refl
  pairs_shown (p ∷ ps) = ap (λ (ks : List PlanKey). map (λ doc. Pair (stored_value type m p.0) doc) (form_docs m (list_form p.1)) ++ ks) (pairs_shown ps)

documents_shown : (f : ℕ × ℕ → List Item) (ps : List (ℕ × ℕ)) → map (λ p. Doc p.0) ps ≡ map (λ e. Doc e.0) (map {B = ℕ × List Item} (λ p. (p.0, f p)) ps)
documents_shown f [] = refl
documents_shown f (p ∷ ps) = ap (λ ks. Doc p.0 ∷ ks) (documents_shown f ps)

pub keys_are_same : KeysAreSame
keys_are_same kind type m n documents dictionary next_documents next_dictionary phase index lists column = told (nat_eq phase 0) (nat_eq phase 1) (nat_eq phase 2)
  where
    values : value_keys type n next_dictionary ≡ value_keys type m dictionary
    values =
        values_shown type n (tree_pairs n next_dictionary)
        ∙ ap (λ (entries : List (AnyValue × Docs)). map (λ e. Value e.0) entries) index
        ∙ sym (values_shown type m (tree_pairs m dictionary))

    pairs : pair_keys type n next_dictionary ≡ pair_keys type m dictionary
    pairs = pairs_shown type n (tree_pairs n next_dictionary) ∙ ap₂ keys_of_values index lists ∙ sym (pairs_shown type m (tree_pairs m dictionary))

    docs : document_keys n next_documents ≡ document_keys m documents
    docs =
        documents_shown (λ p. items_at kind type n p.1) (tree_pairs n next_documents)
        ∙ ap (λ (entries : Column). map (λ e. Doc e.0) entries) column
        ∙ sym (documents_shown (λ p. items_at kind type m p.1) (tree_pairs m documents))

    told : (a b c : Bool) → cond a (value_keys type n next_dictionary)
        (cond b (document_keys n next_documents) (cond c (pair_keys type n next_dictionary) (value_keys type n next_dictionary ++ document_keys n next_documents)))
        ≡ cond a (value_keys type m dictionary) (cond b (document_keys m documents) (cond c (pair_keys type m dictionary) (value_keys type m dictionary ++ document_keys m documents)))
    told true b c = values
    told false true c = docs
    told false false true = pairs
    told false false false = ap₂ (λ (xs ys : List PlanKey). xs ++ ys) values docs
