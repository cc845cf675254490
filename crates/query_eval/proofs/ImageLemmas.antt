-- What a lawful image says of its dictionaries and its table.
use Rattle.std.proofs.Common.{◌≡◌, ◌≤◌, ◌<◌, ◌+◌, ◌^◌, ℕ, ℤ, zero, suc, List, [], ◌∷◌, length, map, refl, ap, subst, Some, arith}
use Rattle.std.specs.Prelude.{slice_get}
use Rattle.std.specs.List.{AllByRecursion}
use Rattle.entry_ref.specs.Records.{Records}
use Rattle.tree_read.specs.Trees.{tree_pairs}
use Rattle.attr_types.specs.Query.{QueryTree}
use Rattle.attr_types.specs.Table.{Table, hits}
use Rattle.attr_types.specs.declared.field.Field.{Field}
use Rattle.attr_types.specs.declared.field.TheConstants.{MOST_FIELDS}
use Rattle.attr_types.specs.declared.kind.ValueType.{ValueType}
use Rattle.attr_types.specs.declared.value.Value.{Value}
use Rattle.index_model.specs.Index.{IsIndexOf}
use Rattle.image_format.specs.Images.{dictionary_at, documents_at, table_of, IsLawfulImage}
use Rattle.image_format.specs.Laws.{HasField}
use Rattle.image_format.specs.Postings.{list_form, postings_at, index_of, IsDictionaryEntry}
use Rattle.image_format.specs.Shapes.{shape_of, types_of}
use Rattle.image_format.specs.Values.{stored_value}
use Rattle.image_format.proofs.ImageLemmas.{table_lawful, field_is_there, roots_there}
use Rattle.image_format.proofs.RootLemmas.{root_has_words}
use Rattle.index_model.specs.Postings.{HaveDocNumbers}
use Rattle.index_model.specs.Sets.{Holds}
use Rattle.index_model.proofs.FoundLemmas.{found_are_hits, index_lists_documents}
use Rattle.index_model.specs.Found.{found, AreIndexesFrom}
use Rattle.query_eval.specs.Parts.{AreIndexPairs, IsIndexed}
use Rattle.query_eval.specs.Indexes.{AreIndexed, HasDictionaries, dictionaries_at, indexes_in}

are_pairs : (type : ValueType) (m : Records) (ps : List (ℕ × ℕ)) → AllByRecursion (IsDictionaryEntry type m) ps
    → AllByRecursion {X = Value × List (ℕ × ℤ)} (λ e. HaveDocNumbers e.1) (map (λ p. (stored_value type m p.0, postings_at m (list_form p.1))) ps) → AreIndexPairs type m ps
are_pairs type m [] entries documents = tt
are_pairs type m (p ∷ ps) entries documents = (record { entry = entries.0; documents = documents.0 }, are_pairs type m ps entries.1 documents.1)

module _ (fields : List Field) (m : Records) (root : ℕ) (few : length fields ≤ MOST_FIELDS) (lawful : IsLawfulImage (shape_of (types_of fields)) m root) where
  abbrev pub table : Table
  table = table_of (shape_of (types_of fields)) m root

  pub field_at : (i : ℕ) (field : Field) → slice_get fields i ≡ Some field → HasField field table m (documents_at m root i) (dictionary_at m root i) i
  field_at i field at = field_is_there fields m root few lawful i field at

  pub is_indexed : (i : ℕ) (field : Field) → slice_get fields i ≡ Some field → IsIndexed field.value m (dictionary_at m root i)
  is_indexed i field at =
      let own = field_at i field at in
      let index = subst (λ column. IsIndexOf column (index_of field.value m (dictionary_at m root i))) own.column own.index in
      record {
        tree_is = own.attribute.forms.dictionary_tree;
        pairs = are_pairs field.value m (tree_pairs m (dictionary_at m root i)) own.attribute.forms.entries
            (index_lists_documents field.kind _ (index_of field.value m (dictionary_at m root i)) own.attribute.column index);
      }

  -- the attributes from number `i` on
  abbrev IsRest : ℕ → List Field → Type 0
  IsRest i rest = (j : ℕ) (field : Field) → slice_get rest j ≡ Some field → slice_get fields (i + j) ≡ Some field

  rest_first : (i : ℕ) (field : Field) (rest : List Field) → IsRest i (field ∷ rest) → slice_get fields i ≡ Some field
  rest_first i field rest is = subst (λ k. slice_get fields k ≡ Some field) (let e : i + 0 ≡ i = omega arith in e) (is 0 field refl)

  rest_more : (i : ℕ) (field : Field) (rest : List Field) → IsRest i (field ∷ rest) → IsRest (suc i) rest
  rest_more i field rest is = λ j other at. subst (λ k. slice_get fields k ≡ Some other) (let e : i + suc j ≡ suc i + j = omega arith in e) (is (suc j) other at)

  are_indexed : (bits i : ℕ) (rest : List Field) → IsRest i rest → AreIndexed bits m (dictionaries_at bits m root i rest)
  are_indexed bits i [] is = tt
  are_indexed bits i (field ∷ rest) is = (is_indexed i field (rest_first i field rest is), are_indexed bits (suc i) rest (rest_more i field rest is))

  are_indexes : (bits i : ℕ) (rest : List Field) → IsRest i rest → AreIndexesFrom i table (indexes_in bits m (dictionaries_at bits m root i rest))
  are_indexes bits i [] is = tt
  are_indexes bits i (field ∷ rest) is = (
    (field_at i field (rest_first i field rest is)).index,
    subst (λ k. AreIndexesFrom k table (indexes_in bits m (dictionaries_at bits m root (suc i) rest))) (let e : suc i ≡ i + 1 = omega arith in e)
        (are_indexes bits (suc i) rest (rest_more i field rest is)),
  )

  as_many : (bits i : ℕ) (rest : List Field) → length (indexes_in bits m (dictionaries_at bits m root i rest)) ≡ length rest
  as_many bits i [] = refl
  as_many bits i (field ∷ rest) = ap suc (as_many bits (suc i) rest)

  self_rest : IsRest 0 fields
  self_rest = λ j field at. subst (λ k. slice_get fields k ≡ Some field) (let e : j ≡ 0 + j = omega arith in e) at

  pub all_indexed : (bits : ℕ) → AreIndexed bits m (dictionaries_at bits m root 0 fields)
  all_indexed bits = are_indexed bits 0 fields self_rest

  -- what is found by the dictionaries are the hits
  pub found_hits : (bits : ℕ) (query : QueryTree) (docs : List ℕ) → Holds docs (found query (indexes_in bits m (dictionaries_at bits m root 0 fields)))
      → docs ≡ hits query table
  found_hits bits query docs holds =
      found_are_hits fields table (indexes_in bits m (dictionaries_at bits m root 0 fields)) query docs
      (table_lawful fields m root few lawful) (as_many bits 0 fields) (are_indexes bits 0 fields self_rest) holds

  module _ (references : (r : ℕ) → 0 < length (m r) → r < 2 ^ 32) where
    pub small : (i : ℕ) (field : Field) → slice_get fields i ≡ Some field → dictionary_at m root i < 2 ^ 32
    small i field at = told (dictionary_at m root i) (roots_there field.kind field.value m (documents_at m root i) (dictionary_at m root i) (field_at i field at).attribute).1
      where
        told : (r : ℕ) → (0 < r → 0 < length (m r)) → r < 2 ^ 32
        told zero there = omega arith
        told (suc r) there = references (suc r) (there (omega arith))

    has_dictionaries : (i : ℕ) (rest : List Field) → i + length rest ≤ length fields → IsRest i rest → HasDictionaries m root i rest
    has_dictionaries i [] within is = tt
    has_dictionaries i (field ∷ rest) within is = (
      λ some. let words = root_has_words fields m root few some lawful in omega (arith, words, within),
      small i field (rest_first i field rest is),
      has_dictionaries (suc i) rest (omega (arith, within)) (rest_more i field rest is),
    )

    pub all_dictionaries : HasDictionaries m root 0 fields
    all_dictionaries = has_dictionaries 0 fields (omega arith) self_rest
