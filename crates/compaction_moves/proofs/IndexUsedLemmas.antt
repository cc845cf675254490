-- A refused move is one of a width of which a record was in use as it began: the value's, or a node of the dictionary.
use Rattle.std.proofs.Common.{◌≡◌, ℕ, zero, suc, ◌<◌, [], ◌∷◌, length, Some, inl, refl, ap, ◌∙◌, arith}
use Rattle.frozen_btree.proofs.UsedLemmas.{node_used, used_at}
use Rattle.image_format.proofs.RootLemmas.{length-filled}
use Rattle.entry_ref.specs.Records.{Records}
use Rattle.tree_read.specs.Pairs.{lookup_pair}
use Rattle.store_api.specs.Calls.{IsUsedWidth}
use Rattle.store_api.specs.Ledgers.{Ledger}
use Rattle.store_api.specs.Parts.{Owns, entry}
use Rattle.store_api.proofs.PartLemmas.{owns-some}
use Rattle.tree_read.specs.Trees.{tree_pairs}
use Rattle.frozen_btree.specs.Changes.{tree}
use Rattle.image_format.specs.Values.{value_of, value_words}
use Rattle.image_format.specs.Words.{class_of}
use Rattle.attr_types.specs.Value.{type_of}
use Rattle.attr_types.specs.declared.value.Value.{Value}
use Rattle.unique_store.proofs.RecordLemmas.{words_few}
use Rattle.enum_dictionary.specs.Dictionaries.{beside_value}
use Rattle.value_index.specs.Indexes.{index_part, IsIndex}
use Rattle.value_index.proofs.KeyLemmas.{reads_found, record_found}
use Rattle.value_index.proofs.OpenLemmas.{open_found, others, parts}

-- ---- a value that is found
module _ {H : Type 0} (value : Value) (a : Ledger H) (m : Records) (root key word : ℕ) (is : IsIndex (type_of value) m root) (owns : Owns a m (index_part root ∷ []))
    (found : lookup_pair (beside_value value m) (tree_pairs m root) ≡ Some (key, word)) where
  opened : Owns a m (parts root key word (others value m root))
  opened = (open_found value a m root is owns key word found).owns

  found_some : (top : ℕ) → lookup_pair (beside_value value m) (tree_pairs m top) ≡ Some (key, word) → 0 < top
  found_some zero here = absurd (grind (arith, here))
  found_some (suc ref) here = omega arith

  -- a node of the dictionary
  pub dictionary_used : IsUsedWidth a m 34
  dictionary_used =
      node_used a m root is.dictionary_is.tree_is.node (found_some root found) (owns-some a m (parts root key word (others value m root)) (tree root ∷ []) opened (λ r. omega arith))

  -- the record of the value
  pub key_used : IsUsedWidth a m (class_of (length (value_words value)))
  key_used =
      let read : Value = value_of (type_of value) (m key) in
      let record_is = record_found value m root is (key, word) found in
      let few = words_few read record_is.lawful in
      let size = ap length record_is.words ∙ length-filled (value_words read) (omega arith) in
      used_at a m (entry key) key (class_of (length (value_words value))) (owns-some a m (parts root key word (others value m root)) (entry key ∷ []) opened (λ r. omega arith))
      (inl refl) (size ∙ ap (λ (v : Value). class_of (length (value_words v))) (reads_found value m (key, word) (tree_pairs m root) found))
