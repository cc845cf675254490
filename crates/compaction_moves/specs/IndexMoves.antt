-- The store after a part of an index was moved out of a buffer. The contents of the index are unchanged.
use Rattle.std.specs.Prelude.{◌≡◌, ◌≢◌, ◌⊎◌, ℕ, ◌+◌, true, List, [], ◌∷◌, map, Some}
use Rattle.std.specs.List.{flat_map, AllByRecursion}
use Rattle.entry_ref.specs.References.{buffer_of}
use Rattle.entry_ref.specs.Records.{Records, Among, SameAt}
use Rattle.tree_read.specs.Pairs.{lookup, take_out}
use Rattle.store_api.specs.Ledgers.{Ledger}
use Rattle.store_api.specs.Parts.{Owns, Turns, entries}
use Rattle.store_api.specs.Statuses.{in_use}
use Rattle.tree_read.specs.Trees.{tree_pairs}
use Rattle.frozen_btree.specs.Changes.{levels, tree as tree_part}
use Rattle.frozen_btree.specs.Paths.{path_nodes, NoneIn}
use Rattle.image_format.specs.Postings.{dictionary_reach, index_of, list_form, postings_reach}
use Rattle.attr_types.specs.Value.{type_of}
use Rattle.attr_types.specs.declared.value.Value.{Value}
use Rattle.enum_dictionary.specs.Dictionaries.{beside_value}
use Rattle.posting_store.specs.Keeps.{KeepsListBlocks}
use Rattle.posting_store.specs.Lists.{is_vector, list_reach}
use Rattle.posting_store.specs.Moves.{form_docs, word_most, FormIsApart}
use Rattle.value_index.specs.Changes.{nodes_most, record_most, value_levels}
use Rattle.value_index.specs.Flows.{list_word}
use Rattle.value_index.specs.Forms.{IsPlainIndex}
use Rattle.value_index.specs.Indexes.{index_part, key_at, IsIndex, IsKey}

-- the documents in the form of keys of each list
abbrev pub lists_docs : Records → ℕ → List (List ℕ)
lists_docs m root = map (λ p. form_docs m (list_form p.1)) (tree_pairs m root)

-- a key of the index that lies in the buffer
pub record IsKeyIn (bits buffer : ℕ) (m : Records) (root ref : ℕ) : Type 0 where
  pub is_key : IsKey m root ref
  pub lies : buffer_of bits ref ≡ buffer

-- the key of a value no longer lies in the buffer. The pairs of all other values are unchanged, and so is the value's
-- list. If the value has another key now, its old key is still in use and belongs to no index; every other key is
-- still a key. No old key is left if the value's key did not lie in the buffer. The records of the old keys and lists
-- are unchanged
pub record MovesKey {H : Type 0} (bits buffer : ℕ) (value : Value) (old new : Ledger H) (m n : Records) (root next : ℕ) : Type 0 where
  pub left : List ℕ
  pub left_in : AllByRecursion (IsKeyIn bits buffer m root) left
  pub left_none : ((key : ℕ) → key_at value m root ≡ Some key → buffer_of bits key ≢ buffer) → left ≡ []
  pub keys : (ref : ℕ) → IsKey m root ref → IsKey n next ref ⊎ Among ref left
  pub index_is : IsIndex (type_of value) n next
  pub reads_as : index_of (type_of value) n next ≡ index_of (type_of value) m root
  pub docs : lists_docs n next ≡ lists_docs m root
  pub plain : IsPlainIndex m root → IsPlainIndex n next
  pub apart : (key : ℕ) → key_at value n next ≡ Some key → buffer_of bits key ≢ buffer
  pub others : take_out (beside_value value n) (tree_pairs n next) ≡ take_out (beside_value value m) (tree_pairs m root)
  pub list : lookup (beside_value value n) (tree_pairs n next) ≡ lookup (beside_value value m) (tree_pairs m root)
  pub stay : SameAt (dictionary_reach m root) m n
  pub owns : Owns new n (index_part next ∷ entries left ∷ [])
  pub turns : Turns old new m n (index_part root ∷ []) (index_part next ∷ entries left ∷ [])

-- the list of a value was moved out of the buffer, as far as the way to a document. The value's key and all other
-- pairs, with all that they reach, are unchanged, and each old key is still a key, with its record. What of the list
-- was in use before belonged to the list, and a block to the same block
pub record MovesList {H : Type 0} (bits buffer doc : ℕ) (value : Value) (old new : Ledger H) (m n : Records) (root next : ℕ) : Type 0 where
  pub index_is : IsIndex (type_of value) n next
  pub reads_as : index_of (type_of value) n next ≡ index_of (type_of value) m root
  pub docs : lists_docs n next ≡ lists_docs m root
  pub plain : IsPlainIndex m root → IsPlainIndex n next
  pub apart : (list : ℕ) → lookup (beside_value value n) (tree_pairs n next) ≡ Some list → FormIsApart bits buffer doc n (list_form list)
  pub key : key_at value n next ≡ key_at value m root
  pub others : take_out (beside_value value n) (tree_pairs n next) ≡ take_out (beside_value value m) (tree_pairs m root)
  pub rest : SameAt (flat_map (λ p. p.0 ∷ postings_reach m (list_form p.1)) (take_out (beside_value value m) (tree_pairs m root))) m n
  pub keys : (ref : ℕ) → IsKey m root ref → IsKey n next ref × (n ref ≡ m ref)
  pub came : (r : ℕ) → in_use (old.status r) ≡ true → Among r (list_reach n (list_word value n next))
      → Among r (list_reach m (list_word value m root))
  pub form : is_vector (list_word value n next) ≡ is_vector (list_word value m root)
  pub blocks : KeepsListBlocks (λ r. in_use (old.status r) ≡ true) m n (list_word value m root) (list_word value n next)
  pub owns : Owns new n (index_part next ∷ [])
  pub turns : Turns old new m n (index_part root ∷ []) (index_part next ∷ [])

-- no node of the dictionary on the way to a value lies in the buffer. The pairs of the dictionary are unchanged, with
-- all that they reach
pub record MovesNodes {H : Type 0} (bits buffer : ℕ) (value : Value) (old new : Ledger H) (m n : Records) (root next : ℕ) : Type 0 where
  pub index_is : IsIndex (type_of value) n next
  pub reads_as : index_of (type_of value) n next ≡ index_of (type_of value) m root
  pub docs : lists_docs n next ≡ lists_docs m root
  pub plain : IsPlainIndex m root → IsPlainIndex n next
  pub apart : NoneIn bits buffer (path_nodes n (beside_value value m) next)
  pub pairs : tree_pairs n next ≡ tree_pairs m root
  pub stay : SameAt (dictionary_reach m root) m n
  pub owns : Owns new n (index_part next ∷ [])
  pub turns : Turns old new m n (tree_part root ∷ []) (tree_part next ∷ [])

-- bounds on the records of each width that are made: that of the value, and nodes of the dictionary
abbrev pub key_most : Value → Records → ℕ → ℕ → ℕ
key_most value m root width = record_most value width + nodes_most (levels m root) width

-- for the list of a value: what its move makes, and nodes of the dictionary
abbrev pub move_most : Value → Records → ℕ → ℕ → ℕ → ℕ
move_most value m root count width =
    word_most (is_vector (list_word value m root)) (value_levels value m root) count width + nodes_most (levels m root) width
