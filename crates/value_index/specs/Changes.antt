-- How a change of an index changes a store.
use Rattle.std.specs.Prelude.{◌≡◌, ◌⊎◌, ℕ, ℤ, ◌+◌, ◌*◌, ◌<◌, ◌≤◌, Bool, true, List, [], ◌∷◌, length, nat_eq, nat_le, if◌then◌else◌}
use Rattle.std.specs.Option.{is_some}
use Rattle.entry_ref.specs.Records.{Records}
use Rattle.store_api.specs.Ledgers.{Ledger}
use Rattle.store_api.specs.Parts.{Owns, Turns}
use Rattle.tree_read.specs.declared.node_format.TheConstants.{NODE_WORDS}
use Rattle.frozen_btree.specs.Changes.{levels}
use Rattle.image_format.specs.Postings.{index_of, is_dense}
use Rattle.image_format.specs.Values.{stored_value, value_words}
use Rattle.image_format.specs.Words.{class_of}
use Rattle.image_format.specs.declared.TheConstants.{BLOCK_WORDS, MOST_SHORT}
use Rattle.index_model.specs.Index.{Index, list_of}
use Rattle.attr_types.specs.declared.kind.ValueType.{ValueType}
use Rattle.attr_types.specs.declared.value.Value.{Value}
use Rattle.posting_store.specs.Changes.{list_change_most, list_width}
use Rattle.posting_store.specs.Lists.{is_vector, list_levels}
use Rattle.value_index.specs.Flows.{list_word, FlowsIndex}
use Rattle.value_index.specs.Indexes.{index_part, key_at, IsIndex, IsKey}

-- if the value of a key still has documents, the key is still a key, and its record is unchanged
pub record KeepsKeys (type : ValueType) (m n : Records) (root next : ℕ) : Type 0 where
  pub kept : (ref : ℕ) → IsKey m root ref → 0 < length (list_of (stored_value type m ref) (index_of type n next))
      → IsKey n next ref × (n ref ≡ m ref)

-- an index with these contents was made, in place of another
pub record MakesIndex {H : Type 0} (type : ValueType) (old new : Ledger H) (m n : Records) (root : ℕ) (index : Index) (next : ℕ)
    : Type 0 where
  pub index_is : IsIndex type n next
  pub reads_as : index_of type n next ≡ index
  pub keys : KeepsKeys type m n root next
  pub flows : FlowsIndex type old m n root next
  pub owns : Owns new n (index_part next ∷ [])
  pub turns : Turns old new m n (index_part root ∷ []) (index_part next ∷ [])

-- bounds on the records of each width that a change makes: in a dictionary with this many levels of nodes, and in a
-- list
abbrev pub nodes_most : ℕ → ℕ → ℕ
nodes_most levels width = if nat_eq width NODE_WORDS then 2 * levels + 1 else 0

abbrev pub value_levels : Value → Records → ℕ → ℕ
value_levels value m root = list_levels m (list_word value m root)

-- bounds for the list of a value that has these documents after the change, of this many documents in all, and for its
-- pair in the dictionary
abbrev pub change_most : Value → Records → ℕ → Bool → ℕ → List (ℕ × ℤ) → ℕ → ℕ
change_most value m root dense documents docs width =
    list_change_most (is_vector (list_word value m root)) (is_dense dense (length docs) documents) (value_levels value m root) docs width
    + nodes_most (levels m root) width

-- a bound for the record of a new value
abbrev pub record_most : Value → ℕ → ℕ
record_most value width = if nat_eq width (class_of (length (value_words value))) then 1 else 0

-- the same, if the value is in a store: a text has at most 1,024 bytes, so its record has at most 256 words
abbrev pub new_most : Value → ℕ → ℕ
new_most value width = if nat_le width 256 then record_most value width else 0

abbrev pub add_most : Value → Records → ℕ → Bool → ℕ → List (ℕ × ℤ) → ℕ → ℕ
add_most value m root dense documents docs width =
    (if is_some (key_at value m root) then 0 else new_most value width) + change_most value m root dense documents docs width

-- the width of blocks, for a list that may be a bit vector, or may have been one
pub record IsBlockWidth (dense : Bool) (count width : ℕ) : Type 0 where
  pub wanted : dense ≡ true
  pub many : MOST_SHORT < count
  pub width_is : width ≡ BLOCK_WORDS

-- the width of a record that an image has for a value with this many documents: its own record, or one of its list;
-- at most 256, since a text has at most 1,024 bytes
pub record IsValueWidth (dense : Bool) (value : Value) (count width : ℕ) : Type 0 where
  pub some : 0 < count
  pub one : (width ≡ class_of (length (value_words value))) ⊎ (width ≡ list_width count) ⊎ IsBlockWidth dense count width
  pub few : width ≤ 256

-- a width for which a change of a value's list may be refused, by the documents that the value has then: that of
-- nodes, or of such a record
abbrev pub IsChangeWidth : Bool → Value → ℕ → ℕ → Type 0
IsChangeWidth dense value count width = (width ≡ NODE_WORDS) ⊎ IsValueWidth dense value count width
