-- What is saved, as read from the records of an image; and what a call writes.
use Rattle.std.specs.Prelude.{ℕ, ℤ, pos, ◌<◌, ◌≤◌, ◌^◌, List, length, map, Result, OnOk, OnErr}
use Rattle.std.specs.declared.option.Option.{Option}
use Rattle.std.specs.Io.KnownBytes.{Appends}
use Rattle.std.specs.List.{AllByRecursion}
use Rattle.entry_ref.specs.Records.{Records}
use Rattle.tree_read.specs.Trees.{tree_pairs, IsRootNode}
use Rattle.image_format.specs.Documents.{items_at, AreItemRecords}
use Rattle.image_format.specs.Values.{stored_value}
use Rattle.image_format.specs.Words.{unpacked}
use Rattle.attr_io.specs.Bytes.{AppendsFront}
use Rattle.attr_io.specs.Faults.{CountsFaults}
use Rattle.attr_types.specs.Lawful.{last_doc}
use Rattle.attr_types.specs.declared.items.Item.{Item}
use Rattle.attr_types.specs.declared.kind.Kind.{Kind}
use Rattle.attr_types.specs.declared.kind.Kind.TheVariants.{Single, Array, WeightedSet}
use Rattle.attr_types.specs.declared.kind.ValueType.{ValueType}
use Rattle.attr_saver.specs.declared.saved.SavedDocument.{SavedDocument}

-- a text was written; or a front of it was written, and a write failed
pub record Writes {T E : Type 0} (old new : Option (List ℕ)) (faults_old faults_new : ℕ) (result : Result T E) (text : List ℕ)
    : Type 0 where
  pub whole : OnOk result (Appends old new text)
  pub front : OnErr result (AppendsFront old new text)
  pub cause : CountsFaults faults_old faults_new result

-- the reference of a value and its weight, from a word of a document's record; the reference of a single value is
-- such a word
abbrev pub entry_in : Kind → ℕ → ℕ × ℤ
entry_in Single word = (word, pos 1)
entry_in Array word = (word, pos 1)
entry_in WeightedSet word = unpacked word

-- the item of a word
abbrev pub item_in : Kind → ValueType → Records → ℕ → Item
item_in kind type m word = record { value = stored_value type m (entry_in kind word).0; weight = (entry_in kind word).1 }

-- the document of a pair of the document tree
abbrev pub document_of : Kind → ValueType → Records → ℕ × ℕ → SavedDocument
document_of kind type m p = record { doc = p.0; items = items_at kind type m p.1 }

abbrev pub documents_of : Kind → ValueType → Records → List (ℕ × ℕ) → List SavedDocument
documents_of kind type m ps = map (document_of kind type m) ps

-- a document's number and its reference, with well-formed records
pub record IsStoredPair (kind : Kind) (type : ValueType) (m : Records) (p : ℕ × ℕ) : Type 0 where
  pub number : p.0 ≤ last_doc
  pub reference : p.1 < 2 ^ 32
  pub items : AreItemRecords kind type m p.1

-- the root of the documents
pub record AreStored (kind : Kind) (type : ValueType) (m : Records) (root : ℕ) : Type 0 where
  pub node : 0 < root → IsRootNode m root
  pub few : length (tree_pairs m root) ≤ last_doc
  pub each : AllByRecursion (IsStoredPair kind type m) (tree_pairs m root)
