-- An index and its keys, as laws.
use Rattle.std.specs.Prelude.{◌≡◌, ℕ, ◌<◌, Bool, [], length, Some}
use Rattle.std.specs.List.{AllByRecursion}
use Rattle.entry_ref.specs.Records.{Records, SameAt, Among}
use Rattle.tree_read.specs.Trees.{tree_pairs, IsTree}
use Rattle.image_format.specs.Postings.{index_of, IsDictionaryEntry}
use Rattle.image_format.specs.Values.{stored_value, IsValueRecord}
use Rattle.index_model.specs.Index.{IsFormed, list_of}
use Rattle.attr_types.specs.Value.{type_of, value_cmp}
use Rattle.attr_types.specs.declared.kind.ValueType.{ValueType}
use Rattle.attr_types.specs.declared.value.Value.{Value}
use Rattle.value_index.specs.Forms.{IsOfForm, KeepsForm}
use Rattle.value_index.specs.Indexes.{index_reach, key_at, IsIndex, IsKey}

-- root 0 is the index without values, and owns nothing
abbrev pub NothingIsIndex : Type 0
NothingIsIndex = (type : ValueType) (m : Records) → IsIndex type m 0 × (index_of type m 0 ≡ []) × (index_reach m 0 ≡ [])

-- an index stays the same, with its values, lists and keys, while its records stay the same
abbrev pub IndexStays : Type 0
IndexStays = (type : ValueType) (m n : Records) (root : ℕ) → SameAt (index_reach m root) m n → IsIndex type m root
    → IsIndex type n root × (index_of type n root ≡ index_of type m root) × ((ref : ℕ) → IsKey m root ref → IsKey n root ref)

-- root 0 is of each form
abbrev pub NothingIsOfForm : Type 0
NothingIsOfForm = (dense : Bool) (type : ValueType) (m : Records) → IsOfForm dense type m 0

-- an index stays of its form while its records stay the same
abbrev pub FormStays : Type 0
FormStays = (type : ValueType) (m n : Records) (root : ℕ) → SameAt (index_reach m root) m n → KeepsForm type m n root

-- it is a dictionary as in an image, and its contents are an index: values ascend, and the documents of each value
-- ascend
pub record IsLawfulIndex (type : ValueType) (m : Records) (root : ℕ) : Type 0 where
  pub dictionary_tree : IsTree value_cmp (stored_value type) m root
  pub entries : AllByRecursion (IsDictionaryEntry type m) (tree_pairs m root)
  pub formed : IsFormed (index_of type m root)

abbrev pub IndexIsLawful : Type 0
IndexIsLawful = (type : ValueType) (m : Records) (root : ℕ) → IsIndex type m root → IsLawfulIndex type m root

-- a key is the record of a value that has documents; the index owns it, and `key_at` finds it for its value
pub record IsKeyRecord (type : ValueType) (m : Records) (root ref : ℕ) (value : Value) : Type 0 where
  pub record_is : IsValueRecord type (m ref)
  pub reads : stored_value type m ref ≡ value
  pub some : 0 < ref
  pub owned : Among ref (index_reach m root)
  pub found : key_at value m root ≡ Some ref
  pub filled : 0 < length (list_of value (index_of type m root))

abbrev pub KeyIsRead : Type 0
KeyIsRead = (type : ValueType) (m : Records) (root ref : ℕ) → IsIndex type m root → IsKey m root ref
    → IsKeyRecord type m root ref (stored_value type m ref)

-- what `key_at` finds for a value is a key, and its record reads as the value
abbrev pub FoundIsKey : Type 0
FoundIsKey = (type : ValueType) (m : Records) (root ref : ℕ) (value : Value) → IsIndex type m root → type_of value ≡ type
    → key_at value m root ≡ Some ref → IsKey m root ref × (stored_value type m ref ≡ value)

-- a value that has documents has a key
abbrev pub ValueHasKey : Type 0
ValueHasKey = (type : ValueType) (m : Records) (root : ℕ) (value : Value) → IsIndex type m root → type_of value ≡ type
    → 0 < length (list_of value (index_of type m root)) → (ref : ℕ) × (key_at value m root ≡ Some ref)
