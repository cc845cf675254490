-- An attribute in a store, as laws.
use Rattle.std.specs.Prelude.{◌≡◌, ◌↔◌, ◌⊎◌, ℕ, []}
use Rattle.entry_ref.specs.Records.{Records, SameAt, Among}
use Rattle.attr_field.specs.Documents.{documents_refer}
use Rattle.image_format.specs.Attributes.{trees_reach, IsLawfulAttribute}
use Rattle.image_format.specs.Documents.{column_at}
use Rattle.attr_types.specs.declared.kind.Kind.{Kind}
use Rattle.attr_types.specs.declared.kind.ValueType.{ValueType}
use Rattle.value_index.specs.Forms.{KeepsForm}
use Rattle.value_index.specs.Indexes.{IsKey}
use Rattle.attr_field.specs.Fields.{field_part, IsField, RefersToKeys}

-- roots 0 are an attribute without documents, which owns nothing
abbrev pub NothingIsField : Type 0
NothingIsField = (kind : Kind) (type : ValueType) (m : Records) → IsField kind type m 0 0 × (column_at kind type m 0 ≡ [])
    × ((field_part kind 0 0).reach m ≡ [])

-- an attribute in other records, with its column, what its documents refer to, its keys, and its form
pub record FieldIsSame (kind : Kind) (type : ValueType) (m n : Records) (documents dictionary : ℕ) : Type 0 where
  pub field_is : IsField kind type n documents dictionary
  pub column_is : column_at kind type n documents ≡ column_at kind type m documents
  pub refers : documents_refer kind n documents ≡ documents_refer kind m documents
  pub keys : (r : ℕ) → IsKey m dictionary r → IsKey n dictionary r
  pub form : KeepsForm type m n dictionary

-- it stays the same while the records stay the same that it owns, and those to which its documents refer
abbrev pub FieldStays : Type 0
FieldStays = (kind : Kind) (type : ValueType) (m n : Records) (documents dictionary : ℕ)
    → SameAt ((field_part kind documents dictionary).reach m) m n → SameAt (documents_refer kind m documents) m n
    → IsField kind type m documents dictionary → FieldIsSame kind type m n documents dictionary

-- it is lawful as a part of an image
abbrev pub FieldIsLawful : Type 0
FieldIsLawful = (kind : Kind) (type : ValueType) (m : Records) (documents dictionary : ℕ) → IsField kind type m documents dictionary
    → IsLawfulAttribute kind type m documents dictionary

-- it owns its keys
abbrev pub FieldOwnsKeys : Type 0
FieldOwnsKeys = (kind : Kind) (type : ValueType) (m : Records) (documents dictionary r : ℕ) → IsField kind type m documents dictionary
    → IsKey m dictionary r → Among r ((field_part kind documents dictionary).reach m)

-- an image reaches exactly the records that the attribute owns, and those to which its documents refer
abbrev pub FieldReaches : Type 0
FieldReaches = (kind : Kind) (m : Records) (documents dictionary r : ℕ)
    → Among r (trees_reach kind m documents dictionary)
    ↔ (Among r ((field_part kind documents dictionary).reach m) ⊎ Among r (documents_refer kind m documents))

-- without old copies, an attribute owns exactly the records that an image reaches of it
abbrev pub FieldReachesOwn : Type 0
FieldReachesOwn = (kind : Kind) (type : ValueType) (m : Records) (documents dictionary r : ℕ) → IsField kind type m documents dictionary
    → RefersToKeys kind m documents dictionary
    → Among r (trees_reach kind m documents dictionary) ↔ Among r ((field_part kind documents dictionary).reach m)
