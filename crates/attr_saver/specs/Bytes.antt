-- The bytes of a save. Numbers have their highest byte first.
use Rattle.std.specs.Prelude.{ℕ, ℤ, List, [], ◌∷◌, ◌++◌, length}
use Rattle.std.specs.Int.{w16, w32, w64, to_be_bytes, cast_unsigned}
use Rattle.std.specs.List.{flat_map}
use Rattle.attr_types.specs.declared.items.Item.{Item}
use Rattle.attr_types.specs.declared.kind.Kind.{Kind}
use Rattle.attr_types.specs.declared.kind.Kind.TheVariants.{Single, Array, WeightedSet}
use Rattle.attr_types.specs.declared.kind.ValueType.{ValueType}
use Rattle.attr_types.specs.declared.kind.ValueType.TheVariants as types
use Rattle.attr_types.specs.declared.value.Value.{Value}
use Rattle.attr_types.specs.declared.value.Value.TheVariants as values
use Rattle.attr_saver.specs.declared.saved.Saved.{Saved}
use Rattle.attr_saver.specs.declared.saved.SavedDocument.{SavedDocument}

-- `ATS1`
abbrev pub magic : List ℕ
magic = 65 ∷ 84 ∷ 83 ∷ 49 ∷ []

abbrev pub kind_byte : Kind → ℕ
kind_byte Single = 0
kind_byte Array = 1
kind_byte WeightedSet = 2

abbrev pub type_byte : ValueType → ℕ
type_byte types.Long = 0
type_byte types.Text = 1

-- the kind and value type of a save
unfoldable pub form_bytes : Kind → ValueType → List ℕ
form_bytes kind type = magic ++ kind_byte kind ∷ type_byte type ∷ []

-- the fields before the documents: the number of operations that made the table, and its number of documents
unfoldable pub head_bytes : Kind → ValueType → ℕ → ℕ → List ℕ
head_bytes kind type operations documents =
    form_bytes kind type ++ to_be_bytes w32 operations ++ to_be_bytes w32 documents

-- a text: its length, followed by its bytes
abbrev pub text_bytes : List ℕ → List ℕ
text_bytes text = to_be_bytes w16 (length text) ++ text

-- a whole number is in two's complement
abbrev pub value_bytes : Value → List ℕ
value_bytes (values.Long number) = to_be_bytes w64 (cast_unsigned w64 number)
value_bytes (values.Text text) = text_bytes text

-- only a weighted set has weights
abbrev pub weight_bytes : Kind → ℤ → List ℕ
weight_bytes Single weight = []
weight_bytes Array weight = []
weight_bytes WeightedSet weight = to_be_bytes w32 (cast_unsigned w32 weight)

abbrev pub item_bytes : Kind → Item → List ℕ
item_bytes kind item = value_bytes item.value ++ weight_bytes kind item.weight

-- a document: its number, its number of items, and the items
abbrev pub document_bytes : Kind → SavedDocument → List ℕ
document_bytes kind document =
    to_be_bytes w32 document.doc ++ to_be_bytes w16 (length document.items) ++ flat_map (item_bytes kind) document.items

abbrev pub saved_bytes : Saved → List ℕ
saved_bytes saved =
    head_bytes saved.kind saved.value saved.operations (length saved.table)
    ++ flat_map (document_bytes saved.kind) saved.table
