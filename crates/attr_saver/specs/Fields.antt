-- A save read field by field, each with its rule. A reader returns the field's value and the bytes after it. The
-- first field that breaks its rule, or ends past the input, is reported by the number of bytes left where it begins.
use Rattle.std.specs.Prelude.{ℕ, ℤ, zero, suc, pos, ◌-◌, ◌&&◌, Bool, true, nat_lt, nat_le, nat_eq, if◌then◌else◌}
use Rattle.std.specs.Prelude.{List, [], ◌∷◌, length, take, drop, slice_get, Option, Some, None, option_map, Result, Ok, Err}
use Rattle.std.specs.Int.{Width, w8, w16, w32, w64, byte_len, from_be_bytes, cast_signed}
use Rattle.std.specs.List.{starts_with}
use Rattle.std.specs.Ordering.{is_lt}
use Rattle.std.specs.Str.{is_utf8}
use Rattle.attr_types.specs.Change.{most_items as most_in_a_list}
use Rattle.attr_types.specs.Lawful.{last_doc}
use Rattle.attr_types.specs.Value.{value_cmp}
use Rattle.attr_types.specs.declared.items.Item.{Item}
use Rattle.attr_types.specs.declared.kind.Kind.{Kind}
use Rattle.attr_types.specs.declared.kind.Kind.TheVariants.{Single, Array, WeightedSet}
use Rattle.attr_types.specs.declared.kind.ValueType.{ValueType}
use Rattle.attr_types.specs.declared.kind.ValueType.TheVariants as types
use Rattle.attr_types.specs.declared.value.Value.{Value}
use Rattle.attr_types.specs.declared.value.Value.TheVariants as values
use Rattle.attr_saver.specs.Bytes.{magic}
use Rattle.attr_saver.specs.declared.saved.Saved.{Saved}
use Rattle.attr_saver.specs.declared.saved.SavedDocument.{SavedDocument}

-- a value and the bytes after it, or the number of bytes left where the first bad field begins
abbrev pub Read : Type 0 → Type 0
Read A = Result (A × List ℕ) ℕ

-- the next field, if no field was bad so far
infixl 10 ◌>>=◌
abbrev pub ◌>>=◌ : {A B : Type 0} → Result A ℕ → (A → Result B ℕ) → Result B ℕ
(Ok a) >>= next = next a
(Err left) >>= next = Err left

-- the field that begins with these bytes is bad
abbrev pub bad : {A : Type 0} → List ℕ → Result A ℕ
bad bytes = Err (length bytes)

abbrev pub read_bytes : ℕ → List ℕ → Read (List ℕ)
read_bytes len bytes = if nat_lt (length bytes) len then bad bytes else Ok (take len bytes, drop len bytes)

abbrev pub read_number : Width → List ℕ → Read ℕ
read_number w bytes =
    if nat_lt (length bytes) (byte_len w) then bad bytes
    else Ok (from_be_bytes w (take (byte_len w) bytes), drop (byte_len w) bytes)

-- a number of things in a row, each read after the previous one
unfoldable pub read_row : {A S : Type 0} → (S → List ℕ → Read A) → (A → S) → ℕ → S → List ℕ → Read (List A)
read_row read left zero before bytes = Ok ([], bytes)
read_row read left (suc count) before bytes = do
  first ← read before bytes
  others ← read_row read left count (left first.0) first.1
  Ok (first.0 ∷ others.0, others.1)

-- ---- the fields before the documents

abbrev pub read_magic : List ℕ → Result (List ℕ) ℕ
read_magic bytes = if starts_with nat_eq bytes magic then Ok (drop 4 bytes) else bad bytes

-- the value of a byte, and the bytes after it
abbrev pub or_bad : {A : Type 0} → List ℕ → Option A → List ℕ → Read A
or_bad bytes (Some a) rest = Ok (a, rest)
or_bad bytes None rest = bad bytes

abbrev pub kind_of : ℕ → Option Kind
kind_of zero = Some Single
kind_of (suc zero) = Some Array
kind_of (suc (suc zero)) = Some WeightedSet
kind_of (suc (suc (suc byte))) = None

unfoldable pub read_kind : List ℕ → Read Kind
read_kind bytes = do
  byte ← read_number w8 bytes
  or_bad bytes (kind_of byte.0) byte.1

abbrev pub type_by_byte : ℕ → Option ValueType
type_by_byte zero = Some types.Long
type_by_byte (suc zero) = Some types.Text
type_by_byte (suc (suc byte)) = None

unfoldable pub read_type : List ℕ → Read ValueType
read_type bytes = do
  byte ← read_number w8 bytes
  or_bad bytes (type_by_byte byte.0) byte.1

-- the number of documents, at most the number of document numbers
unfoldable pub read_count : List ℕ → Read ℕ
read_count bytes = do
  count ← read_number w32 bytes
  if nat_lt last_doc count.0 then bad bytes else Ok count

-- ---- the fields of an item

-- whether a value may follow another: in a weighted set values ascend
abbrev pub may_follow : Kind → Option Value → Value → Bool
may_follow Single before value = true
may_follow Array before value = true
may_follow WeightedSet None value = true
may_follow WeightedSet (Some before) value = is_lt (value_cmp before value)

-- a value as read, if it may follow another; `left` bytes are left where its field begins
abbrev pub following : Kind → Option Value → ℕ → Value → Result Value ℕ
following kind before left value = if may_follow kind before value then Ok value else Err left

-- a whole number in two's complement
unfoldable pub read_long : List ℕ → Read Value
read_long bytes = do
  number ← read_number w64 bytes
  Ok (values.Long (cast_signed w64 number.0), number.1)

unfoldable pub read_text_len : List ℕ → Read ℕ
read_text_len bytes = do
  len ← read_number w16 bytes
  if nat_lt 1024 len.0 then bad bytes else Ok len

unfoldable pub read_text : ℕ → List ℕ → Read Value
read_text len bytes = do
  text ← read_bytes len bytes
  if is_utf8 text.0 then Ok (values.Text text.0, text.1) else bad bytes

-- a whole number is one field; a text is two, its length and its bytes
unfoldable pub read_value : Kind → ValueType → Option Value → List ℕ → Read Value
read_value kind types.Long before bytes = do
  read ← read_long bytes
  value ← following kind before (length bytes) read.0
  Ok (value, read.1)
read_value kind types.Text before bytes = do
  len ← read_text_len bytes
  read ← read_text len.0 len.1
  value ← following kind before (length len.1) read.0
  Ok (value, read.1)

-- only a weighted set has a field for the weight, in two's complement
unfoldable pub read_weight : Kind → List ℕ → Read ℤ
read_weight Single bytes = Ok (pos 1, bytes)
read_weight Array bytes = Ok (pos 1, bytes)
read_weight WeightedSet bytes = do
  weight ← read_number w32 bytes
  Ok (cast_signed w32 weight.0, weight.1)

unfoldable pub read_item : Kind → ValueType → Option Value → List ℕ → Read Item
read_item kind type before bytes = do
  value ← read_value kind type before bytes
  weight ← read_weight kind value.1
  Ok (record { value = value.0; weight = weight.0 }, weight.1)

abbrev pub read_items : Kind → ValueType → ℕ → Option Value → List ℕ → Read (List Item)
read_items kind type count before = read_row (read_item kind type) (λ item. Some item.value) count before

-- the value of the last item
abbrev pub last_value : List Item → Option Value
last_value items = option_map (λ item. item.value) (slice_get items (length items - 1))

-- ---- the fields of a document

-- its number, which is above the previous one
unfoldable pub read_doc : ℕ → List ℕ → Read ℕ
read_doc before bytes = do
  doc ← read_number w32 bytes
  if nat_lt before doc.0 && nat_le doc.0 last_doc then Ok doc else bad bytes

abbrev pub most_by_kind : Kind → ℕ
most_by_kind Single = 1
most_by_kind Array = most_in_a_list
most_by_kind WeightedSet = most_in_a_list

-- its number of items
unfoldable pub read_item_count : Kind → List ℕ → Read ℕ
read_item_count kind bytes = do
  count ← read_number w16 bytes
  if nat_lt (most_by_kind kind) count.0 then bad bytes else Ok count

unfoldable pub read_document : Kind → ValueType → ℕ → List ℕ → Read SavedDocument
read_document kind type before bytes = do
  doc ← read_doc before bytes
  count ← read_item_count kind doc.1
  items ← read_items kind type count.0 None count.1
  Ok (record { doc = doc.0; items = items.0 }, items.1)

abbrev pub read_documents : Kind → ValueType → ℕ → ℕ → List ℕ → Read (List SavedDocument)
read_documents kind type count before = read_row (read_document kind type) (λ document. document.doc) count before

-- ---- all fields

-- after the fields nothing follows
unfoldable pub read_fields : List ℕ → Result Saved ℕ
read_fields bytes = do
  start ← read_magic bytes
  kind ← read_kind start
  type ← read_type kind.1
  operations ← read_number w32 type.1
  count ← read_count operations.1
  documents ← read_documents kind.0 type.0 count.0 0 count.1
  if nat_eq (length documents.1) 0
      then Ok (record { kind = kind.0; value = type.0; operations = operations.0; table = documents.0 })
      else bad documents.1

-- the offset of the place with this many bytes left, in bytes of this length
abbrev pub with_offset : {A : Type 0} → ℕ → Result A ℕ → Result A ℕ
with_offset len (Ok a) = Ok a
with_offset len (Err left) = Err (len - left)

-- the content of bytes, or the offset of the first bad field
unfoldable pub read_of : List ℕ → Result Saved ℕ
read_of bytes = with_offset (length bytes) (read_fields bytes)
