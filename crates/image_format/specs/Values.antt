-- The record of a value.
use Rattle.std.specs.Prelude.{◌≡◌, ℕ, zero, suc, ◌+◌, ◌/◌, ◌≤◌, List, [], ◌∷◌, ◌++◌, length, slice_index, take, drop, replicate}
use Rattle.std.specs.Int.{cast_signed, cast_unsigned, to_be_bytes, from_be_bytes, w64}
use Rattle.std.specs.List.{flat_map}
use Rattle.std.specs.Str.{IsUtf8}
use Rattle.entry_ref.specs.Records.{Records}
use Rattle.image_format.specs.Words.{filled}
use Rattle.attr_types.specs.declared.kind.ValueType.{ValueType}
use Rattle.attr_types.specs.declared.kind.ValueType.TheVariants as types
use Rattle.attr_types.specs.declared.value.Value.{Value}
use Rattle.attr_types.specs.declared.value.Value.TheVariants as values

-- bytes in `n` words, eight in a word with the first byte in the highest place, filled with zeros
abbrev pub packed_bytes : ℕ → List ℕ → List ℕ
packed_bytes zero bytes = []
packed_bytes (suc n) bytes = from_be_bytes w64 (take 8 (bytes ++ replicate 8 0)) ∷ packed_bytes n (drop 8 bytes)

-- a long is stored as 8 and its 64 bits in two's complement, a text as its length and its bytes
abbrev pub value_words : Value → List ℕ
value_words (values.Long number) = 8 ∷ cast_unsigned w64 number ∷ []
value_words (values.Text bytes) = length bytes ∷ packed_bytes ((length bytes + 7) / 8) bytes

-- the text in words: as many of their bytes as the first word says
abbrev pub stored_text : List ℕ → List ℕ
stored_text ws = take (slice_index ws 0) (flat_map (to_be_bytes w64) (drop 1 ws))

-- the value in words
abbrev pub value_of : ValueType → List ℕ → Value
value_of types.Long ws = values.Long (cast_signed w64 (slice_index ws 1))
value_of types.Text ws = values.Text (stored_text ws)

abbrev pub stored_value : ValueType → Records → ℕ → Value
stored_value type m ref = value_of type (m ref)

-- a text is UTF-8 of at most 1,024 bytes
abbrev pub IsLawfulValue : Value → Type 0
IsLawfulValue (values.Long number) = Unit {0}
IsLawfulValue (values.Text bytes) = IsUtf8 bytes × (length bytes ≤ 1024)

-- a value's record has the words of the value that it represents, followed by zeros
pub record IsValueRecord (type : ValueType) (ws : List ℕ) : Type 0 where
  pub words : ws ≡ filled (value_words (value_of type ws))
  pub lawful : IsLawfulValue (value_of type ws)
