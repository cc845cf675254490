-- The values and weights in JSON.
use Rattle.std.specs.Prelude.{ℕ, ℤ, pos, negsuc, Bool, ◌&&◌, List, length, nat_le, int_le, if◌then◌else◌}
use Rattle.std.specs.Prelude.{Option, Some, None, option_and_then, option_map, Result}
use Rattle.serde_json.specs.Data.{Data}
use Rattle.serde_json.specs.Find.{as_number, as_i64, as_str}
use Rattle.attr_types.specs.declared.value.Value.{Value}
use Rattle.attr_types.specs.declared.value.Value.TheVariants as values
use Rattle.attr_types.specs.declared.kind.ValueType.{ValueType}
use Rattle.attr_types.specs.declared.kind.ValueType.TheVariants.{Long, Text}
use Rattle.feed_reader.specs.declared.refusal.Refusal.{Refusal}
use Rattle.feed_reader.specs.declared.refusal.Refusal.TheVariants.{BadValue}
use Rattle.feed_reader.specs.Answers.{or_else}
use Rattle.feed_reader.specs.Numerals.{long_written}

-- a text of at most 1,024 bytes
abbrev pub text_read : List ℕ → Option Value
text_read bytes = if nat_le (length bytes) 1024 then Some (values.Text bytes) else None

-- a whole number of 64 signed bits: one without a point and an exponent, and not `-0`
abbrev pub long_read : Data → Option ℤ
long_read d = option_and_then as_i64 (as_number d)

-- a JSON value as a value of an attribute
abbrev pub value_read : ValueType → Data → Result Value Refusal
value_read Long d = or_else BadValue (option_map values.Long (long_read d))
value_read Text d = or_else BadValue (option_and_then text_read (as_str d))

-- the name of a member of an object as a value of an attribute
abbrev pub name_read : ValueType → List ℕ → Result Value Refusal
name_read Long name = or_else BadValue (option_map values.Long (long_written name))
name_read Text name = or_else BadValue (text_read name)

-- the number fits in 32 signed bits
abbrev pub is_weight_number : ℤ → Bool
is_weight_number z = int_le (negsuc 2147483647) z && int_le z (pos 2147483647)

abbrev pub small_read : ℤ → Option ℤ
small_read z = if is_weight_number z then Some z else None

abbrev pub weight_read : Data → Result ℤ Refusal
weight_read d = or_else BadValue (option_and_then small_read (long_read d))
