-- The content of `match`: one item of an array or of a weighted set, and how it changes.
use Rattle.std.specs.Prelude.{ℕ, ℤ, neg_ℤ, List, nat_le, if◌then◌else◌, codes, Option, Some, None, option_and_then, option_map, Result, Ok}
use Rattle.std.specs.Str.{bytes_eq}
use Rattle.serde_json.specs.Data.{Data, Members, no_members, member}
use Rattle.serde_json.specs.Find.{as_number, as_u64, as_str, as_object}
use Rattle.attr_types.specs.declared.change.Act.{Act}
use Rattle.attr_types.specs.declared.change.Act.TheVariants as acts
use Rattle.attr_types.specs.declared.change.WeightAct.{WeightAct}
use Rattle.attr_types.specs.declared.change.WeightAct.TheVariants as weight_acts
use Rattle.attr_types.specs.declared.change.Change.{Change}
use Rattle.attr_types.specs.declared.change.Change.TheVariants as changes
use Rattle.attr_types.specs.declared.kind.ValueType.{ValueType}
use Rattle.attr_types.specs.declared.value.Value.{Value}
use Rattle.feed_reader.specs.declared.operator.Way.{Way}
use Rattle.feed_reader.specs.declared.operator.Way.TheVariants.{Up, Down}
use Rattle.feed_reader.specs.declared.operator.ItemForm.{ItemForm}
use Rattle.feed_reader.specs.declared.operator.ItemForm.TheVariants.{New, Amount}
use Rattle.feed_reader.specs.declared.refusal.Refusal.{Refusal}
use Rattle.feed_reader.specs.declared.refusal.Refusal.TheVariants.{BadValue}
use Rattle.feed_reader.specs.Answers.{◌>>=◌, or_else}
use Rattle.feed_reader.specs.Operators.{operator_named, value_form, weight_form}
use Rattle.feed_reader.specs.Values.{value_read, name_read, weight_read}

-- an amount is a whole number of 32 signed bits; a decrement adds its negative
abbrev pub by_way : Way → ℤ → ℤ
by_way Up amount = amount
by_way Down amount = neg_ℤ amount

abbrev pub amount_read : Way → Data → Result ℤ Refusal
amount_read way d = do
  amount ← weight_read d
  Ok (by_way way amount)

-- an index of an array: a whole number of 32 bits
abbrev pub place_of_number : ℕ → Option ℕ
place_of_number n = if nat_le n 4294967295 then Some n else None

abbrev pub place_read : Data → Result ℕ Refusal
place_read d = or_else BadValue (option_and_then place_of_number (option_and_then as_u64 (as_number d)))

-- a value of a weighted set: the name in a text, or a whole number as itself
abbrev pub element_by : ValueType → Data → Option (List ℕ) → Result Value Refusal
element_by type d (Some name) = name_read type name
element_by type d None = value_read type d

abbrev pub element_read : ValueType → Data → Result Value Refusal
element_read type d = element_by type d (as_str d)

-- the member `element` of an object of two members, and the other member
abbrev pub match_parts : Members → Option (Data × List ℕ × Data)
match_parts no_members = None
match_parts (member name d no_members) = None
match_parts (member name d (member other e no_members)) =
    if bytes_eq name (codes "element") then Some (d, other, e)
    else (if bytes_eq other (codes "element") then Some (e, name, d) else None)
match_parts (member name d (member other e (member _ _ _))) = None

-- the change of a value or a weight; without such an operator there is no change, whatever its value
abbrev pub act_read : ValueType → Option ItemForm → Data → Result (Option Act) Refusal
act_read type None d = Ok None
act_read type (Some New) d = value_read type d >>= λ value. Ok (Some (acts.Set value))
act_read type (Some (Amount way)) d = amount_read way d >>= λ amount. Ok (Some (acts.Shift amount))

abbrev pub weight_act_read : Option ItemForm → Data → Result (Option WeightAct) Refusal
weight_act_read None d = Ok None
weight_act_read (Some New) d = weight_read d >>= λ weight. Ok (Some (weight_acts.Set weight))
weight_act_read (Some (Amount way)) d = amount_read way d >>= λ amount. Ok (Some (weight_acts.Shift amount))

-- a wrong `element` is found before the operator is considered
abbrev pub at_read : ValueType → Data → Result (Option Change) Refusal
at_read type d = do
  parts ← or_else BadValue (option_and_then match_parts (as_object d))
  place ← place_read parts.0
  act ← act_read type (value_form (operator_named parts.1) type) parts.2
  Ok (option_map (changes.At place) act)

abbrev pub of_read : ValueType → Data → Result (Option Change) Refusal
of_read type d = do
  parts ← or_else BadValue (option_and_then match_parts (as_object d))
  value ← element_read type parts.0
  act ← weight_act_read (weight_form (operator_named parts.1)) parts.2
  Ok (option_map (changes.Of value) act)
