-- What the text of a dot product shows after each of its bytes, and its parts.
use Rattle.std.specs.Prelude.{ℕ, zero, suc, ◌^◌, ◌==◌, Bool, true, false, ◌&&◌, nat_lt, nat_le, int_le, int_lt, pos, neg_ℤ, ℤ}
use Rattle.std.specs.Prelude.{List, [], ◌∷◌, take, if◌then◌else◌, Option, Some, None, option_map, unwrap_or, Result}
use Rattle.attr_types.specs.declared.field.Field.{Field}
use Rattle.attr_types.specs.declared.kind.ValueType.{ValueType}
use Rattle.attr_types.specs.Names.{begins_name, continues_name, field_named}
use Rattle.attr_types.specs.declared.part.Part.{Part}
use Rattle.query_text.specs.declared.mode.Role.TheVariants as roles
use Rattle.query_text.specs.declared.mode.Spell.{Spell}
use Rattle.query_text.specs.declared.mode.Spell.TheVariants as spells
use Rattle.query_text.specs.declared.mode.Mode.{Mode}
use Rattle.query_text.specs.declared.mode.Mode.TheVariants as modes
use Rattle.query_text.specs.declared.dot.survey.DotMode.{DotMode}
use Rattle.query_text.specs.declared.dot.survey.DotMode.TheVariants.{Front, Name, Named, D, Do, Dot, Value, Colon, Weight, Ended}
use Rattle.query_text.specs.declared.dot.survey.DotMode.TheVariants as dots
use Rattle.query_text.specs.declared.dot.survey.DotSurvey.{DotSurvey}
use Rattle.query_text.specs.Grammar.{type_at}
use Rattle.query_text.specs.Machine.{run_from}
use Rattle.query_text.specs.Modes.{next_mode, number_begun, value_begun, spell_begun, spell_next}
use Rattle.query_text.specs.Reading.{◌>>=◌, after_byte, value_front, number_front, mark_front}
use Rattle.query_text.specs.Survey.{ends_query, is_in_size, is_right}

-- ---- byte by byte

abbrev pub letter : ℕ → DotMode → ℕ → Option DotMode
letter wanted mode byte = if byte == wanted then Some mode else None

abbrev pub is_dot : Spell → Bool
is_dot spells.Dot = true
is_dot _ = false

-- the first byte of a name or of `dot`
abbrev pub head_begun : ℕ → Option DotMode
head_begun byte = if begins_name byte then Some (Name (spell_begun byte)) else None

-- the byte after a letter of a name or of `dot`
abbrev pub head_next : Spell → ℕ → Option DotMode
head_next spell byte = if continues_name byte then Some (Name (spell_next spell byte))
    else (if byte == 58 then Some Named
    else (if is_dot spell && (byte == 40) then Some dots.Part else None))

-- a value or a weight that continues
abbrev pub value_more : Mode → ℕ → Option Mode
value_more (modes.Quoted role) byte = None
value_more mode byte = next_mode false mode byte

abbrev pub after_value : Mode → ℕ → Option DotMode
after_value mode byte = if ends_query mode && (byte == 58) then Some Colon else option_map Value (value_more mode byte)

abbrev pub after_weight : Mode → ℕ → Option DotMode
after_weight mode byte = if ends_query mode && (byte == 44) then Some dots.Part
    else (if ends_query mode && (byte == 41) then Some Ended else option_map Weight (value_more mode byte))

unfoldable pub dot_next : DotMode → ℕ → Option DotMode
dot_next Front byte = head_begun byte
dot_next (Name spell) byte = head_next spell byte
dot_next Named byte = letter 100 D byte
dot_next D byte = letter 111 Do byte
dot_next Do byte = letter 116 Dot byte
dot_next Dot byte = letter 40 dots.Part byte
dot_next dots.Part byte = option_map Value (value_begun roles.Alone byte)
dot_next (Value mode) byte = after_value mode byte
dot_next Colon byte = option_map Weight (number_begun roles.Alone byte)
dot_next (Weight mode) byte = after_weight mode byte
dot_next Ended byte = None

-- the attribute that is meant, by the name before this place; without a name it is attribute 0
abbrev pub found_after : List Field → List ℕ → Option ℕ → DotMode → Option ℕ
found_after fields name found Named = field_named fields name
found_after fields name found _ = found

abbrev pub is_right_part : ValueType → DotMode → Bool
is_right_part wanted (Value mode) = is_right wanted mode
is_right_part wanted _ = true

-- a weight of 32 signed bits
abbrev pub is_weight_size : Mode → Bool
is_weight_size (modes.Number role true size) = nat_le size (2 ^ 31)
is_weight_size (modes.Number role false size) = nat_lt size (2 ^ 31)
is_weight_size _ = true

-- a weight that has ended
abbrev pub is_small_weight : DotMode → DotMode → Bool
is_small_weight (Weight mode) dots.Part = is_weight_size mode
is_small_weight (Weight mode) Ended = is_weight_size mode
is_small_weight before _ = true

abbrev pub is_small_part : DotMode → Bool
is_small_part (Value mode) = is_in_size mode
is_small_part _ = true

abbrev pub dot_start : DotSurvey
dot_start = record { mode = Front; found = Some 0; right = true; small = true }

abbrev pub wanted_by : List Field → Option ℕ → ValueType
wanted_by fields found = type_at fields (unwrap_or found 0)

abbrev pub dot_entered : List Field → List ℕ → DotSurvey → ℕ → DotMode → DotSurvey
dot_entered fields text survey place mode = record {
  mode = mode;
  found = found_after fields (take place text) survey.found mode;
  right = survey.right && is_right_part (wanted_by fields survey.found) mode;
  small = survey.small && (is_small_part mode && is_small_weight survey.mode mode);
}

abbrev pub dot_after : List Field → List ℕ → DotSurvey → ℕ → ℕ → Option DotSurvey
dot_after fields text survey place byte = option_map (dot_entered fields text survey place) (dot_next survey.mode byte)

abbrev pub has_ended : DotMode → Bool
has_ended Ended = true
has_ended _ = false

abbrev pub dot_is_ended : DotSurvey → Bool
dot_is_ended survey = has_ended survey.mode

-- the survey of the whole text, or the place at which no dot product continues
abbrev pub dot_surveyed : List Field → List ℕ → Result DotSurvey ℕ
dot_surveyed fields text = run_from (dot_after fields text) dot_is_ended dot_start 0 text

-- ---- the parts

-- a number of 32 signed bits
abbrev pub if_weight : ℤ → Option ℤ
if_weight number = if int_le (neg_ℤ (pos (2 ^ 31))) number && int_lt number (pos (2 ^ 31)) then Some number else None

unfoldable pub part_front : List ℕ → Option (Part × List ℕ)
part_front bytes = do
  value ← value_front bytes
  rest ← after_byte 58 value.1
  number ← number_front rest
  weight ← if_weight number.0
  Some (record { value = value.0; weight = weight }, number.1)

abbrev pub with_part : Part → Option (List Part) → Option (List Part)
with_part part None = None
with_part part (Some parts) = Some (part ∷ parts)

abbrev pub part_marked : Part → Option (Bool × List ℕ) → (List ℕ → Option (List Part)) → Option (List Part)
part_marked part None others = None
part_marked part (Some mark) others = if mark.0 then with_part part (others mark.1) else Some (part ∷ [])

abbrev pub part_listed : Option (Part × List ℕ) → (List ℕ → Option (List Part)) → Option (List Part)
part_listed None others = None
part_listed (Some found) others = part_marked found.0 (mark_front found.1) others

-- at most this many parts, up to the closing bracket
unfoldable pub parts_front : ℕ → List ℕ → Option (List Part)
parts_front zero bytes = None
parts_front (suc n) bytes = part_listed (part_front bytes) (parts_front n)
