-- What the text of a query shows after each of its bytes.
use Rattle.std.specs.Prelude.{ℕ, ◌+◌, ◌-◌, ◌^◌, ◌==◌, Bool, true, false, ◌&&◌, nat_lt, nat_le, max, List, take, drop}
use Rattle.std.specs.Prelude.{Option, Some, None, option_map, unwrap_or, Result}
use Rattle.attr_types.specs.declared.kind.ValueType.{ValueType}
use Rattle.attr_types.specs.declared.kind.ValueType.TheVariants as types
use Rattle.attr_types.specs.declared.field.Field.{Field}
use Rattle.attr_types.specs.Names.{field_named}
use Rattle.query_text.specs.declared.mode.Role.{Role}
use Rattle.query_text.specs.declared.mode.Role.TheVariants as roles
use Rattle.query_text.specs.declared.mode.Mode.{Mode}
use Rattle.query_text.specs.declared.mode.Mode.TheVariants as modes
use Rattle.query_text.specs.declared.survey.Survey.{Survey}
use Rattle.query_text.specs.Grammar.{type_at, first_found, unknown_if}
use Rattle.query_text.specs.Machine.{run_from}
use Rattle.query_text.specs.Modes.{next_mode}

abbrev pub wants_long : ValueType → Bool
wants_long types.Long = true
wants_long types.Text = false

abbrev pub wants_text : ValueType → Bool
wants_text types.Long = false
wants_text types.Text = true

-- the current value has the type
abbrev pub is_right : ValueType → Mode → Bool
is_right value (modes.Minus role) = wants_long value
is_right value (modes.Number role negative size) = wants_long value
is_right value (modes.Text role len) = wants_text value
is_right value _ = true

-- the size of a number that fits in 64 signed bits
abbrev pub is_long_size : Bool → ℕ → Bool
is_long_size true size = nat_le size (2 ^ 63)
is_long_size false size = nat_lt size (2 ^ 63)

-- the current value is in range so far
abbrev pub is_in_size : Mode → Bool
is_in_size (modes.Number role negative size) = is_long_size negative size
is_in_size (modes.Text role len) = nat_le len 1024
is_in_size _ = true

abbrev pub depth_after : ℕ → Mode → ℕ
depth_after depth modes.Opened = depth + 1
depth_after depth modes.Closed = depth - 1
depth_after depth _ = depth

-- where the current query begins after the byte at this place
abbrev pub begins_after : ℕ → ℕ → Mode → ℕ
begins_after begins place modes.Start = place + 1
begins_after begins place modes.Opened = place + 1
begins_after begins place _ = begins

-- the attribute to which a leaf refers, by the name before it; without a name it is attribute 0
abbrev pub found_at : List Field → List ℕ → Mode → Option ℕ
found_at fields name modes.Named = field_named fields name
found_at fields name _ = Some 0

-- the type of the values of the next leaf
abbrev pub wanted_after : List Field → ValueType → Mode → Option ℕ → ValueType
wanted_after fields wanted modes.Start found = type_at fields 0
wanted_after fields wanted modes.Opened found = type_at fields 0
wanted_after fields wanted modes.Named found = type_at fields (unwrap_or found 0)
wanted_after fields wanted _ found = wanted

abbrev pub start : List Field → Survey
start fields = record {
  mode = modes.Start;
  depth = 0;
  levels = 1;
  begins = 0;
  wanted = type_at fields 0;
  unknown = None;
  right = true;
  small = true;
}

-- the text of the current query before this place
abbrev pub name_before : List ℕ → ℕ → ℕ → List ℕ
name_before text begins place = take (place - begins) (drop begins text)

abbrev pub entered_by : List Field → Survey → ℕ → Mode → Option ℕ → Survey
entered_by fields survey place mode found = record {
  mode = mode;
  depth = depth_after survey.depth mode;
  levels = max survey.levels (depth_after survey.depth mode + 1);
  begins = begins_after survey.begins place mode;
  wanted = wanted_after fields survey.wanted mode found;
  unknown = first_found survey.unknown (unknown_if survey.begins found);
  right = survey.right && is_right survey.wanted mode;
  small = survey.small && is_in_size mode;
}

abbrev pub entered : List Field → List ℕ → Survey → ℕ → Mode → Survey
entered fields text survey place mode =
    entered_by fields survey place mode (found_at fields (name_before text survey.begins place) mode)

-- the survey after the byte at this place, if some query continues with it
abbrev pub surveyed_after : List Field → List ℕ → Survey → ℕ → ℕ → Option Survey
surveyed_after fields text survey place byte =
    option_map (entered fields text survey place) (next_mode (nat_lt 0 survey.depth) survey.mode byte)

abbrev pub ends_value : Role → Bool
ends_value roles.Alone = true
ends_value roles.Bound = true
ends_value roles.Low = false
ends_value roles.High = false

abbrev pub ends_query : Mode → Bool
ends_query (modes.Number role negative size) = ends_value role
ends_query (modes.Quoted role) = ends_value role
ends_query modes.Ended = true
ends_query modes.Closed = true
ends_query _ = false

-- no bracket is open, and a query has ended
abbrev pub is_complete : Survey → Bool
is_complete survey = (survey.depth == 0) && ends_query survey.mode

-- the survey of the whole text, or the place at which no query continues
abbrev pub surveyed : List Field → List ℕ → Result Survey ℕ
surveyed fields text = run_from (surveyed_after fields text) is_complete (start fields) 0 text
