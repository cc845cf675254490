-- The text of `--also`: further attributes, each as `name:kind:value`, separated by commas.
use Rattle.std.specs.Prelude.{ℕ, ◌+◌, ◌≤◌, ◌&&◌, ◌==◌, not, nat_lt, is_some, List, [], ◌∷◌, ◌++◌, length}
use Rattle.std.specs.Prelude.{if◌then◌else◌, slice_get, unwrap_or, Option, Some, None, Result, Ok, Err}
use Rattle.std.specs.List.{slice_split}
use Rattle.clap.specs.Walk.{Text}
use Rattle.attr_types.specs.declared.field.Field.{Field}
use Rattle.attr_types.specs.Names.{is_name, field_named, kind_named, value_named}
use Rattle.command_line.specs.declared.also.AlsoPart.{AlsoPart}
use Rattle.command_line.specs.declared.reading.WordsError.{WordsError}
use Rattle.command_line.specs.declared.reading.WordsError.TheVariants.{Also}

-- the next step, if nothing was refused so far
infixl 10 ◌>>=◌
abbrev pub ◌>>=◌ : {A B : Type 0} → Result A WordsError → (A → Result B WordsError) → Result B WordsError
Ok a >>= next = next a
Err error >>= next = Err error

-- a piece of the text, and the offset at which it begins
pub record Piece : Type 0 where
  pub place : ℕ
  pub text : Text

abbrev pub piece_of : AlsoPart → Piece
piece_of part = record { place = part.place; text = part.text.now }

-- texts that follow each other, with one byte between them
abbrev pub placed : ℕ → List Text → List Piece
placed place [] = []
placed place (text ∷ texts) = record { place = place; text = text } ∷ placed (place + length text + 1) texts

-- the length of such texts, with a byte after each
abbrev pub span : List Text → ℕ
span [] = 0
span (text ∷ texts) = length text + 1 + span texts

-- a piece ends at or before this offset
abbrev pub EndsBefore : ℕ → Piece → Type 0
EndsBefore offset piece = piece.place + length piece.text ≤ offset

-- the pieces of a piece, separated by a byte
abbrev pub pieces : ℕ → Piece → List Piece
pieces mark piece = placed piece.place (slice_split (λ byte. byte == mark) piece.text)

-- the part of a list with this number; a missing one is empty, at the end of the whole
abbrev pub part_at : Piece → List Piece → ℕ → Piece
part_at whole parts n =
    unwrap_or (slice_get parts n) (record { place = whole.place + length whole.text; text = [] })

-- what exists, or the place of the part that should have it
abbrev pub or_broken : {A : Type 0} → Piece → Option A → Result A WordsError
or_broken part (Some a) = Ok a
or_broken part None = Err (Also part.place)

-- a name that no attribute before it has
abbrev pub new_name : List Field → Text → Option Text
new_name before text = if is_name text && not (is_some (field_named before text)) then Some text else None

-- a field has three parts
abbrev pub or_surplus : Option Piece → Field → Result Field WordsError
or_surplus None field = Ok field
or_surplus (Some part) field = Err (Also part.place)

abbrev pub field_of_parts : List Field → Piece → List Piece → Result Field WordsError
field_of_parts before whole parts = do
  name ← or_broken (part_at whole parts 0) (new_name before (part_at whole parts 0).text)
  kind ← or_broken (part_at whole parts 1) (kind_named (part_at whole parts 1).text)
  value ← or_broken (part_at whole parts 2) (value_named (part_at whole parts 2).text)
  or_surplus (slice_get parts 3) (record { name = name; kind = kind; value = value })

-- the attribute of a field `name:kind:value` after those before it, or the place of its first wrong part
unfoldable pub field_in : List Field → Piece → Result Field WordsError
field_in before piece = field_of_parts before piece (pieces 58 piece)

-- there are at most eight attributes
unfoldable pub next_field : List Field → Piece → Result Field WordsError
next_field before piece = if nat_lt (length before) 8 then field_in before piece else Err (Also piece.place)

-- the attributes followed by those of further fields; the first wrong field decides
unfoldable pub fields_from : List Field → List Piece → Result (List Field) WordsError
fields_from before [] = Ok before
fields_from before (piece ∷ more) = do
  field ← next_field before piece
  fields_from (before ++ field ∷ []) more

-- the attribute of `--field`, and those of `--also` if it is given
unfoldable pub named_fields : Field → Option Text → Result (List Field) WordsError
named_fields first None = Ok (first ∷ [])
named_fields first (Some text) = fields_from (first ∷ []) (pieces 44 (record { place = 0; text = text }))
