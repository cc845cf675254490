-- How a text is read: what it asks for, or its refusal.
use Rattle.std.specs.Prelude.{◌≡◌, ℕ, nat_lt, max, List, length, if◌then◌else◌, Option, Some, None, slice_get, unwrap_or, Result, Ok, Err}
use Rattle.attr_types.specs.declared.field.Field.{Field}
use Rattle.attr_types.specs.declared.error.QueryError.{QueryError}
use Rattle.attr_types.specs.declared.error.QueryError.TheVariants.{Syntax, NoField, WrongType, OutOfRange, TooDeep, Memory}
use Rattle.attr_types.specs.declared.query.Query.{Query}
use Rattle.attr_types.specs.Query.{QueryTree, tree_of}
use Rattle.attr_types.specs.Scores.{AskTree, hits_of, dot_of, ask_tree}
use Rattle.attr_types.specs.declared.ask.Ask.{Ask}
use Rattle.attr_types.specs.declared.part.Part.{Part}
use Rattle.query_text.specs.declared.survey.Survey.{Survey}
use Rattle.query_text.specs.declared.dot.survey.DotSurvey.{DotSurvey}
use Rattle.query_text.specs.Dot.{dot_surveyed, parts_front}
use Rattle.query_text.specs.Grammar.{is_weighted, unless_unknown}
use Rattle.query_text.specs.Reading.{◌>>=◌, after_byte, after_name, query_front}
use Rattle.query_text.specs.Survey.{surveyed}

-- ---- a query

abbrev pub hits_found : List ℕ → Option (QueryTree × List ℕ) → Result AskTree QueryError
hits_found text None = Err (Syntax (length text))
hits_found text (Some found) = Ok (hits_of found.0)

-- the checks in order
abbrev pub hits_checked : List Field → List ℕ → Survey → Result AskTree QueryError
hits_checked fields text survey = if survey.right
    then (if survey.small
    then (if nat_lt 32 survey.levels then Err TooDeep else hits_found text (query_front fields 32 text))
    else Err OutOfRange) else Err WrongType

abbrev pub hits_judged : List Field → List ℕ → Survey → Result AskTree QueryError
hits_judged fields text survey = unless_unknown survey.unknown (hits_checked fields text survey)

-- how a text is read as a query
abbrev pub query_if : List Field → List ℕ → Result Survey ℕ → Result AskTree QueryError
query_if fields text (Err place) = Err (Syntax place)
query_if fields text (Ok survey) = hits_judged fields text survey

unfoldable pub query_of : List Field → List ℕ → Result AskTree QueryError
query_of fields text = query_if fields text (surveyed fields text)

-- ---- a dot product

-- what follows `dot(`
unfoldable pub dot_front : List ℕ → Option (List ℕ)
dot_front bytes = do
  rest ← after_byte 100 bytes
  rest ← after_byte 111 rest
  rest ← after_byte 116 rest
  after_byte 40 rest

abbrev pub parts_behind : Option (List ℕ) → Option (List Part)
parts_behind None = None
parts_behind (Some rest) = parts_front (length rest) rest

abbrev pub parts_in : List ℕ → Option (List Part)
parts_in text = parts_behind (dot_front (unwrap_or (after_name text) text))

abbrev pub dot_found : List ℕ → ℕ → Option (List Part) → Result AskTree QueryError
dot_found text number None = Err (Syntax (length text))
dot_found text number (Some parts) = Ok (dot_of number parts)

-- the checks in order
abbrev pub dot_checked : List Field → List ℕ → ℕ → DotSurvey → Result AskTree QueryError
dot_checked fields text number survey = if is_weighted (slice_get fields number)
    then (if survey.right
    then (if survey.small then dot_found text number (parts_in text) else Err OutOfRange)
    else Err WrongType) else Err WrongType

abbrev pub dot_judged : List Field → List ℕ → Option ℕ → DotSurvey → Result AskTree QueryError
dot_judged fields text None survey = Err (NoField 0)
dot_judged fields text (Some number) survey = dot_checked fields text number survey

-- ---- either

-- a text that is not a query is read as a dot product; if it is neither, the later of the two places is reported
abbrev pub dot_if : List Field → List ℕ → ℕ → Result DotSurvey ℕ → Result AskTree QueryError
dot_if fields text place (Err other) = Err (Syntax (max place other))
dot_if fields text place (Ok survey) = dot_judged fields text survey.found survey

abbrev pub ask_if : List Field → List ℕ → Result Survey ℕ → Result AskTree QueryError
ask_if fields text (Err place) = dot_if fields text place (dot_surveyed fields text)
ask_if fields text (Ok survey) = hits_judged fields text survey

-- how a text is read with these attributes
unfoldable pub ask_of : List Field → List ℕ → Result AskTree QueryError
ask_of fields text = ask_if fields text (surveyed fields text)

-- the result is what the text asks for, unless memory was exhausted
abbrev pub RefusesBy : QueryError → Result AskTree QueryError → Type 0
RefusesBy Memory said = Unit {0}
RefusesBy (Syntax place) said = said ≡ Err (Syntax place)
RefusesBy (NoField place) said = said ≡ Err (NoField place)
RefusesBy WrongType said = said ≡ Err WrongType
RefusesBy OutOfRange said = said ≡ Err OutOfRange
RefusesBy TooDeep said = said ≡ Err TooDeep

abbrev pub ParsesAs : Result Query QueryError → Result AskTree QueryError → Type 0
ParsesAs (Ok query) said = said ≡ Ok (hits_of (tree_of query))
ParsesAs (Err error) said = RefusesBy error said

abbrev pub AsksAs : Result Ask QueryError → Result AskTree QueryError → Type 0
AsksAs (Ok ask) said = said ≡ Ok (ask_tree ask)
AsksAs (Err error) said = RefusesBy error said
