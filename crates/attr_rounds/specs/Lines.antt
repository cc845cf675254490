-- The lines in which a table's answers are written.
use Rattle.std.specs.Prelude.{◌≡◌, ℕ, ◌+◌, ◌<◌, ◌≤◌, ◌^◌, Bool, true, false, List, [], ◌∷◌, ◌++◌, length, string_bytes}
use Rattle.attr_types.specs.Scores.{AskTree, Answer, answer_on, documents_in}
use Rattle.image_format.specs.Shapes.{shape_of, types_of}
use Rattle.attr_types.specs.Table.{Table}
use Rattle.attr_types.specs.declared.field.Field.{Field}
use Rattle.attr_types.specs.declared.field.TheConstants.{MOST_FIELDS}
use Rattle.attr_report.specs.Report.{answer_line, count_line}
use Rattle.attr_rounds.specs.declared.asked.Told.{Told}

-- a line of a report, or of a summary, which counts the documents
abbrev pub line_of : Bool → ℕ → Answer → List ℕ
line_of false number answer = answer_line number answer
line_of true number answer = count_line number (documents_in answer)

-- the lines of asks, numbered from `number` on, over a table
abbrev pub lines_from : Bool → ℕ → List AskTree → Table → List ℕ
lines_from counted number [] table = []
lines_from counted number (ask ∷ asks) table = line_of counted number (answer_on ask table) ++ lines_from counted (number + 1) asks table

-- what is told of a table: its number of documents, and the lines of its answers
pub record TellsTable (counted : Bool) (asks : List AskTree) (table : Table) (told : Told) : Type 0 where
  pub documents : told.documents ≡ length table
  pub lines : string_bytes told.lines ≡ lines_from counted 1 asks table

-- this many asks can be answered at images of this shape
pub record CanAsk (fields : List Field) (count shape : ℕ) : Type 0 where
  pub few : length fields ≤ MOST_FIELDS
  pub shape_is : shape ≡ shape_of (types_of fields)
  pub small : count < 2 ^ 63
