-- The content of a feed's bytes: its operations, or the first faulty line and its refusal.
use Rattle.std.specs.Prelude.{◌≡◌, ℕ, ◌+◌, List, [], ◌∷◌, ◌++◌, ◌≤◌, length, IfSome, if◌then◌else◌, Result, Ok, Err}
use Rattle.std.specs.declared.option.Option.{Option}
use Rattle.std.specs.Io.KnownBytes.{IsAtEnd}
use Rattle.attr_types.specs.declared.field.Field.{Field}
use Rattle.attr_types.specs.declared.op.Op.{Op}
use Rattle.feed_reader.specs.declared.refusal.Refusal.{Refusal}
use Rattle.feed_reader.specs.declared.refusal.Refusal.TheVariants as refusals
use Rattle.feed_reader.specs.declared.refusal.LineError.{LineError}
use Rattle.feed_reader.specs.declared.refusal.LineError.TheVariants as line_errors
use Rattle.feed_reader.specs.declared.error.FeedError.{FeedError}
use Rattle.feed_reader.specs.declared.error.FeedError.TheVariants as errors
use Rattle.feed_reader.specs.declared.error.LinesError.{LinesError}
use Rattle.feed_reader.specs.declared.error.LinesError.TheVariants as lines_errors
use Rattle.feed_reader.specs.Lines.{lines_of, is_blank}
use Rattle.feed_reader.specs.Grammar.{op_of_line}

-- a faulty line by its number, and the check that refuses it
abbrev pub Fault : Type 0
Fault = ℕ × Refusal

-- the operation of a line followed by those of the later lines; the first fault decides
abbrev pub with_op : ℕ → Result Op Refusal → Result (List Op) Fault → Result (List Op) Fault
with_op line (Err refusal) more = Err (line, refusal)
with_op line (Ok op) (Err fault) = Err fault
with_op line (Ok op) (Ok ops) = Ok (op ∷ ops)

-- the lines from a number on; a blank line is counted and gives no operation
unfoldable pub ops_of_lines : List Field → ℕ → List (List ℕ) → Result (List Op) Fault
ops_of_lines fields number [] = Ok []
ops_of_lines fields number (line ∷ lines) =
    let more = ops_of_lines fields (number + 1) lines in
    if is_blank line then more else with_op number (op_of_line fields line) more

-- the operations of a feed for these fields
unfoldable pub feed_of : List Field → List ℕ → Result (List Op) Fault
feed_of fields bytes = ops_of_lines fields 1 (lines_of bytes)

-- the result of a reader of lines agrees with their content, unless memory was exhausted
abbrev pub LinesFailBy : LinesError → Result (List Op) Fault → Type 0
LinesFailBy lines_errors.Memory said = Unit {0}
LinesFailBy (lines_errors.Line line refusal) said = said ≡ Err (line, refusal)

abbrev pub LinesSay : Result (List Op) LinesError → Result (List Op) Fault → Type 0
LinesSay (Ok ops) said = said ≡ Ok ops
LinesSay (Err e) said = LinesFailBy e said

-- the error of a line, with the line's number
abbrev pub numbered_error : ℕ → LineError → LinesError
numbered_error line line_errors.Memory = lines_errors.Memory
numbered_error line (line_errors.Refused refusal) = lines_errors.Line line refusal

-- the error of a faulty line
abbrev pub line_error : ℕ → Refusal → FeedError
line_error line refusals.NotJson = errors.NotJson line
line_error line refusals.NoOperation = errors.NoOperation line
line_error line refusals.BadId = errors.BadId line
line_error line refusals.BadValue = errors.BadValue line
line_error line refusals.Unsupported = errors.Unsupported line
line_error line refusals.TooManyItems = errors.TooManyItems line

-- the result of a reader of a feed agrees with the bytes; a fault, a feed that is too long and exhausted memory have
-- clauses of their own
abbrev pub FeedFailsBy : FeedError → Result (List Op) Fault → Type 0
FeedFailsBy errors.FeedTooLong said = Unit {0}
FeedFailsBy errors.ReadFault said = Unit {0}
FeedFailsBy errors.Memory said = Unit {0}
FeedFailsBy (errors.NotJson line) said = said ≡ Err (line, refusals.NotJson)
FeedFailsBy (errors.NoOperation line) said = said ≡ Err (line, refusals.NoOperation)
FeedFailsBy (errors.BadId line) said = said ≡ Err (line, refusals.BadId)
FeedFailsBy (errors.BadValue line) said = said ≡ Err (line, refusals.BadValue)
FeedFailsBy (errors.Unsupported line) said = said ≡ Err (line, refusals.Unsupported)
FeedFailsBy (errors.TooManyItems line) said = said ≡ Err (line, refusals.TooManyItems)

abbrev pub FeedSays : Result (List Op) FeedError → Result (List Op) Fault → Type 0
FeedSays (Ok ops) said = said ≡ Ok ops
FeedSays (Err e) said = FeedFailsBy e said

-- the operations already read, followed by those of the rest
abbrev pub with_front : List Op → Result (List Op) Fault → Result (List Op) Fault
with_front front (Ok ops) = Ok (front ++ ops)
with_front front (Err fault) = Err fault

-- a limit of this engine: a feed has at most 16,777,216 bytes
abbrev pub most_bytes : ℕ
most_bytes = 16777216

-- the source was read to its end, and had no more bytes than a feed may have
abbrev pub ReadsAll : Option (List ℕ) → Option (List ℕ) → Type 0
ReadsAll old new = IfSome old (λ bytes. length bytes ≤ most_bytes) × IsAtEnd new

-- the fact holds if lines were interpreted: after success, and after each line's error
abbrev pub OnLineError : FeedError → Type 0 → Type 0
OnLineError errors.FeedTooLong P = Unit {0}
OnLineError errors.ReadFault P = Unit {0}
OnLineError errors.Memory P = Unit {0}
OnLineError _ P = P

abbrev pub OnLines : Result (List Op) FeedError → Type 0 → Type 0
OnLines (Ok ops) P = P
OnLines (Err e) P = OnLineError e P
