-- How lines change attributes.
use Rattle.std.specs.Prelude.{◌≡◌, ℕ, ◌+◌, ◌<◌, ◌≤◌, true, false, List, [], ◌∷◌, ◌++◌, length, drop}
use Rattle.std.specs.Prelude.{Option, Some, None, IfSome, Result, Ok, Err}
use Rattle.attr_types.specs.Lawful.{OpFits}
use Rattle.attr_types.specs.Table.{Table, after_op, after_ops, skipped_ops}
use Rattle.attr_types.specs.declared.applied.Applied.{Applied}
use Rattle.attr_types.specs.declared.applied.Applied.TheVariants.{Changed, Skipped}
use Rattle.attribute_kinds.specs.Calls.{applied_to}
use Rattle.attr_types.specs.declared.field.Field.{Field}
use Rattle.attr_types.specs.declared.op.Op.{Op}
use Rattle.feed_reader.specs.Feed.{feed_of, most_bytes, ops_of_lines, FeedFailsBy}
use Rattle.feed_reader.specs.Grammar.{op_of_line}
use Rattle.feed_reader.specs.Lines.{lines_of, is_blank}
use Rattle.feed_reader.specs.declared.error.FeedError.{FeedError}
use Rattle.feed_reader.specs.declared.error.FeedError.TheVariants as errors
use Rattle.feed_reader.specs.declared.refusal.Refusal.{Refusal}
use Rattle.feed_reader.specs.declared.refusal.Refusal.TheVariants as refusals
use Rattle.attr_c.specs.declared.stop.Stop.{Stop}
use Rattle.attr_c.specs.declared.stop.Stop.TheVariants as stops

-- why a line is refused: its content is, as a feed of its own; or it is longer than a feed may be
abbrev pub FailsLine : List Field → List ℕ → FeedError → Type 0
FailsLine fields line errors.FeedTooLong = most_bytes < length line
FailsLine fields line errors.ReadFault = ⊥
FailsLine fields line error = FeedFailsBy error (feed_of fields line)

-- the content of one line: none if it is blank, otherwise its operation, or its refusal
abbrev pub SaysLine : List Field → List ℕ → Result (Option Op) FeedError → Type 0
SaysLine fields line (Ok None) = is_blank line ≡ true
SaysLine fields line (Ok (Some op)) = (is_blank line ≡ false) × (op_of_line fields line ≡ Ok op) × OpFits fields op
SaysLine fields line (Err error) = (is_blank line ≡ false) × FailsLine fields line error

-- the operation of a line was applied, with this result
pub record AppliesLine (fields : List Field) (line : List ℕ) (old new : Table) (before after : ℕ) (applied : Applied) : Type 0 where
  pub op : Op
  pub some : is_blank line ≡ false
  pub says : op_of_line fields line ≡ Ok op
  pub table : new ≡ after_op fields old op
  pub operations : after ≡ before + 1
  pub applied_is : applied ≡ applied_to fields old op

-- how many operations of a line changed nothing
abbrev pub skips_of : Option Applied → ℕ
skips_of None = 0
skips_of (Some Changed) = 0
skips_of (Some Skipped) = 1

-- a stop that is not the refusal of a line
abbrev pub IsOfNoLine : Stop → Type 0
IsOfNoLine (stops.Line error) = ⊥
IsOfNoLine stop = Unit {0}

-- the table and the number of operations are unchanged
pub record Stays (old new : Table) (before after : ℕ) : Type 0 where
  pub table : new ≡ old
  pub operations : after ≡ before

abbrev pub FedLine : List Field → List ℕ → Table → Table → ℕ → ℕ → Result (Option Applied) Stop → Type 0
FedLine fields line old new before after (Ok None) = (is_blank line ≡ true) × Stays old new before after
FedLine fields line old new before after (Ok (Some applied)) = AppliesLine fields line old new before after applied
FedLine fields line old new before after (Err (stops.Line error)) =
    (is_blank line ≡ false) × FailsLine fields line error × Stays old new before after
FedLine fields line old new before after (Err stop) = Stays old new before after

-- the operations of the lines of a feed before the rest of it
pub record IsSaidBefore (fields : List Field) (bytes rest : List ℕ) (ops : List Op) : Type 0 where
  pub lines : List (List ℕ)
  pub split : lines_of bytes ≡ lines ++ lines_of rest
  pub said : ops_of_lines fields 1 lines ≡ Ok ops

-- a feed up to one of its lines, whose number is one more than there are lines before it: the operations of these lines
-- were applied, and so many of them changed nothing
pub record FedTo (fields : List Field) (bytes : List ℕ) (number : ℕ) (rest : List ℕ) (old new : Table)
    (before after skipped : ℕ) : Type 0 where
  pub ops : List Op
  pub front : IsSaidBefore fields bytes rest ops
  pub number_is : number ≡ length front.lines + 1
  pub table : new ≡ after_ops fields old ops
  pub operations : after ≡ before + length ops
  pub skips : skipped ≡ skipped_ops fields old ops

-- why a line is refused, without its number
abbrev pub row_of : FeedError → Option Refusal
row_of (errors.NotJson line) = Some refusals.NotJson
row_of (errors.NoOperation line) = Some refusals.NoOperation
row_of (errors.BadId line) = Some refusals.BadId
row_of (errors.BadValue line) = Some refusals.BadValue
row_of (errors.Unsupported line) = Some refusals.Unsupported
row_of (errors.TooManyItems line) = Some refusals.TooManyItems
row_of errors.FeedTooLong = None
row_of errors.ReadFault = None
row_of errors.Memory = None

-- the first of these lines has more bytes than a line may have
pub record BeginsTooLong (rest : List ℕ) : Type 0 where
  pub line : List ℕ
  pub lines : List (List ℕ)
  pub first : lines_of rest ≡ line ∷ lines
  pub long : most_bytes < length line

-- the line that begins at a place ends before another one, where the lines behind it begin
pub record IsLineBetween (bytes : List ℕ) (place next : ℕ) : Type 0 where
  pub line : List ℕ
  pub lines : lines_of (drop place bytes) ≡ line ∷ lines_of (drop next bytes)
  pub within : next ≤ length bytes

-- why the line of this number is refused, with which the rest of a feed begins: it is the first faulty line of the feed,
-- or too long
abbrev pub RefusesLine : List Field → List ℕ → ℕ → List ℕ → FeedError → Type 0
RefusesLine fields bytes number rest errors.FeedTooLong = BeginsTooLong rest
RefusesLine fields bytes number rest errors.ReadFault = ⊥
RefusesLine fields bytes number rest error = IfSome (row_of error) (λ row. feed_of fields bytes ≡ Err (number, row))

-- if a line is refused, this is why
abbrev pub IfLine : (FeedError → Type 0) → Stop → Type 0
IfLine refuses (stops.Line error) = refuses error
IfLine refuses stop = Unit {0}

-- why a feed stopped at its line of this number, with which the rest begins: the line is refused, or its operation was
-- not applied
abbrev pub StopsFeed : List Field → List ℕ → ℕ → List ℕ → (Stop → Type 0) → Stop → Type 0
StopsFeed fields bytes number rest why (stops.Line error) = RefusesLine fields bytes number rest error × why (stops.Line error)
StopsFeed fields bytes number rest why stop = why stop

-- the operation of a line
pub record IsOpOf (fields : List Field) (line : List ℕ) (op : Op) : Type 0 where
  pub some : is_blank line ≡ false
  pub says : op_of_line fields line ≡ Ok op

-- the operations of a line: none if it is blank, otherwise one
abbrev pub AreOpsOf : List Field → List ℕ → List Op → Type 0
AreOpsOf fields line [] = is_blank line ≡ true
AreOpsOf fields line (op ∷ []) = IsOpOf fields line op
AreOpsOf fields line (op ∷ more ∷ ops) = ⊥

-- the operation of the first of these lines
pub record IsFirstOp (fields : List Field) (rest : List ℕ) (op : Op) : Type 0 where
  pub line : List ℕ
  pub lines : List (List ℕ)
  pub first : lines_of rest ≡ line ∷ lines
  pub is : IsOpOf fields line op

-- a whole feed: each of its operations was applied, in order, and so many of them changed nothing
pub record Feeds (fields : List Field) (bytes : List ℕ) (old new : Table) (before after skipped : ℕ) : Type 0 where
  pub ops : List Op
  pub said : feed_of fields bytes ≡ Ok ops
  pub table : new ≡ after_ops fields old ops
  pub operations : after ≡ before + length ops
  pub skips : skipped ≡ skipped_ops fields old ops
