-- What the words of a command line request, and which operations a run has.
-- Each step gives its first refusal or its result, so the order of the lines below is the order in which a run checks
-- its words and its feed.
use Rattle.std.specs.Prelude.{◌≡◌, ℕ, ◌+◌, nat_lt, if◌then◌else◌, List, [], ◌∷◌, length}
use Rattle.std.specs.Prelude.{Option, Some, None, option_map, Result, Ok, Err}
use Rattle.clap.specs.Walk.{Text}
use Rattle.attr_types.specs.declared.field.Field.{Field}
use Rattle.attr_types.specs.declared.op.Op.{Op}
use Rattle.attr_types.specs.declared.error.QueryError.{QueryError}
use Rattle.command_line.specs.Settings.{Given, settings_in}
use Rattle.command_line.specs.declared.reading.WordsError.{WordsError}
use Rattle.command_line.specs.declared.reading.WordsError.TheVariants as words
use Rattle.attr_types.specs.Scores.{AskTree}
use Rattle.query_text.specs.Asks.{ask_of}
use Rattle.attr_run.specs.Made.{made}
use Rattle.feed_reader.specs.Feed.{feed_of, most_bytes}
use Rattle.feed_reader.specs.declared.refusal.Refusal.{Refusal}
use Rattle.feed_reader.specs.declared.refusal.Refusal.TheVariants as refusals
use Rattle.attr_report.specs.Run.{Run}
use Rattle.attr_report.specs.declared.request.Make.{Make}
use Rattle.attr_run.specs.declared.outcome.Status.{Status}
use Rattle.attr_run.specs.declared.outcome.Status.TheVariants.{Help, Usage, BadFeed, Memory}
use Rattle.attr_run.specs.declared.outcome.UsageCause.TheVariants as usage
use Rattle.attr_run.specs.declared.outcome.FeedFault.TheVariants as feed

-- the next step, if nothing was refused so far
infixl 10 ◌>>=◌
abbrev pub ◌>>=◌ : {A B : Type 0} → Result A Status → (A → Result B Status) → Result B Status
Ok a >>= next = next a
Err status >>= next = Err status

-- ---- the words

-- the answer to words that give no settings
abbrev pub refusal_of : WordsError → Status
refusal_of words.Help = Help
refusal_of words.Refused = Usage usage.Words
refusal_of words.Kind = Usage usage.KindName
refusal_of words.Value = Usage usage.ValueName
refusal_of (words.Size buffers each) = Usage (usage.Size buffers each)
refusal_of (words.Also place) = Usage (usage.Also place)
refusal_of words.Memory = Memory

abbrev pub given_or_refused : Result Given WordsError → Result Given Status
given_or_refused (Ok given) = Ok given
given_or_refused (Err error) = Err (refusal_of error)

-- an ask, or its refusal with its number
abbrev pub ask_or_refused : ℕ → Result AskTree QueryError → Result AskTree Status
ask_or_refused number (Ok ask) = Ok ask
ask_or_refused number (Err error) = Err (Usage (usage.Query number error))

-- the asks of texts, numbered from `number` on; the first bad one decides
unfoldable pub asks_from : List Field → ℕ → List Text → Result (List AskTree) Status
asks_from fields number [] = Ok []
asks_from fields number (text ∷ texts) = do
  ask ← ask_or_refused number (ask_of fields text)
  asks ← asks_from fields (number + 1) texts
  Ok (ask ∷ asks)

abbrev pub make_of : Option ℕ → ℕ → Option Make
make_of count seed = option_map (λ n. record { count = n; seed = seed }) count

-- the run with these settings and asks
abbrev pub run_of : Given → List AskTree → Run
run_of given asks = record {
  fields = given.fields;
  batch = given.batch;
  readers = given.readers;
  rounds = given.rounds;
  buffers = given.buffers;
  words = given.words;
  after = given.after;
  make = make_of given.make given.seed;
  wide = given.wide;
  dense = given.dense;
  save = given.save;
  asks = asks;
}

-- the run that words request, or why they request none
unfoldable pub asked : List Text → Result Run Status
asked line = do
  given ← given_or_refused (settings_in line)
  asks ← asks_from given.fields 1 given.queries
  Ok (run_of given asks)

-- they request a run that reads a feed
abbrev pub ReadsFeed : Result Run Status → Type 0
ReadsFeed (Ok run) = run.make ≡ None
ReadsFeed (Err status) = ⊥

-- ---- the operations

-- the number of a refusal of a feed's line, in the order of the checks on a line
abbrev pub refusal_number : Refusal → ℕ
refusal_number refusals.NotJson = 1
refusal_number refusals.NoOperation = 2
refusal_number refusals.BadId = 3
refusal_number refusals.BadValue = 4
refusal_number refusals.Unsupported = 5
refusal_number refusals.TooManyItems = 6

-- operations, or the refusal of the first faulty line
abbrev pub ops_or_refused : Result (List Op) (ℕ × Refusal) → Result (List Op) Status
ops_or_refused (Ok ops) = Ok ops
ops_or_refused (Err fault) = Err (BadFeed (feed.Line fault.0 (refusal_number fault.1)))

-- the operations that a feed's bytes give, or why they are refused
unfoldable pub ops_in : List Field → List ℕ → Result (List Op) Status
ops_in fields bytes =
    if nat_lt most_bytes (length bytes) then Err (BadFeed feed.TooLong)
    else ops_or_refused (feed_of fields bytes)

abbrev pub fed_by : Option Make → List Field → List ℕ → Result (List Op) Status
fed_by (Some make) fields bytes = Ok (made make.count make.seed fields)
fed_by None fields bytes = ops_in fields bytes

-- the operations of a run: made ones, or those of the bytes of its feed
unfoldable pub fed : Run → List ℕ → Result (List Op) Status
fed run bytes = fed_by run.make run.fields bytes

-- a run with its operations
pub record Task : Type 0 where
  pub run : Run
  pub ops : List Op

-- the task that words and the bytes of a feed give, or the first refusal of either
unfoldable pub task_of : List Text → List ℕ → Result Task Status
task_of line bytes = do
  run ← asked line
  ops ← fed run bytes
  Ok (record { run = run; ops = ops })
