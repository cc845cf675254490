-- How a list of words is read, by clap's `fault_of` and `matches_of` over the command `attr`.
use Rattle.std.specs.Prelude.{◌≡◌, ◌≢◌, ◌≤◌, ℕ, Bool, List, [], ◌∷◌, map, codes, Result, Ok, Err}
use Rattle.std.specs.Prelude.{Option, Some, IfSome, option_map, unwrap_or, string_bytes, String}
use Rattle.std.specs.declared.alloc.Global.{Global}
use Rattle.std.specs.Str.{bytes_eq}
use Rattle.std.specs.Str.Parse.{digits_value, without_leading_plus}
use Rattle.clap.specs.Walk.{Row, Text, all_of, first_of}
use Rattle.clap.specs.Simple.{matches_of}
use Rattle.clap.specs.Faults.{fault_of}
use Rattle.clap.specs.declared.error.kind.ErrorKind.{ErrorKind}
use Rattle.clap.specs.declared.error.kind.ErrorKind.TheVariants as kinds
use Rattle.command_line.specs.CommandLine.{NumberOption, attr_app, batch, readers, rounds, buffers, words, make, seed}
use Rattle.command_line.specs.declared.options.Options.{Options}
use Rattle.command_line.specs.declared.reading.WordsError.{WordsError}
use Rattle.command_line.specs.declared.reading.WordsError.TheVariants as errors

-- ---- when the words are accepted

-- the command accepts the words
abbrev pub AreTaken : List Text → Type 0
AreTaken line = fault_of attr_app line ≡ []

-- the words ask for help, before anything in them is refused
abbrev pub AskForHelp : List Text → Type 0
AskForHelp line = fault_of attr_app line ≡ kinds.DisplayHelp ∷ []

-- the command refuses the words
abbrev pub AreRefused : List Text → Type 0
AreRefused line = (kind : ErrorKind) × (kind ≢ kinds.DisplayHelp)
    × (fault_of attr_app line ≡ kind ∷ [])

-- ---- the contents of the options

-- the content of each option, as texts and numbers
pub record Said : Type 0 where
  pub kind : Text
  pub value : Text
  pub field : Text
  pub also : Option Text
  pub batch : ℕ
  pub readers : ℕ
  pub rounds : ℕ
  pub buffers : ℕ
  pub words : ℕ
  pub make : Option ℕ
  pub seed : ℕ
  pub after : Bool
  pub wide : Bool
  pub dense : Bool
  pub save : Bool
  pub queries : List Text

-- the text of an option; an option that is required or has a default has a text
abbrev pub text_at : Text → List Row → Text
text_at name rows = unwrap_or (first_of name rows) []

-- a number, as clap's unsigned parser reads its text: digits after at most one `+`
abbrev pub number_in : Text → ℕ
number_in text = digits_value 10 (without_leading_plus text)

abbrev pub number_at : Text → List Row → ℕ
number_at name rows = number_in (text_at name rows)

-- the flag was given
abbrev pub flag_at : Text → List Row → Bool
flag_at name rows = bytes_eq (text_at name rows) (codes "true")

-- the words that belong to no option
abbrev pub texts_at : Text → List Row → List Text
texts_at name rows = unwrap_or (all_of name rows) []

-- the contents of the options, from clap's matches
abbrev pub said_by : List Row → Said
said_by rows = record {
  kind = text_at (codes "kind") rows;
  value = text_at (codes "value") rows;
  field = text_at (codes "field") rows;
  also = first_of (codes "also") rows;
  batch = number_at batch.name rows;
  readers = number_at readers.name rows;
  rounds = number_at rounds.name rows;
  buffers = number_at buffers.name rows;
  words = number_at words.name rows;
  make = option_map number_in (first_of make.name rows);
  seed = number_at seed.name rows;
  after = flag_at (codes "after") rows;
  wide = flag_at (codes "wide") rows;
  dense = flag_at (codes "dense") rows;
  save = flag_at (codes "save") rows;
  queries = texts_at (codes "query") rows;
}

-- a number that the option takes
abbrev pub IsWithin : NumberOption → ℕ → Type 0
IsWithin o n = (o.least ≤ n) × (n ≤ o.most)

-- each number lies in the range of its option
pub record IsInRange (said : Said) : Type 0 where
  pub in_batch : IsWithin batch said.batch
  pub in_readers : IsWithin readers said.readers
  pub in_rounds : IsWithin rounds said.rounds
  pub in_buffers : IsWithin buffers said.buffers
  pub in_words : IsWithin words said.words
  pub in_make : IfSome said.make (IsWithin make)
  pub in_seed : IsWithin seed said.seed

-- this holds for all words that the command accepts
abbrev pub RangesHold : Type 0
RangesHold = (line : List Text) → AreTaken line → IsInRange (said_by (matches_of attr_app line))

-- kind, value type and field are texts in the matches, and none is made up
abbrev pub HasGivenTexts : List Row → Type 0
HasGivenTexts rows = (first_of (codes "kind") rows ≡ Some (said_by rows).kind)
    × (first_of (codes "value") rows ≡ Some (said_by rows).value)
    × (first_of (codes "field") rows ≡ Some (said_by rows).field)

abbrev pub TextsAreGiven : Type 0
TextsAreGiven = (line : List Text) → AreTaken line → HasGivenTexts (matches_of attr_app line)

-- ---- what is read

abbrev pub text_option : Option (String Global) → Option Text
text_option text = option_map (λ s. string_bytes s) text

-- the texts and numbers of the options
abbrev pub options_said : Options → Said
options_said o = record {
  kind = string_bytes o.kind;
  value = string_bytes o.value;
  field = string_bytes o.field;
  also = text_option o.also;
  batch = o.batch;
  readers = o.readers;
  rounds = o.rounds;
  buffers = o.buffers;
  words = o.words;
  make = o.make;
  seed = o.seed;
  after = o.after;
  wide = o.wide;
  dense = o.dense;
  save = o.save;
  queries = map (λ q. string_bytes q) o.queries.items;
}

-- the result of the command for a list of words; the three cases exclude each other
abbrev pub AnswersWords : List Text → Result Options WordsError → Type 0
AnswersWords line (Ok o) = AreTaken line × (options_said o ≡ said_by (matches_of attr_app line))
AnswersWords line (Err errors.Help) = AskForHelp line
AnswersWords line (Err errors.Refused) = AreRefused line
AnswersWords line (Err errors.Memory) = Unit {0}
AnswersWords line (Err errors.Kind) = ⊥
AnswersWords line (Err errors.Value) = ⊥
AnswersWords line (Err (errors.Size buffers words)) = ⊥
AnswersWords line (Err (errors.Also place)) = ⊥
