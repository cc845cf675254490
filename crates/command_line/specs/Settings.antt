-- The settings of a run that words give, or why they give none.
-- Each step gives its first refusal or its result, so the order of the lines of `settings_by` is the order of the
-- checks.
use Rattle.std.specs.Prelude.{◌≡◌, ◌≤◌, ◌*◌, ℕ, Bool, true, false, List, [], ◌∷◌, length, map}
use Rattle.std.specs.Prelude.{nat_lt, if◌then◌else◌, string_bytes, Option, Some, None, IfSome, Result, Ok, Err}
use Rattle.clap.specs.Walk.{Row, Text}
use Rattle.clap.specs.Kinds.{Kinds}
use Rattle.clap.specs.Simple.{matches_of}
use Rattle.clap.specs.Faults.{fault_of}
use Rattle.clap.specs.declared.error.kind.ErrorKind.TheVariants as kinds
use Rattle.attr_types.specs.declared.field.Field.{Field}
use Rattle.attr_types.specs.Names.{kind_named, value_named}
use Rattle.command_line.specs.CommandLine.{attr_app, batch, readers, rounds, buffers, words, make, seed}
use Rattle.command_line.specs.Reading.{Said, said_by, IsWithin}
use Rattle.command_line.specs.Also.{◌>>=◌, named_fields}
use Rattle.command_line.specs.declared.settings.Settings.{Settings}
use Rattle.command_line.specs.declared.reading.WordsError.{WordsError}
use Rattle.command_line.specs.declared.reading.WordsError.TheVariants as errors

-- the settings of a run; its attributes are numbered from 0
pub record Given : Type 0 where
  pub fields : List Field
  pub batch : ℕ
  pub readers : ℕ
  pub rounds : ℕ
  pub buffers : ℕ
  pub words : ℕ
  pub after : Bool
  pub make : Option ℕ
  pub seed : ℕ
  pub wide : Bool
  pub dense : Bool
  pub save : Bool
  pub queries : List Text

-- the contents of the options, with the attributes that they name
abbrev pub given_with : Said → List Field → Given
given_with said fields = record {
  fields = fields;
  batch = said.batch;
  readers = said.readers;
  rounds = said.rounds;
  buffers = said.buffers;
  words = said.words;
  after = said.after;
  make = said.make;
  seed = said.seed;
  wide = said.wide;
  dense = said.dense;
  save = said.save;
  queries = said.queries;
}

-- what exists, or this refusal
abbrev pub or_refused : {A : Type 0} → WordsError → Option A → Result A WordsError
or_refused error (Some a) = Ok a
or_refused error None = Err error

-- references have 10 bits for the buffer, or 13 with `--wide`, which allows at most 2 ^ 26 words
abbrev pub are_too_many : Bool → ℕ → ℕ → Bool
are_too_many true buffers words = nat_lt 67108864 (buffers * words)
are_too_many false buffers words = nat_lt 1023 buffers

abbrev pub if_room : Bool → ℕ → ℕ → Option (Unit {0})
if_room wide buffers words = if are_too_many wide buffers words then None else Some tt

unfoldable pub settings_by : Said → Result Given WordsError
settings_by said = do
  kind ← or_refused errors.Kind (kind_named said.kind)
  value ← or_refused errors.Value (value_named said.value)
  room ← or_refused (errors.Size said.buffers said.words) (if_room said.wide said.buffers said.words)
  fields ← named_fields (record { name = said.field; kind = kind; value = value }) said.also
  Ok (given_with said fields)

-- the contents of the options, a request for help, or a refusal, from clap's faults and matches
abbrev pub said_or_refused : Kinds → List Row → Result Said WordsError
said_or_refused [] rows = Ok (said_by rows)
said_or_refused (kinds.DisplayHelp ∷ _) rows = Err errors.Help
said_or_refused (_ ∷ _) rows = Err errors.Refused

unfoldable pub said_in : List Text → Result Said WordsError
said_in line = said_or_refused (fault_of attr_app line) (matches_of attr_app line)

-- the settings that a list of words gives for the command `attr`
unfoldable pub settings_in : List Text → Result Given WordsError
settings_in line = said_in line >>= settings_by

-- ---- the result of `read_words`

-- the texts and numbers of the settings
abbrev pub given_by : Settings → Given
given_by s = record {
  fields = s.fields;
  batch = s.batch;
  readers = s.readers;
  rounds = s.rounds;
  buffers = s.buffers;
  words = s.words;
  after = s.after;
  make = s.make;
  seed = s.seed;
  wide = s.wide;
  dense = s.dense;
  save = s.save;
  queries = map (λ q. string_bytes q) s.queries.items;
}

-- the result is what was expected, or its refusal; after memory is exhausted nothing is claimed
abbrev pub Says : {A B : Type 0} → (A → B) → Result A WordsError → Result B WordsError → Type 0
Says shown (Ok a) wanted = wanted ≡ Ok (shown a)
Says shown (Err errors.Help) wanted = wanted ≡ Err errors.Help
Says shown (Err errors.Refused) wanted = wanted ≡ Err errors.Refused
Says shown (Err errors.Kind) wanted = wanted ≡ Err errors.Kind
Says shown (Err errors.Value) wanted = wanted ≡ Err errors.Value
Says shown (Err (errors.Size buffers words)) wanted = wanted ≡ Err (errors.Size buffers words)
Says shown (Err (errors.Also place)) wanted = wanted ≡ Err (errors.Also place)
Says shown (Err errors.Memory) wanted = Unit {0}

-- each number is in the range of its option, the buffers can be named, and there are one to eight attributes
pub record IsLawful (given : Given) : Type 0 where
  pub in_batch : IsWithin batch given.batch
  pub in_readers : IsWithin readers given.readers
  pub in_rounds : IsWithin rounds given.rounds
  pub in_buffers : IsWithin buffers given.buffers
  pub in_words : IsWithin words given.words
  pub in_make : IfSome given.make (IsWithin make)
  pub in_seed : IsWithin seed given.seed
  pub room : are_too_many given.wide given.buffers given.words ≡ false
  pub some : 1 ≤ length given.fields
  pub few : length given.fields ≤ 8

-- the settings of all words are lawful
abbrev pub SettingsAreLawful : Type 0
SettingsAreLawful = (line : List Text) (given : Given) → settings_in line ≡ Ok given → IsLawful given
