-- Which words request no run, and why: each refusal by its own rule. A rule applies only if none before it does.
use Rattle.std.specs.Prelude.{◌≡◌, ℕ, true, false, List, IsSome, Some, None, Ok, Err}
use Rattle.clap.specs.Walk.{Text}
use Rattle.clap.specs.Simple.{matches_of}
use Rattle.attr_types.specs.Names.{kind_named, value_named}
use Rattle.attr_types.specs.declared.error.QueryError.{QueryError}
use Rattle.attr_types.specs.declared.field.Field.{Field}
use Rattle.command_line.specs.CommandLine.{attr_app}
use Rattle.command_line.specs.Reading.{Said, said_by, AreTaken, AreRefused}
use Rattle.command_line.specs.Also.{named_fields}
use Rattle.command_line.specs.Settings.{Given, settings_in, are_too_many}
use Rattle.command_line.specs.declared.reading.WordsError.TheVariants as words
use Rattle.attr_run.specs.Settings.{IsFirstRefused}
use Rattle.attr_run.specs.declared.outcome.UsageCause.{UsageCause}
use Rattle.attr_run.specs.declared.outcome.UsageCause.TheVariants as usage

-- the contents of the options, if the command accepts the words
abbrev pub said_of : List Text → Said
said_of line = said_by (matches_of attr_app line)

-- the name is not that of a kind
pub record NamesNoKind (line : List Text) : Type 0 where
  pub taken : AreTaken line
  pub kind : kind_named (said_of line).kind ≡ None

-- the name of the kind is right, and the other is not that of a value type
pub record NamesNoValue (line : List Text) : Type 0 where
  pub taken : AreTaken line
  pub kind : IsSome (kind_named (said_of line).kind)
  pub value : value_named (said_of line).value ≡ None

-- both names are right, and the store is too large
pub record AsksTooMuch (line : List Text) (buffers each : ℕ) : Type 0 where
  pub taken : AreTaken line
  pub kind : IsSome (kind_named (said_of line).kind)
  pub value : IsSome (value_named (said_of line).value)
  pub buffers_are : buffers ≡ (said_of line).buffers
  pub words_are : each ≡ (said_of line).words
  pub many : are_too_many (said_of line).wide buffers each ≡ true

-- the store is not too large, and the text of `--also` has its first wrong part at this offset
pub record NamesBadField (line : List Text) (place : ℕ) : Type 0 where
  pub taken : AreTaken line
  pub first : Field
  pub name : first.name ≡ (said_of line).field
  pub kind : kind_named (said_of line).kind ≡ Some first.kind
  pub value : value_named (said_of line).value ≡ Some first.value
  pub room : are_too_many (said_of line).wide (said_of line).buffers (said_of line).words ≡ false
  pub broken : named_fields first (said_of line).also ≡ Err (words.Also place)

-- the words give settings, and the query with this number is the first that the grammar refuses
pub record AsksBadQuery (line : List Text) (number : ℕ) (error : QueryError) : Type 0 where
  pub given : Given
  pub is : settings_in line ≡ Ok given
  pub first : IsFirstRefused given.fields given.queries number error

-- why words request no run, by the rule of each cause
abbrev pub IsRefusedFor : List Text → UsageCause → Type 0
IsRefusedFor line usage.Words = AreRefused line
IsRefusedFor line usage.KindName = NamesNoKind line
IsRefusedFor line usage.ValueName = NamesNoValue line
IsRefusedFor line (usage.Size buffers each) = AsksTooMuch line buffers each
IsRefusedFor line (usage.Also place) = NamesBadField line place
IsRefusedFor line (usage.Query number error) = AsksBadQuery line number error
