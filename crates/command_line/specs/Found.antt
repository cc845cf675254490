-- What `read_words` finds on its way: the texts of the options, and clap's kinds of error.
use Rattle.std.specs.Prelude.{◌≡◌, ◌<◌, ◌^◌, ◌⊎◌, List, Some, None, codes}
use Rattle.std.specs.Str.Parse.{IsNumeral, digits_value, without_leading_plus}
use Rattle.clap.specs.Walk.{Row, Text, first_of, one_of}
use Rattle.clap.specs.declared.error.kind.ErrorKind.{ErrorKind}
use Rattle.clap.specs.declared.error.kind.ErrorKind.TheVariants as kinds
use Rattle.command_line.specs.CommandLine.{batch, readers, rounds, buffers, words, make, seed}
use Rattle.command_line.specs.declared.reading.WordsError.{WordsError}
use Rattle.command_line.specs.declared.reading.WordsError.TheVariants as errors

-- an argument has a text, as it was written, with property P
abbrev pub HasText : (Text → Type 0) → Text → List Row → Type 0
HasText P name rows = (text : Text) × (first_of name rows ≡ Some text)
    × (one_of name rows ≡ Some text) × P text

-- it has such a text, or no text
abbrev pub MayHaveText : (Text → Type 0) → Text → List Row → Type 0
MayHaveText P name rows = ((first_of name rows ≡ None) × (one_of name rows ≡ None)) ⊎ HasText P name rows

-- a text that is a number below 2^32
abbrev pub IsNumberText : Text → Type 0
IsNumberText text = IsNumeral 10 (without_leading_plus text)
    × (digits_value 10 (without_leading_plus text) < 2 ^ 32)

abbrev pub HasNumberText : Text → List Row → Type 0
HasNumberText = HasText IsNumberText

-- its text is `true` or `false`
abbrev pub HasFlagText : Text → List Row → Type 0
HasFlagText = HasText (λ text. (text ≡ codes "true") ⊎ (text ≡ codes "false"))

-- the numbers and the flags have their texts
pub record HasTexts (rows : List Row) : Type 0 where
  pub batch : HasNumberText batch.name rows
  pub readers : HasNumberText readers.name rows
  pub rounds : HasNumberText rounds.name rows
  pub buffers : HasNumberText buffers.name rows
  pub words : HasNumberText words.name rows
  pub make : MayHaveText IsNumberText make.name rows
  pub seed : HasNumberText seed.name rows
  pub after : HasFlagText (codes "after") rows
  pub wide : HasFlagText (codes "wide") rows
  pub dense : HasFlagText (codes "dense") rows
  pub save : HasFlagText (codes "save") rows

-- the error for a kind of error of clap
abbrev pub error_of : ErrorKind → WordsError
error_of kinds.DisplayHelp = errors.Help
error_of kinds.OutOfMemory = errors.Memory
error_of _ = errors.Refused
