-- What holds of a run that words request: its numbers are in the ranges of their options, and its asks are what its
-- texts say.
use Rattle.std.specs.Prelude.{◌≡◌, ◌≤◌, ◌+◌, ℕ, false, List, ◌∷◌, ◌++◌, length, IfSome, Ok, Err}
use Rattle.std.specs.List.{AllByRecursion, AllZip}
use Rattle.std.specs.Str.{IsUtf8}
use Rattle.clap.specs.Walk.{Text}
use Rattle.attr_types.specs.declared.error.QueryError.{QueryError}
use Rattle.attr_types.specs.declared.field.Field.{Field}
use Rattle.command_line.specs.CommandLine.{batch, readers, rounds, buffers, words, make, seed}
use Rattle.command_line.specs.Reading.{IsWithin}
use Rattle.command_line.specs.Settings.{Given, settings_in, are_too_many}
use Rattle.attr_types.specs.Scores.{AskTree}
use Rattle.query_text.specs.Grammar.{any_word, Answers}
use Rattle.attr_report.specs.Run.{Run}
use Rattle.attr_report.specs.declared.request.Make.{Make}
use Rattle.attr_run.specs.Run.{asked}
use Rattle.attr_run.specs.declared.outcome.Status.TheVariants.{Usage}
use Rattle.attr_run.specs.declared.outcome.UsageCause.TheVariants as usage

-- a text in UTF-8 that asks this of these attributes, according to the grammar of query words
abbrev pub IsTextOf : List Field → Text → AskTree → Type 0
IsTextOf fields text ask = IsUtf8 text × Answers any_word fields text (Ok ask)

abbrev pub IsWithinRanges : Make → Type 0
IsWithinRanges made = IsWithin make made.count × IsWithin seed made.seed

-- lawful settings, and the asks of these texts
pub record IsLawfulRun (texts : List Text) (run : Run) : Type 0 where
  pub in_batch : IsWithin batch run.batch
  pub in_readers : IsWithin readers run.readers
  pub in_rounds : IsWithin rounds run.rounds
  pub in_buffers : IsWithin buffers run.buffers
  pub in_words : IsWithin words run.words
  pub in_make : IfSome run.make IsWithinRanges
  pub room : are_too_many run.wide run.buffers run.words ≡ false
  pub some : 1 ≤ length run.fields
  pub few : length run.fields ≤ 8
  pub asks : AllZip (IsTextOf run.fields) texts run.asks

-- the run is lawful, and its asks are those of the words that belong to no option
pub record IsAskedBy (line : List Text) (run : Run) : Type 0 where
  pub given : Given
  pub is : settings_in line ≡ Ok given
  pub lawful : IsLawfulRun given.queries run

-- this holds of every run that words request
abbrev pub RunsAreAsked : Type 0
RunsAreAsked = (line : List Text) (run : Run) (given : Given) → asked line ≡ Ok run
    → settings_in line ≡ Ok given → AllByRecursion IsUtf8 given.queries → IsAskedBy line run

-- the text with this number, counted from 1, is the first that the grammar refuses, and this is its refusal
pub record IsFirstRefused (fields : List Field) (texts : List Text) (number : ℕ) (error : QueryError) : Type 0 where
  pub before : List Text
  pub text : Text
  pub others : List Text
  pub is : texts ≡ before ++ text ∷ others
  pub count : number ≡ length before + 1
  pub asks : List AskTree
  pub good : AllZip (IsTextOf fields) before asks
  pub utf8 : IsUtf8 text
  pub refused : Answers any_word fields text (Err error)

-- words with these settings are refused because of a query if and only if it is the first that the grammar refuses;
-- for texts that are not UTF-8, the refused query is not stated
pub record IsRefusedSo (line : List Text) (given : Given) (number : ℕ) (error : QueryError) : Type 0 where
  pub only : AllByRecursion IsUtf8 given.queries → asked line ≡ Err (Usage (usage.Query number error))
      → IsFirstRefused given.fields given.queries number error
  pub always : IsFirstRefused given.fields given.queries number error → asked line ≡ Err (Usage (usage.Query number error))

abbrev pub QueriesAreRefused : Type 0
QueriesAreRefused = (line : List Text) (given : Given) (number : ℕ) (error : QueryError) → settings_in line ≡ Ok given
    → IsRefusedSo line given number error
