-- What is written about a run, by its progress.
use Rattle.std.specs.Prelude.{◌≡◌, ℕ, ◌+◌, List, [], ◌∷◌, ◌++◌, map, string_bytes, Option, Some, None, Vec}
use Rattle.std.specs.Global.{Global}
use Rattle.attr_rounds.specs.declared.rounds.Round.{Round}
use Rattle.attr_rounds.specs.declared.asked.Told.{Told}
use Rattle.attr_loader.specs.declared.loaded.Loaded.{Loaded}
use Rattle.attr_report.specs.Report.{reader_line, final_line, full_line, done_line, made_line, documents_line}
use Rattle.attr_report.specs.declared.request.Make.{Make}
use Rattle.attr_engine.specs.declared.run_result.RunResult.{RunResult}
use Rattle.attr_engine.specs.declared.run_result.Save.{Save}
use Rattle.attr_engine.specs.declared.written.Written.{Written}
use Rattle.attr_engine.specs.Run.{full_of}

-- a round, and its lines
abbrev pub round_text : ℕ → ℕ → Round Told → List ℕ
round_text reader number round = reader_line reader number round.operations ++ string_bytes round.answer.lines

-- a reader's rounds, numbered from `number` on
abbrev pub rounds_text : ℕ → ℕ → List (Round Told) → List ℕ
rounds_text reader number [] = []
rounds_text reader number (round ∷ rounds) = round_text reader number round ++ rounds_text reader (number + 1) rounds

-- the rounds of the readers from number `reader` on
abbrev pub readers_text : ℕ → List (Vec (Round Told) Global) → List ℕ
readers_text reader [] = []
readers_text reader (rounds ∷ others) = rounds_text reader 1 rounds.items ++ readers_text (reader + 1) others

-- the operation that ran out of space, if any, and how many were loaded and skipped
abbrev pub end_text : Loaded → List ℕ
end_text loaded = full_line (full_of loaded.full) ++ done_line loaded.operations loaded.skipped

abbrev pub report_text : RunResult → List ℕ
report_text run_result = readers_text 1 run_result.rounds.items ++ final_line run_result.loaded.operations ++ string_bytes run_result.last.lines
    ++ end_text run_result.loaded

abbrev pub summary_text : Make → RunResult → List ℕ
summary_text make run_result = made_line make ++ documents_line run_result.loaded.operations run_result.last.documents ++ string_bytes run_result.last.lines
    ++ end_text run_result.loaded

-- the report, or the summary if the operations were made
abbrev pub text_of : Option Make → RunResult → List ℕ
text_of None run_result = report_text run_result
text_of (Some make) run_result = summary_text make run_result

-- how many operations each round of a reader saw
abbrev pub operations_of_rounds : List (Round Told) → List ℕ
operations_of_rounds rounds = map (λ round. round.operations) rounds

-- what is written about a run that does not save its table
pub record IsWrittenOf (make : Option Make) (run_result : RunResult) (w : Written) : Type 0 where
  pub loaded : w.loaded ≡ run_result.loaded.operations
  pub full : w.full ≡ run_result.loaded.full
  pub rounds : w.rounds ≡ map (λ r. operations_of_rounds r.items) run_result.rounds.items
  pub saved : w.saved ≡ None
  pub text : w.text.items ≡ text_of make run_result
  pub writer : w.writer ≡ run_result.writer

-- what is written of a run that saves the table: the save
pub record IsSavedOf (run_result : RunResult) (save : Save) (w : Written) : Type 0 where
  pub loaded : w.loaded ≡ run_result.loaded.operations
  pub full : w.full ≡ run_result.loaded.full
  pub rounds : w.rounds ≡ map (λ r. operations_of_rounds r.items) run_result.rounds.items
  pub saved : w.saved ≡ Some save.operations
  pub text : w.text ≡ save.bytes
  pub writer : w.writer ≡ run_result.writer
