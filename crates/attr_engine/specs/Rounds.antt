-- The rounds of a run: each is at one commit, with the lines of the plain table there.
use Rattle.std.specs.Prelude.{◌≡◌, ℕ, ◌+◌, ◌≤◌, Bool, true, false, List, ◌∷◌, map, length, Option, is_some, IfSome, All}
use Rattle.std.specs.List.{AllByRecursion}
use Rattle.std.specs.List.Sorted.{IsNonDecreasing}
use Rattle.entry_ref.specs.Records.{Records}
use Rattle.gen_core.specs.declared.views.ReaderView.{ReaderView}
use Rattle.image_format.specs.Images.{operations_at, table_of, IsLawfulImage}
use Rattle.attr_types.specs.Scores.{AskTree}
use Rattle.attr_types.specs.declared.op.Op.{Op}
use Rattle.attr_loader.specs.Loading.{commit_point}
use Rattle.attr_rounds.specs.Rounds.{MakesRounds}
use Rattle.attr_rounds.specs.declared.rounds.Round.{Round}
use Rattle.attr_rounds.specs.declared.asked.Told.{Told}
use Rattle.attr_rounds.specs.Lines.{TellsTable}
use Rattle.attr_report.specs.Run.{Run, Progress, table_after, skipped_at}
use Rattle.attr_report.specs.History.{IsLoaded, IsSavedAt}
use Rattle.attr_report.specs.Report.{saved_text}
use Rattle.attr_engine.specs.declared.run_result.RunResult.{RunResult}
use Rattle.attr_engine.specs.declared.run_result.Save.{Save}
use Rattle.attr_engine.specs.FullStore.{IsJustified}
use Rattle.attr_engine.specs.FullWriter.{IsFullAtEnd}
use Rattle.attr_engine.specs.Memory.{IsOfMemory}
use Rattle.attr_engine.specs.Run.{full_of}

-- a round is at a commit up to the last, with the answers of the table after the operations of that commit
pub record IsRoundAt (run : Run) (ops : List Op) (last : ℕ) (round : Round Told) : Type 0 where
  pub commit : round.commit ≤ last
  pub point : round.operations ≡ commit_point run.batch (length ops) round.commit
  pub tells : TellsTable (is_some run.make) run.asks (table_after run ops round.operations) round.answer

abbrev pub commits_of : List (Round Told) → List ℕ
commits_of rounds = map (λ round. round.commit) rounds

-- the asks of an image, as a question of rounds
abbrev pub operations_of : ℕ → Records → ℕ → ℕ
operations_of shape m root = operations_at m root

abbrev pub tells_of : Bool → List AskTree → ℕ → Records → ℕ → Told → Type 0
tells_of counted asks shape m root told = TellsTable counted asks (table_of shape m root) told

-- the rounds were made by a reader that had seen this commit, each under a guard: its number of operations and its
-- lines are those of the image that was read under the guard
pub record AreGuarded (counted : Bool) (asks : List AskTree) (seen : ℕ) (rounds : List (Round Told)) : Type 0 where
  pub before : ReaderView
  pub after : ReaderView
  pub had_seen : before.seen ≡ seen
  pub makes : MakesRounds operations_of (tells_of counted asks) IsLawfulImage before after rounds

-- a reader's rounds, as many as requested: their commits never fall, and none is older than the one that it saw
-- before
pub record AreRoundsAt (run : Run) (ops : List Op) (seen last : ℕ) (rounds : List (Round Told)) : Type 0 where
  pub made : length rounds ≡ run.rounds
  pub each : All (IsRoundAt run ops last) rounds
  pub forward : IsNonDecreasing (seen ∷ commits_of rounds)
  pub guarded : AreGuarded (is_some run.make) run.asks seen rounds

-- what readers have seen before their rounds: the last commit if they run after the loading
abbrev pub seen_before : Bool → ℕ → ℕ
seen_before true last = last
seen_before false last = 0

-- a save is of a commit point that was loaded, and after the loading of the last; its bytes are those of the plain table there
pub record IsSaveOf (run : Run) (ops : List Op) (loaded : ℕ) (save : Save) : Type 0 where
  pub at : IsSavedAt run (length ops) loaded save.operations
  pub bytes : save.bytes.items ≡ saved_text run.fields (table_after run ops save.operations) save.operations

-- how far a run came, with all rounds and the last answers, and with the save where the table is saved
pub record IsRunResult (run : Run) (ops : List Op) (run_result : RunResult) : Type 0 where
  pub last : ℕ
  pub is_loaded : IsLoaded run (length ops) run_result.loaded.operations (full_of run_result.loaded.full)
  pub point : run_result.loaded.operations ≡ commit_point run.batch (length ops) last
  pub skips : run_result.loaded.skipped ≡ skipped_at run ops run_result.loaded.operations
  pub room : IfSome run_result.loaded.full (λ r. r.active + r.held ≡ run.buffers)
  pub justified : IfSome run_result.loaded.full (IsJustified run ops run_result.loaded.operations)
  pub full : IfSome run_result.loaded.full (IsFullAtEnd run ops run_result.loaded.operations run_result.writer)
  pub readers : length run_result.rounds.items ≡ run.readers
  pub rounds : AllByRecursion (λ rounds. AreRoundsAt run ops (seen_before run.after last) last rounds.items) run_result.rounds.items
  pub memory : IsOfMemory run ops last run_result.writer (map (λ rounds. commits_of rounds.items) run_result.rounds.items)
  pub tells : TellsTable (is_some run.make) run.asks (table_after run ops run_result.loaded.operations) run_result.last
  pub asked : is_some run_result.saved ≡ run.save
  pub saved : IfSome run_result.saved (IsSaveOf run ops run_result.loaded.operations)

-- the counts of operations that the rounds saw, in the form of the report's statement
abbrev pub progress_at : RunResult → Option ℕ → Progress
progress_at run_result saved = record {
  loaded = run_result.loaded.operations;
  rounds = map (λ r. map (λ round. round.operations) r.items) run_result.rounds.items;
  saved = saved;
}
