-- The result of a run of the engine, over the plain table alone.
use Rattle.std.specs.Prelude.{◌≡◌, ℕ, ◌+◌, ◌<◌, Option, Some, None, List, length, IfSome}
use Rattle.attr_loader.specs.declared.loaded.NoRoom.{NoRoom}
use Rattle.attr_types.specs.declared.op.Op.{Op}
use Rattle.attr_report.specs.Run.{Run, Progress}
use Rattle.attr_report.specs.Report.{written}
use Rattle.attr_report.specs.History.{IsLoaded, IsRounds, IsAfterwards, IsSaved}
use Rattle.attr_engine.specs.FullStore.{IsJustified}
use Rattle.attr_engine.specs.FullWriter.{IsFullAtEnd}
use Rattle.attr_engine.specs.Memory.{AreOfMemory}
use Rattle.attr_engine.specs.declared.error.EngineError.{EngineError}
use Rattle.attr_engine.specs.declared.error.EngineError.TheVariants.{Memory, TooManyReaders}
use Rattle.attr_engine.specs.declared.written.Written.{Written}

-- the operation that ran out of space, if any
abbrev pub full_of : Option NoRoom → Option ℕ
full_of None = None
full_of (Some room) = Some room.operation

abbrev pub progress_of : Written → Progress
progress_of written = record { loaded = written.loaded; rounds = written.rounds; saved = written.saved }

-- a run: what was loaded, where its readers' rounds are, and what is written; if it ran out of space, every buffer is
-- in use or held
pub record IsRunOf (run : Run) (ops : List Op) (w : Written) : Type 0 where
  pub is_loaded : IsLoaded run (length ops) w.loaded (full_of w.full)
  pub in_rounds : IsRounds run (length ops) (progress_of w)
  pub afterwards : IsAfterwards run (progress_of w)
  pub in_save : IsSaved run (length ops) (progress_of w)
  pub is_written : w.text.items ≡ written run ops (progress_of w) (full_of w.full)
  pub room : IfSome w.full (λ r. r.active + r.held ≡ run.buffers)
  pub justified : IfSome w.full (IsJustified run ops w.loaded)
  pub full_at_end : IfSome w.full (IsFullAtEnd run ops w.loaded w.writer)
  pub of_memory : AreOfMemory run ops w.loaded w.writer w.rounds

-- why a run was not made: memory was exhausted, or there are more readers than seats, two of which the last answers
-- take
abbrev pub IsGivenUp : ℕ → EngineError → Type 0
IsGivenUp readers TooManyReaders = 62 < readers
IsGivenUp readers Memory = Unit {0}
