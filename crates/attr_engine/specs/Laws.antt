-- The result of a run meets the statement of its report.
use Rattle.std.specs.Prelude.{◌≡◌, ℕ, List, length, Option}
use Rattle.attr_types.specs.declared.op.Op.{Op}
use Rattle.atomic_table.specs.declared.badge.Badge.{Badge}
use Rattle.word_arena.specs.declared.rule.Watched.{Watched}
use Rattle.attr_engine.specs.Memory.{AreOfMemory}
use Rattle.attr_report.specs.Run.{Run}
use Rattle.attr_report.specs.History.{IsRounds, IsAfterwards}
use Rattle.attr_engine.specs.declared.run_result.RunResult.{RunResult}
use Rattle.attr_engine.specs.Rounds.{IsRunResult, progress_at}

-- its rounds are at loaded commit points, and those of one reader never fall
abbrev pub RoundsStand : Type 0
RoundsStand = (run : Run) (ops : List Op) (run_result : RunResult) (saved : Option ℕ) → IsRunResult run ops run_result
    → IsRounds run (length ops) (progress_at run_result saved)

-- what the seat of a writer knew leaves no choice of the rounds: exchanged, invented or left out, they would be other lists
abbrev pub RoundsAreOne : Type 0
RoundsAreOne = (run : Run) (ops : List Op) (loaded loaded' : ℕ) (seat : Badge Watched) (rounds others : List (List ℕ)) → AreOfMemory run ops loaded seat rounds
    → AreOfMemory run ops loaded' seat others → rounds ≡ others

-- if the readers run after the loading, each round sees everything that was loaded
abbrev pub RoundsComeAfter : Type 0
RoundsComeAfter = (run : Run) (ops : List Op) (run_result : RunResult) (saved : Option ℕ) → IsRunResult run ops run_result
    → IsAfterwards run (progress_at run_result saved)
