-- Laws of the history of a run.
use Rattle.std.specs.Prelude.{ℕ, List, ◌∷◌, length}
use Rattle.attr_types.specs.declared.op.Op.{Op}
use Rattle.attr_types.specs.Scores.{Answer}
use Rattle.attr_report.specs.Run.{Run, Progress}
use Rattle.attr_report.specs.History.{RunEvent, Round, IsRounds, IsLegalHistory, history}

-- if the rounds of a run are as requested, its history is legal
abbrev pub HistoriesAreLegal : Type 0
HistoriesAreLegal = (run : Run) (ops : List Op) (progress : Progress) → IsRounds run (length ops) progress
    → IsLegalHistory run ops progress (history run ops progress)

-- no legal history begins with a round
abbrev pub NoRoundComesFirst : Type 0
NoRoundComesFirst = (run : Run) (ops : List Op) (progress : Progress) (reader round n : ℕ)
    (answers : List Answer) (events : List RunEvent)
    → ¬ IsLegalHistory run ops progress (Round reader round n answers ∷ events)
