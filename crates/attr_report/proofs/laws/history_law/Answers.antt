use Rattle.attr_report.proofs.HistoryLemmas.{histories_are_legal}
use Rattle.attr_report.proofs.laws.history_law.Goals as goal

pub returns-clause-legal : goal.returns-clause-legal
returns-clause-legal c = histories_are_legal

pub returns-clause-first : goal.returns-clause-first
returns-clause-first c = λ run ops progress reader round n answers events legal. cc (legal.in_place.2)
