use Rattle.compaction_steps.proofs.SameLemmas.{all_stay_clear, stay_clear}
use Rattle.compaction_steps.proofs.steps_laws.same_law.Goals as goal

pub returns-clause-one : goal.returns-clause-one
returns-clause-one c = stay_clear

pub returns-clause-all : goal.returns-clause-all
returns-clause-all c = all_stay_clear
