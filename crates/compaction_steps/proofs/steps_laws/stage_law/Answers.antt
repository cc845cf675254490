use Rattle.compaction_steps.proofs.StepsEnds.{first_clear, last_clear}
use Rattle.compaction_steps.proofs.StepsStage.{others_clear, phase_clear}
use Rattle.compaction_steps.proofs.steps_laws.stage_law.Goals as goal

pub returns-clause-first : goal.returns-clause-first
returns-clause-first c = first_clear

pub returns-clause-phase : goal.returns-clause-phase
returns-clause-phase c = phase_clear

pub returns-clause-others : goal.returns-clause-others
returns-clause-others c = others_clear

pub returns-clause-last : goal.returns-clause-last
returns-clause-last c = last_clear c.field_law.ensures.lawful
