use Rattle.compaction_steps.proofs.StepsMade.{operation_clear}
use Rattle.compaction_steps.proofs.steps_laws.step_law.Goals as goal

pub returns : goal.returns
returns g c = operation_clear g.row.OFFSET_BITS
