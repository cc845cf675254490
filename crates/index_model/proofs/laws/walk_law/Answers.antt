use Rattle.index_model.proofs.BetweenLemmas.{put_step, same_step, take_step, stay_step}
use Rattle.index_model.proofs.ChangeLemmas.{begins, ends}
use Rattle.index_model.proofs.laws.walk_law.Goals as goal

pub returns-clause-begins : goal.returns-clause-begins
returns-clause-begins c = begins

pub returns-clause-puts : goal.returns-clause-puts
returns-clause-puts c = put_step

pub returns-clause-same : goal.returns-clause-same
returns-clause-same c = same_step

pub returns-clause-takes : goal.returns-clause-takes
returns-clause-takes c = take_step

pub returns-clause-stays : goal.returns-clause-stays
returns-clause-stays c = stay_step

pub returns-clause-ends : goal.returns-clause-ends
returns-clause-ends c = λ kind column start doc new index lawful. ends column start doc new index lawful.ascends
