use Rattle.attr_types.proofs.ScoreLemmas.{scores_fit, scores_ascend}
use Rattle.attr_types.proofs.scores_laws.scores_law.Goals as goal

pub returns-clause-fit : goal.returns-clause-fit
returns-clause-fit c = scores_fit

pub returns-clause-ascend : goal.returns-clause-ascend
returns-clause-ascend c = scores_ascend
