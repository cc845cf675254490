use Rattle.attr_run.proofs.MadeLemmas.{made_ops_fit}
use Rattle.attr_run.proofs.made_laws.made_law.Goals as goal

pub returns : goal.returns
returns c = made_ops_fit
