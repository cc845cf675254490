use Rattle.gen_core.proofs.OneStep.{one_step}
use Rattle.gen_core.proofs.laws.step_law.Goals as goal

pub returns : goal.returns
returns g c = let l = g.L.Layout in one_step l.reaches l.lawful
