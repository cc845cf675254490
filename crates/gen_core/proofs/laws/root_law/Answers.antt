use Rattle.gen_core.proofs.Law.{tells_commit}
use Rattle.gen_core.proofs.laws.root_law.Goals as goal

pub returns : goal.returns
returns g c = let l = g.L.Layout in tells_commit l.reaches l.lawful
