use Rattle.gen_core.proofs.Bounds.{floor-stays}
use Rattle.gen_core.proofs.laws.floor_law.Goals as goal

pub returns : goal.returns
returns g c = let l = g.L.Layout in floor-stays l.reaches l.lawful
