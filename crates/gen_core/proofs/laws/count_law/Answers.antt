use Rattle.gen_core.proofs.Bounds.{count-small, none-below}
use Rattle.gen_core.proofs.laws.count_law.Goals as goal

pub returns : goal.returns
returns g c = let l = g.L.Layout in record { most = count-small l.reaches l.lawful; least = none-below l.reaches l.lawful }
