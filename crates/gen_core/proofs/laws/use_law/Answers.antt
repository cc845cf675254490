use Rattle.gen_core.proofs.Bounds.{close-finds, probe-finds}
use Rattle.gen_core.proofs.laws.use_law.Goals as goal

pub returns : goal.returns
returns g c = let l = g.L.Layout in record { close = close-finds l.reaches l.lawful; probe = probe-finds l.reaches l.lawful }
