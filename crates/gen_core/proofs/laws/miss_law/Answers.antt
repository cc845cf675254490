use Rattle.gen_core.proofs.Bounds.{odd-passed, least-below}
use Rattle.gen_core.proofs.laws.miss_law.Goals as goal

pub returns : goal.returns
returns g c = let l = g.L.Layout in record { passed = odd-passed l.reaches l.lawful; not_below = least-below l.reaches l.lawful }
