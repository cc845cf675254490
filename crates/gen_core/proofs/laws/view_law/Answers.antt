use Rattle.gen_core.proofs.GoodViews.{good_view}
use Rattle.gen_core.proofs.laws.view_law.Goals as goal

pub returns : goal.returns
returns g c = let l = g.L.Layout in good_view l.reaches l.lawful
