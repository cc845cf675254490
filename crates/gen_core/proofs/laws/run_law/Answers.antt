use Rattle.gen_core.proofs.RunLemmas.{commits_agree}
use Rattle.gen_core.proofs.laws.run_law.Goals as goal

pub returns : goal.returns
returns g c = let l = g.L.Layout in commits_agree l.reaches l.lawful
