use Rattle.gen_core.proofs.ReadLemmas.{sees_its_reads}
use Rattle.gen_core.proofs.laws.reads_law.Goals as goal

pub returns : goal.returns
returns g c = let l = g.L.Layout in sees_its_reads l.reaches l.lawful
