use Rattle.word_arena.proofs.RunLemmas.{seats_agree}
use Rattle.word_arena.proofs.laws.one_run_law.Goals as goal

pub returns : goal.returns
returns g c = let l = g.L.Layout in seats_agree l.reaches l.lawful
