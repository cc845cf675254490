use Rattle.gen_core.proofs.laws.commits_law.Goals as goal

pub returns : goal.returns
returns g c = λ s good. good.commits.seen
