use Rattle.attr_types.proofs.HitLemmas.{hits_ascend, hits_are_matches}
use Rattle.attr_types.proofs.laws.hits_law.Goals as goal

pub returns-clause-ascend : goal.returns-clause-ascend
returns-clause-ascend c = hits_ascend

pub returns-clause-exact : goal.returns-clause-exact
returns-clause-exact c = hits_are_matches
