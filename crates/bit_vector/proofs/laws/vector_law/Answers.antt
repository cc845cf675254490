use Rattle.bit_vector.proofs.VectorLemmas.{root_has, vector_at-same, vector_nothing, vector_sorted, vector_stays, vector_there}
use Rattle.bit_vector.proofs.laws.vector_law.Goals as goal

pub returns-clause-nothing : goal.returns-clause-nothing
returns-clause-nothing c = vector_nothing

pub returns-clause-stays : goal.returns-clause-stays
returns-clause-stays c m n root same is = (vector_stays m n root same is, vector_at-same m n root same)

pub returns-clause-ascends : goal.returns-clause-ascends
returns-clause-ascends c = vector_sorted

pub returns-clause-filled : goal.returns-clause-filled
returns-clause-filled c = root_has

pub returns-clause-there : goal.returns-clause-there
returns-clause-there c = vector_there
