use Rattle.doc_vector.proofs.DocumentLemmas.{map_nothing, map_stays}
use Rattle.doc_vector.proofs.laws.document_law.Goals as goal

pub returns-clause-nothing : goal.returns-clause-nothing
returns-clause-nothing c = map_nothing

pub returns-clause-stays : goal.returns-clause-stays
returns-clause-stays c = map_stays
