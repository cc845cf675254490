use Rattle.index_model.proofs.BoundLemmas.{list_few, list_documents, index_few}
use Rattle.index_model.proofs.laws.bound_law.Goals as goal

pub returns-clause-lists : goal.returns-clause-lists
returns-clause-lists c = list_few

pub returns-clause-documents : goal.returns-clause-documents
returns-clause-documents c = list_documents

pub returns-clause-values : goal.returns-clause-values
returns-clause-values c = index_few
