use Rattle.index_model.proofs.FoundLemmas.{found_are_hits, index_lists_documents}
use Rattle.index_model.proofs.RunLemmas.{run_is_filter, sought_is_filter}
use Rattle.index_model.proofs.index_laws.query_law.Goals as goal

pub returns-clause-hits : goal.returns-clause-hits
returns-clause-hits c = found_are_hits

pub returns-clause-run : goal.returns-clause-run
returns-clause-run c = run_is_filter

pub returns-clause-sought : goal.returns-clause-sought
returns-clause-sought c = sought_is_filter

pub returns-clause-documents : goal.returns-clause-documents
returns-clause-documents c = index_lists_documents
