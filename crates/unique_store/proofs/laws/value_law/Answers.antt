use Rattle.unique_store.proofs.RecordLemmas.{value_there, value_no_node}
use Rattle.unique_store.proofs.laws.value_law.Goals as goal

pub returns-clause-there : goal.returns-clause-there
returns-clause-there c = value_there

pub returns-clause-no_node : goal.returns-clause-no_node
returns-clause-no_node c = value_no_node
