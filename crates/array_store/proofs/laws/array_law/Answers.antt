use Rattle.array_store.proofs.ArrayLemmas.{items_read, array_made, list_array, array_list}
use Rattle.array_store.proofs.laws.array_law.Goals as goal

pub returns-clause-made : goal.returns-clause-made
returns-clause-made c = array_made

pub returns-clause-reads : goal.returns-clause-reads
returns-clause-reads c = items_read

pub returns-clause-array : goal.returns-clause-array
returns-clause-array c = list_array

pub returns-clause-list : goal.returns-clause-list
returns-clause-list c = array_list
