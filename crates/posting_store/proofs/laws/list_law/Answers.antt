use Rattle.posting_store.proofs.ListLemmas.{nothing_is, list_stays, list_filled, list_there}
use Rattle.posting_store.proofs.laws.list_law.Goals as goal

pub returns-clause-nothing : goal.returns-clause-nothing
returns-clause-nothing c = nothing_is

pub returns-clause-stays : goal.returns-clause-stays
returns-clause-stays c = list_stays

pub returns-clause-filled : goal.returns-clause-filled
returns-clause-filled c = list_filled

pub returns-clause-there : goal.returns-clause-there
returns-clause-there c = list_there
