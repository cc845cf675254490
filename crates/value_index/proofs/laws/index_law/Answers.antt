use Rattle.value_index.proofs.FormLemmas.{form_stays, plain_nothing}
use Rattle.value_index.proofs.IndexLemmas.{index_nothing, index_stays, index_lawful}
use Rattle.value_index.proofs.laws.index_law.Goals as goal

pub returns-clause-nothing : goal.returns-clause-nothing
returns-clause-nothing c = index_nothing

pub returns-clause-stays : goal.returns-clause-stays
returns-clause-stays c = index_stays

pub returns-clause-lawful : goal.returns-clause-lawful
returns-clause-lawful c = index_lawful

pub returns-clause-plain : goal.returns-clause-plain
returns-clause-plain c = plain_nothing

pub returns-clause-form : goal.returns-clause-form
returns-clause-form c = form_stays
