use Rattle.attr_field.proofs.DocumentsLawLemmas.{documents_nothing, documents_stay, documents_lawful, documents_reached, documents_values}
use Rattle.attr_field.proofs.documents_laws.documents_law.Goals as goal

pub returns-clause-nothing : goal.returns-clause-nothing
returns-clause-nothing c = documents_nothing

pub returns-clause-stays : goal.returns-clause-stays
returns-clause-stays c = documents_stay

pub returns-clause-lawful : goal.returns-clause-lawful
returns-clause-lawful c = documents_lawful

pub returns-clause-reaches : goal.returns-clause-reaches
returns-clause-reaches c kind m root r = documents_reached kind m r root

pub returns-clause-values : goal.returns-clause-values
returns-clause-values c = documents_values
