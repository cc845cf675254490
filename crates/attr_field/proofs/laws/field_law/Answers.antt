use Rattle.attr_field.proofs.LawLemmas.{field_nothing, field_stays, field_lawful, field_owns_keys, field_reaches, field_reaches_own}
use Rattle.attr_field.proofs.laws.field_law.Goals as goal

pub returns-clause-nothing : goal.returns-clause-nothing
returns-clause-nothing c = field_nothing c.documents_law.ensures.nothing c.index_law.ensures.nothing

pub returns-clause-stays : goal.returns-clause-stays
returns-clause-stays c = field_stays c.documents_law.ensures.stays c.index_law.ensures.stays c.index_law.ensures.form

pub returns-clause-lawful : goal.returns-clause-lawful
returns-clause-lawful c = field_lawful c.documents_law.ensures.lawful c.index_law.ensures.lawful

pub returns-clause-reaches : goal.returns-clause-reaches
returns-clause-reaches c = field_reaches c.documents_law.ensures.reaches

pub returns-clause-keys : goal.returns-clause-keys
returns-clause-keys c = field_owns_keys c.key_law.ensures.read

pub returns-clause-own : goal.returns-clause-own
returns-clause-own c = field_reaches_own c.documents_law.ensures.reaches c.key_law.ensures.read

pub returns-clause-plain : goal.returns-clause-plain
returns-clause-plain c = c.index_law.ensures.plain

pub returns-clause-form : goal.returns-clause-form
returns-clause-form c = c.index_law.ensures.form
