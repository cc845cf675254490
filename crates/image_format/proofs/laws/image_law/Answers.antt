use Rattle.image_format.proofs.ImageLemmas.{table_lawful, table_has_type, field_is_there, operations_few, table_empty}
use Rattle.image_format.proofs.laws.image_law.Goals as goal

pub returns-clause-table : goal.returns-clause-table
returns-clause-table c = table_lawful

pub returns-clause-values : goal.returns-clause-values
returns-clause-values c = table_has_type

pub returns-clause-fields : goal.returns-clause-fields
returns-clause-fields c = λ fields m root i field few lawful at. field_is_there fields m root few lawful i field at

pub returns-clause-operations : goal.returns-clause-operations
returns-clause-operations c = operations_few

pub returns-clause-empty : goal.returns-clause-empty
returns-clause-empty c = table_empty
