use Rattle.index_model.proofs.ColumnLemmas.{column_is_lawful, operation_changes, update_changes}
use Rattle.index_model.proofs.laws.column_law.Goals as goal

pub returns-clause-lawful : goal.returns-clause-lawful
returns-clause-lawful c = column_is_lawful

pub returns-clause-changes : goal.returns-clause-changes
returns-clause-changes c = operation_changes

pub returns-clause-updates : goal.returns-clause-updates
returns-clause-updates c = update_changes
