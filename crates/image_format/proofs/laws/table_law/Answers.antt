use Rattle.image_format.proofs.TableLemmas.{table_has_columns, columns_make_table, columns_have_same}
use Rattle.image_format.proofs.laws.table_law.Goals as goal

pub returns-clause-columns : goal.returns-clause-columns
returns-clause-columns c = table_has_columns

pub returns-clause-made : goal.returns-clause-made
returns-clause-made c = columns_make_table

pub returns-clause-same : goal.returns-clause-same
returns-clause-same c = columns_have_same
