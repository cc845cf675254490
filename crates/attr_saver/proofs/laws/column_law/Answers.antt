use Rattle.attr_saver.proofs.ColumnLemmas.{first_column_is_lawful}
use Rattle.attr_saver.proofs.laws.column_law.Goals as goal

pub returns : goal.returns
returns c = first_column_is_lawful
