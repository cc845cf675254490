use Rattle.std.proofs.Common.{◌≡◌}
use Rattle.index_model.specs.Columns.{table_of_column}
use Rattle.check_images.proofs.tables.table_of_column.Given as goal

abbrev pub invariant-loop-entry : goal.invariant-loop-entry
invariant-loop-entry l = l.table.items ≡ table_of_column l.yielded
