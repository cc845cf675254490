use Rattle.std.proofs.Common.{arith}
use Rattle.attr_saver.specs.Lawful.{first_column}
use Rattle.attr_saver.proofs.Columns.{column_few, items_few}
use Rattle.attr_saver.proofs.SavingLemmas.{saved_len}
use Rattle.attr_saver.proofs.sizing.table_size.Goals as goal

pub documents_size-requires-clause-few : goal.documents_size-requires-clause-few
documents_size-requires-clause-few c = column_few c.args.kind c.args.value (first_column c.args.documents.now.entries) c.requires

pub documents_size-requires-clause-short : goal.documents_size-requires-clause-short
documents_size-requires-clause-short c = items_few c.args.kind c.args.value (first_column c.args.documents.now.entries) c.requires.items

pub returns : goal.returns
returns c operations =
    omega (arith, saved_len c.args.kind c.args.value operations c.args.documents.now.entries, c.documents_size.ensures.size)
