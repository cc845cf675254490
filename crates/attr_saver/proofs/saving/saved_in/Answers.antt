use Rattle.std.proofs.Common.{ap, ◌∙◌}
use Rattle.attr_saver.specs.Fields.{read_of}
use Rattle.attr_saver.specs.Lawful.{first_column, save_of}
use Rattle.attr_saver.proofs.Columns.{items_few}
use Rattle.attr_saver.proofs.SavingLemmas.{saved_is, counted_fits}
use Rattle.attr_saver.proofs.Wholes.{read_again}
use Rattle.attr_saver.proofs.saving.saved_in.Goals as goal

pub overflow_cast-len : goal.overflow_cast-len
overflow_cast-len c = counted_fits c.args.kind c.args.value c.args.documents.now.entries c.len.result c.requires c.len.ensures.len

pub push_documents-requires : goal.push_documents-requires
push_documents-requires c = items_few c.args.kind c.args.value (first_column c.args.documents.now.entries) c.requires.items

pub returns-clause-again : goal.returns-clause-again
returns-clause-again c =
    let entries = c.args.documents.now.entries in
    ap read_of (saved_is c.args.kind c.args.value c.args.operations c.len.result entries _ _ _
    c.in_ok-bytes.ensures.items c.in_ok-push_head.ensures c.in_ok-push_documents.ensures.bytes c.len.ensures.len)
    ∙ read_again (save_of c.args.kind c.args.value c.args.operations entries)
    (record { operations = c.ranges.operations.fits; column = c.requires; storable = c.in_ok-push_documents.ensures.fits })
