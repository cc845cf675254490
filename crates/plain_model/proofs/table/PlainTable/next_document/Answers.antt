use Rattle.plain_model.proofs.TableSteps.{found_lawful}
use Rattle.plain_model.proofs.table.PlainTable.next_document.Goals as goal

pub updated_document-requires : goal.updated_document-requires
updated_document-requires c =
    let inside = c.self.inside in
    rw c.as_slice-fields.ensures
    (found_lawful inside.fields inside.documents.entries c.args.doc _ c.self.invariant.0 c.get-document.ensures.value)
