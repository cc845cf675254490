use Rattle.attr_types.proofs.DocumentLemmas.{document_is_lawful, without_items_fits}
use Rattle.attr_types.specs.Table.{without_items}
use Rattle.attr_types.proofs.document.updated_document.Goals as goal

pub changed_document-requires-in-None : goal.changed_document-requires-in-None
changed_document-requires-in-None c =
    let fields = c.args.fields.now in
    rw (c.as_slice-in-None.ensures, c.in_ok-empty-in-None.ensures)
    (document_is_lawful fields (without_items fields) (without_items_fits fields))
