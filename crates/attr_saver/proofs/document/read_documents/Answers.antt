use Rattle.std.proofs.Common.{sym}
use Rattle.std.proofs.lemmas.Result.{err_from_is_err_and}
use Rattle.attr_saver.specs.declared.saved.SavedDocument.{SavedDocument}
use Rattle.attr_saver.specs.Fields.{read_document, read_documents}
use Rattle.attr_saver.proofs.Loops.{goes_on, ends, is_done}
use Rattle.attr_saver.proofs.document.read_documents.Goals as goal

pub returns-in_err-document : goal.returns-in_err-document
returns-in_err-document c =
    let p = err_from_is_err_and c.from_residual.result c.from_residual.ensures.1 in
    rw (p.1, p.2) (ends (read_document c.args.kind c.args.value_type) (λ (document : SavedDocument). document.doc) c.args.count c.loop.counter c.loop.documents.items
    c.loop.before c.loop.reader (read_documents c.args.kind c.args.value_type c.args.count 0 c.args.reader.now)
    c.in_err-document.field-0.0 c.loop-test.true c.in_err-document.ensures c.loop.invariant)

pub loop-preserved : goal.loop-preserved
loop-preserved c =
    rw c.in_ok-push.ensures.items (goes_on (read_document c.args.kind c.args.value_type) (λ (document : SavedDocument). document.doc) c.args.count c.loop.counter c.loop.documents.items
    c.loop.before c.loop.reader (read_documents c.args.kind c.args.value_type c.args.count 0 c.args.reader.now)
    c.in_ok-document.document c.number-before.result _ c.loop-test.true c.in_ok-document.ensures (sym c.number-before.ensures.number) c.loop.invariant)

pub returns : goal.returns
returns c = rw c.from_vec.ensures (is_done (read_document c.args.kind c.args.value_type) (λ (document : SavedDocument). document.doc) c.args.count c.loop.counter c.loop.documents.items
    c.loop.before c.loop.reader (read_documents c.args.kind c.args.value_type c.args.count 0 c.args.reader.now) c.loop-test.false c.loop.invariant)
