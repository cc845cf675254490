use Rattle.std.proofs.Common.{◌∙◌, ℕ, List, ap, subst}
use Rattle.std.proofs.lemmas.Result.{IfOk-weaker}
use Rattle.image_format.specs.Images.{operations_at, table_of, IsLawfulImage}
use Rattle.image_format.specs.Shapes.{shape_of, types_of}
use Rattle.index_model.specs.Columns.{column_of}
use Rattle.attr_saver.specs.Bytes.{saved_bytes}
use Rattle.attr_saver.specs.Lawful.{save_of}
use Rattle.attr_saver.specs.declared.saved.SavedDocument.{SavedDocument}
use Rattle.attr_c.proofs.SaveLemmas.{may_save, saved_alike}
use Rattle.attr_c.proofs.reading.first_saved.Goals as goal

pub saved_in-requires : goal.saved_in-requires
saved_in-requires g c =
    let m = g.F.Frozen.records c.args.frozen.now in
    let fields = c.args.fields.now in
    let root = c.args.root in
    let shape = shape_of (types_of fields) in
    let lawful = subst (λ (s : ℕ). IsLawfulImage s m root) c.requires.shape c.requires.image in
    let column = c.in_ok-documents.ensures.column
    ∙ ap (λ (f : g.row.F.Denot). column_of 0 (table_of (g.F.Frozen.shape f) (g.F.Frozen.records f) root)) c.operations_in-operations.ensures.same
    ∙ ap (λ (s : ℕ). column_of 0 (table_of s m root)) c.requires.shape in
    may_save fields c.args.field.now (table_of shape m root) c.in_ok-documents.documents.entries c.requires.first c.column_law.ensures
    (c.image_law.ensures.table fields m root c.requires.few lawful) (c.image_law.ensures.values fields m root c.requires.few) column

pub returns-clause-bytes : goal.returns-clause-bytes
returns-clause-bytes g c =
    let frozen = c.args.frozen.now in
    let m = g.F.Frozen.records frozen in
    let root = c.args.root in
    let field = c.args.field.now in
    let documents = c.in_ok-documents.documents.entries in
    let table = table_of (g.F.Frozen.shape frozen) m root in
    let column = c.in_ok-documents.ensures.column
    ∙ ap (λ (f : g.row.F.Denot). column_of 0 (table_of (g.F.Frozen.shape f) (g.F.Frozen.records f) root)) c.operations_in-operations.ensures.same in
    IfOk-weaker c.saved_in.result _ _
    (λ bytes is. is
    ∙ ap (λ (n : ℕ). saved_bytes (save_of field.kind field.value n documents)) c.operations_in-operations.ensures.count
    ∙ ap (λ (list : List SavedDocument). saved_bytes (record { kind = field.kind; value = field.value; operations = operations_at m root; table = list })) (saved_alike documents table column))
    c.saved_in.ensures.bytes
