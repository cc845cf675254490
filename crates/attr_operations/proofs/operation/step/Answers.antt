use Rattle.std.proofs.Common.{◌≡◌, false, sym, ap, subst, ◌∙◌, arith, length}
use Rattle.std.specs.List.{AllZip}
use Rattle.store_api.specs.declared.store.StoreError.TheVariants.{Memory}
use Rattle.attr_types.specs.Lawful.{OpFits, ChangeFits}
use Rattle.attr_types.specs.Table.{document_at, op_doc}
use Rattle.attr_types.specs.declared.op.Op.TheVariants.{Put, Update, Remove}
use Rattle.std.specs.Prelude.{IfErr}
use Rattle.attr_operations.specs.Calls.{KeepsStore}
use Rattle.attr_operations.specs.Counts.{MakesOperation, SparesOperation, document_after, document_before}
use Rattle.attr_operations.specs.Fields.{AreFields, HaveForms, OwnsFields, trees_of}
use Rattle.attr_operations.specs.Steps.{Stepped, RefusedStep}
use Rattle.attr_operations.specs.Views.{table_at}
use Rattle.attr_operations.specs.Widths.{IsFullAmong, IsOperationWidth}
use Rattle.attr_operations.proofs.CountLemmas.{makes_none}
use Rattle.attr_operations.proofs.StepLemmas.{keeps_same, leaves_same}
use Rattle.attr_operations.proofs.operation.step.Goals as goal

pub count_documents-total-requires : goal.count_documents-total-requires
count_documents-total-requires g c = (omega arith, (c.requires.sized, c.requires.fields))

pub read_document-requires : goal.read_document-requires
read_document-requires g c = (
  omega arith,
  (
    c.requires.sized,
    subst (λ f. AreFields (g.S.Frozen.records f) c.args.fields.now (trees_of c.args.fields.now c.args.roots.now)) (sym c.count_documents-total.ensures.same) c.requires.fields,
  ),
)

pub returns-in_default-clause-steps : goal.returns-in_default-clause-steps
returns-in_default-clause-steps g c =
    let ledger = g.S.Store.ledger in
    let records = g.S.Frozen.records in
    let old = c.args.store.now in
    subst (λ f. RefusedStep (ledger old) (ledger f) (records old) (records f) Memory) (sym (c.read_document.ensures.same ∙ c.count_documents-total.ensures.same))
    (record { left = leaves_same (ledger old) (records old); refused = tt })

pub returns-in_default-clause-keeps : goal.returns-in_default-clause-keeps
returns-in_default-clause-keeps g c =
    let ledger = g.S.Store.ledger in
    subst (λ f. KeepsStore (ledger c.args.store.now) (ledger f)) (sym (c.read_document.ensures.same ∙ c.count_documents-total.ensures.same)) (keeps_same (ledger c.args.store.now))

pub put_document-requires : goal.put_document-requires
put_document-requires g c =
    let ledger = g.S.Store.ledger in
    let records = g.S.Frozen.records in
    let fields = c.args.fields.now in
    let trees = trees_of fields c.args.roots.now in
    let same = sym (c.read_document.ensures.same ∙ c.count_documents-total.ensures.same) in
    let there = c.as_ref-old.ensures.value ∙ c.in-Ok.ensures.document ∙ ap (λ f. document_at (table_at (records f) trees) c.doc-doc.result) (sym c.read_document.ensures.same) in (
      omega arith,
      (
        subst (λ f. (ledger f).unit ≡ false) same c.requires.unit,
        (
          c.requires.sized,
          (
            subst (λ f. AreFields (records f) fields trees) same c.requires.fields,
            (
              subst (λ f. HaveForms c.args.dense (records f) trees) same c.requires.forms,
              (
                subst (λ f. OwnsFields (ledger f) (records f) trees) same c.requires.owns,
                (there, ((c.doc-doc.ensures.first, c.doc-doc.ensures.last), (subst (OpFits fields) c.in-Put.is c.requires.fits).1)),
              ),
            ),
          ),
        ),
      ),
    )

pub returns-in-Put-clause-steps : goal.returns-in-Put-clause-steps
returns-in-Put-clause-steps g c =
    let ledger = g.S.Store.ledger in
    let records = g.S.Frozen.records in
    let fields = c.args.fields.now in
    let trees = trees_of fields c.args.roots.now in
    let new = c.put_document.new.store in
    let old = c.args.store.now in
    let here = subst (λ f. Stepped fields (ledger f) (ledger new) (records f) (records new) trees (Put c.doc-doc.result c.in-Put.items) (new ≡ f) c.put_document.result)
    (c.read_document.ensures.same ∙ c.count_documents-total.ensures.same)
    c.put_document.ensures.steps in
    subst (λ o. Stepped fields (ledger old) (ledger new) (records old) (records new) trees o (new ≡ old) c.put_document.result)
    (ap (λ d. Put d c.in-Put.items) (c.doc-doc.ensures.doc ∙ ap op_doc c.in-Put.is) ∙ sym c.in-Put.is) here

pub returns-in-Put-clause-keeps : goal.returns-in-Put-clause-keeps
returns-in-Put-clause-keeps g c = subst (λ f. KeepsStore (g.S.Store.ledger f) (g.S.Store.ledger c.put_document.new.store))
    (c.read_document.ensures.same ∙ c.count_documents-total.ensures.same) c.put_document.ensures.keeps

pub update_document-requires : goal.update_document-requires
update_document-requires g c =
    let ledger = g.S.Store.ledger in
    let records = g.S.Frozen.records in
    let fields = c.args.fields.now in
    let trees = trees_of fields c.args.roots.now in
    let same = sym (c.read_document.ensures.same ∙ c.count_documents-total.ensures.same) in
    let there = c.as_ref-old.ensures.value ∙ c.in-Ok.ensures.document ∙ ap (λ f. document_at (table_at (records f) trees) c.doc-doc.result) (sym c.read_document.ensures.same) in (
      omega arith,
      (
        subst (λ f. (ledger f).unit ≡ false) same c.requires.unit,
        (
          c.requires.sized,
          (
            subst (λ f. AreFields (records f) fields trees) same c.requires.fields,
            (
              subst (λ f. HaveForms c.args.dense (records f) trees) same c.requires.forms,
              (
                subst (λ f. OwnsFields (ledger f) (records f) trees) same c.requires.owns,
                (
                  there,
                  (
                    (c.doc-doc.ensures.first, c.doc-doc.ensures.last),
                    subst (λ changes. AllZip (λ field change. ChangeFits field.kind field.value change) fields changes) (sym c.as_slice.ensures) (subst (OpFits fields) c.in-Update.is c.requires.fits).1,
                  ),
                ),
              ),
            ),
          ),
        ),
      ),
    )

pub returns-in-Update-clause-steps : goal.returns-in-Update-clause-steps
returns-in-Update-clause-steps g c =
    let ledger = g.S.Store.ledger in
    let records = g.S.Frozen.records in
    let fields = c.args.fields.now in
    let trees = trees_of fields c.args.roots.now in
    let new = c.update_document.new.store in
    let old = c.args.store.now in
    let here = subst (λ f. Stepped fields (ledger f) (ledger new) (records f) (records new) trees (Update c.doc-doc.result c.in-Update.create c.as_slice.result.now) (new ≡ f) c.update_document.result)
    (c.read_document.ensures.same ∙ c.count_documents-total.ensures.same) c.update_document.ensures.steps in
    subst (λ o. Stepped fields (ledger old) (ledger new) (records old) (records new) trees o (new ≡ old) c.update_document.result) (ap (λ changes. Update c.doc-doc.result c.in-Update.create changes) c.as_slice.ensures
    ∙ ap (λ d. Update d c.in-Update.create c.in-Update.change) (c.doc-doc.ensures.doc ∙ ap op_doc c.in-Update.is) ∙ sym c.in-Update.is) here

pub returns-in-Update-clause-keeps : goal.returns-in-Update-clause-keeps
returns-in-Update-clause-keeps g c = subst (λ f. KeepsStore (g.S.Store.ledger f) (g.S.Store.ledger c.update_document.new.store))
    (c.read_document.ensures.same ∙ c.count_documents-total.ensures.same) c.update_document.ensures.keeps

pub remove_document-requires : goal.remove_document-requires
remove_document-requires g c =
    let ledger = g.S.Store.ledger in
    let records = g.S.Frozen.records in
    let fields = c.args.fields.now in
    let trees = trees_of fields c.args.roots.now in
    let same = sym (c.read_document.ensures.same ∙ c.count_documents-total.ensures.same) in
    let there = c.as_ref-old.ensures.value ∙ c.in-Ok.ensures.document ∙ ap (λ f. document_at (table_at (records f) trees) c.doc-doc.result) (sym c.read_document.ensures.same) in (
      omega arith,
      (
        subst (λ f. (ledger f).unit ≡ false) same c.requires.unit,
        (
          c.requires.sized,
          (
            subst (λ f. AreFields (records f) fields trees) same c.requires.fields,
            (
              subst (λ f. HaveForms c.args.dense (records f) trees) same c.requires.forms,
              (subst (λ f. OwnsFields (ledger f) (records f) trees) same c.requires.owns, (there, (c.doc-doc.ensures.first, c.doc-doc.ensures.last))),
            ),
          ),
        ),
      ),
    )

pub returns-clause-steps : goal.returns-clause-steps
returns-clause-steps g c =
    let ledger = g.S.Store.ledger in
    let records = g.S.Frozen.records in
    let fields = c.args.fields.now in
    let trees = trees_of fields c.args.roots.now in
    let new = c.remove_document.new.store in
    let old = c.args.store.now in
    let here = subst (λ f. Stepped fields (ledger f) (ledger new) (records f) (records new) trees (Remove c.doc-doc.result) (new ≡ f) c.remove_document.result)
    (c.read_document.ensures.same ∙ c.count_documents-total.ensures.same)
    c.remove_document.ensures.steps in
    subst (λ o. Stepped fields (ledger old) (ledger new) (records old) (records new) trees o (new ≡ old) c.remove_document.result) (ap Remove (c.doc-doc.ensures.doc ∙ ap op_doc c.in-Remove.is) ∙ sym c.in-Remove.is) here

pub returns-clause-keeps : goal.returns-clause-keeps
returns-clause-keeps g c = subst (λ f. KeepsStore (g.S.Store.ledger f) (g.S.Store.ledger c.remove_document.new.store)) (c.read_document.ensures.same ∙ c.count_documents-total.ensures.same) c.remove_document.ensures.keeps

pub returns-in_default-clause-counts : goal.returns-in_default-clause-counts
returns-in_default-clause-counts g c =
    let ledger = g.S.Store.ledger in
    let fields = c.args.fields.now in
    let table = table_at (g.S.Frozen.records c.args.store.now) (trees_of fields c.args.roots.now) in
    subst (λ f. MakesOperation c.args.dense (ledger c.args.store.now) (ledger f) fields table c.args.op.now) (sym (c.read_document.ensures.same ∙ c.count_documents-total.ensures.same))
    (makes_none c.args.dense fields table (op_doc c.args.op.now) (document_before table c.args.op.now) (document_after fields table c.args.op.now) (ledger c.args.store.now) (length fields))

pub returns-in-Put-clause-counts : goal.returns-in-Put-clause-counts
returns-in-Put-clause-counts g c =
    let ledger = g.S.Store.ledger in
    let records = g.S.Frozen.records in
    let fields = c.args.fields.now in
    let trees = trees_of fields c.args.roots.now in
    let new = c.put_document.new.store in
    let old = c.args.store.now in
    let here = subst (λ f. MakesOperation c.args.dense (ledger f) (ledger new) fields (table_at (records f) trees) (Put c.doc-doc.result c.in-Put.items))
    (c.read_document.ensures.same ∙ c.count_documents-total.ensures.same) c.put_document.ensures.counts in
    subst (λ o. MakesOperation c.args.dense (ledger old) (ledger new) fields (table_at (records old) trees) o) (ap (λ d. Put d c.in-Put.items) (c.doc-doc.ensures.doc ∙ ap op_doc c.in-Put.is) ∙ sym c.in-Put.is) here

pub returns-in-Put-clause-spares : goal.returns-in-Put-clause-spares
returns-in-Put-clause-spares g c =
    let ledger = g.S.Store.ledger in
    let records = g.S.Frozen.records in
    let fields = c.args.fields.now in
    let trees = trees_of fields c.args.roots.now in
    let new = c.put_document.new.store in
    let old = c.args.store.now in
    let here = subst (λ f. IfErr c.put_document.result (SparesOperation c.args.dense (ledger new) fields (table_at (records f) trees) (Put c.doc-doc.result c.in-Put.items)))
    (c.read_document.ensures.same ∙ c.count_documents-total.ensures.same)
    c.put_document.ensures.spares in
    subst (λ o. IfErr c.put_document.result (SparesOperation c.args.dense (ledger new) fields (table_at (records old) trees) o))
    (ap (λ d. Put d c.in-Put.items) (c.doc-doc.ensures.doc ∙ ap op_doc c.in-Put.is) ∙ sym c.in-Put.is) here

pub returns-in-Update-clause-counts : goal.returns-in-Update-clause-counts
returns-in-Update-clause-counts g c =
    let ledger = g.S.Store.ledger in
    let records = g.S.Frozen.records in
    let fields = c.args.fields.now in
    let trees = trees_of fields c.args.roots.now in
    let new = c.update_document.new.store in
    let old = c.args.store.now in
    let here = subst (λ f. MakesOperation c.args.dense (ledger f) (ledger new) fields (table_at (records f) trees) (Update c.doc-doc.result c.in-Update.create c.as_slice.result.now))
    (c.read_document.ensures.same ∙ c.count_documents-total.ensures.same)
    c.update_document.ensures.counts in
    subst (λ o. MakesOperation c.args.dense (ledger old) (ledger new) fields (table_at (records old) trees) o) (ap (λ changes. Update c.doc-doc.result c.in-Update.create changes) c.as_slice.ensures
    ∙ ap (λ d. Update d c.in-Update.create c.in-Update.change) (c.doc-doc.ensures.doc ∙ ap op_doc c.in-Update.is) ∙ sym c.in-Update.is) here

pub returns-in-Update-clause-spares : goal.returns-in-Update-clause-spares
returns-in-Update-clause-spares g c =
    let ledger = g.S.Store.ledger in
    let records = g.S.Frozen.records in
    let fields = c.args.fields.now in
    let trees = trees_of fields c.args.roots.now in
    let new = c.update_document.new.store in
    let old = c.args.store.now in
    let here = subst (λ f. IfErr c.update_document.result (SparesOperation c.args.dense (ledger new) fields (table_at (records f) trees) (Update c.doc-doc.result c.in-Update.create c.as_slice.result.now)))
    (c.read_document.ensures.same ∙ c.count_documents-total.ensures.same) c.update_document.ensures.spares in
    subst (λ o. IfErr c.update_document.result (SparesOperation c.args.dense (ledger new) fields (table_at (records old) trees) o)) (ap (λ changes. Update c.doc-doc.result c.in-Update.create changes) c.as_slice.ensures
    ∙ ap (λ d. Update d c.in-Update.create c.in-Update.change) (c.doc-doc.ensures.doc ∙ ap op_doc c.in-Update.is) ∙ sym c.in-Update.is) here

pub returns-clause-counts : goal.returns-clause-counts
returns-clause-counts g c =
    let ledger = g.S.Store.ledger in
    let records = g.S.Frozen.records in
    let fields = c.args.fields.now in
    let trees = trees_of fields c.args.roots.now in
    let new = c.remove_document.new.store in
    let old = c.args.store.now in
    let here = subst (λ f. MakesOperation c.args.dense (ledger f) (ledger new) fields (table_at (records f) trees) (Remove c.doc-doc.result))
    (c.read_document.ensures.same ∙ c.count_documents-total.ensures.same) c.remove_document.ensures.counts in
    subst (λ o. MakesOperation c.args.dense (ledger old) (ledger new) fields (table_at (records old) trees) o) (ap Remove (c.doc-doc.ensures.doc ∙ ap op_doc c.in-Remove.is) ∙ sym c.in-Remove.is) here

pub returns-clause-spares : goal.returns-clause-spares
returns-clause-spares g c =
    let ledger = g.S.Store.ledger in
    let records = g.S.Frozen.records in
    let fields = c.args.fields.now in
    let trees = trees_of fields c.args.roots.now in
    let new = c.remove_document.new.store in
    let old = c.args.store.now in
    let here = subst (λ f. IfErr c.remove_document.result (SparesOperation c.args.dense (ledger new) fields (table_at (records f) trees) (Remove c.doc-doc.result)))
    (c.read_document.ensures.same ∙ c.count_documents-total.ensures.same) c.remove_document.ensures.spares in
    subst (λ o. IfErr c.remove_document.result (SparesOperation c.args.dense (ledger new) fields (table_at (records old) trees) o)) (ap Remove (c.doc-doc.ensures.doc ∙ ap op_doc c.in-Remove.is) ∙ sym c.in-Remove.is) here

pub returns-in-Put-clause-widths : goal.returns-in-Put-clause-widths
returns-in-Put-clause-widths g c =
    let records = g.S.Frozen.records in
    let fields = c.args.fields.now in
    let trees = trees_of fields c.args.roots.now in
    let old = c.args.store.now in
    let here = subst (λ f. IfErr c.put_document.result (IsFullAmong (IsOperationWidth c.args.dense fields (table_at (records f) trees) (Put c.doc-doc.result c.in-Put.items))))
    (c.read_document.ensures.same ∙ c.count_documents-total.ensures.same)
    c.put_document.ensures.widths in
    subst (λ o. IfErr c.put_document.result (IsFullAmong (IsOperationWidth c.args.dense fields (table_at (records old) trees) o)))
    (ap (λ d. Put d c.in-Put.items) (c.doc-doc.ensures.doc ∙ ap op_doc c.in-Put.is) ∙ sym c.in-Put.is) here

pub returns-in-Update-clause-widths : goal.returns-in-Update-clause-widths
returns-in-Update-clause-widths g c =
    let records = g.S.Frozen.records in
    let fields = c.args.fields.now in
    let trees = trees_of fields c.args.roots.now in
    let old = c.args.store.now in
    let here = subst (λ f. IfErr c.update_document.result (IsFullAmong (IsOperationWidth c.args.dense fields (table_at (records f) trees) (Update c.doc-doc.result c.in-Update.create c.as_slice.result.now))))
    (c.read_document.ensures.same ∙ c.count_documents-total.ensures.same) c.update_document.ensures.widths in
    subst (λ o. IfErr c.update_document.result (IsFullAmong (IsOperationWidth c.args.dense fields (table_at (records old) trees) o))) (ap (λ changes. Update c.doc-doc.result c.in-Update.create changes) c.as_slice.ensures
    ∙ ap (λ d. Update d c.in-Update.create c.in-Update.change) (c.doc-doc.ensures.doc ∙ ap op_doc c.in-Update.is) ∙ sym c.in-Update.is) here

pub returns-clause-widths : goal.returns-clause-widths
returns-clause-widths g c =
    let records = g.S.Frozen.records in
    let fields = c.args.fields.now in
    let trees = trees_of fields c.args.roots.now in
    let old = c.args.store.now in
    let here = subst (λ f. IfErr c.remove_document.result (IsFullAmong (IsOperationWidth c.args.dense fields (table_at (records f) trees) (Remove c.doc-doc.result))))
    (c.read_document.ensures.same ∙ c.count_documents-total.ensures.same) c.remove_document.ensures.widths in
    subst (λ o. IfErr c.remove_document.result (IsFullAmong (IsOperationWidth c.args.dense fields (table_at (records old) trees) o)))
    (ap Remove (c.doc-doc.ensures.doc ∙ ap op_doc c.in-Remove.is) ∙ sym c.in-Remove.is) here

pub returns-in-Put-clause-forms : goal.returns-in-Put-clause-forms
returns-in-Put-clause-forms g c = c.put_document.ensures.forms

pub returns-in-Update-clause-forms : goal.returns-in-Update-clause-forms
returns-in-Update-clause-forms g c = c.update_document.ensures.forms

pub returns-clause-forms : goal.returns-clause-forms
returns-clause-forms g c = c.remove_document.ensures.forms
