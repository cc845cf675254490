use Rattle.std.proofs.Common.{◌≡◌, [], None, arith}
use Rattle.attr_field.specs.DocumentsChanges.{MakesDocuments}
use Rattle.image_format.specs.Documents.{column_at}
use Rattle.image_format.specs.Postings.{index_of}
use Rattle.index_model.specs.Columns.{with_change}
use Rattle.attr_field.specs.Steps.{StepsField}
use Rattle.attr_field.proofs.CountLemmas.{documents_low, few_taken, low_taken}
use Rattle.attr_field.proofs.RefLemmas.{owns_documents, if_ok}
use Rattle.value_index.specs.Forms.{KeepsForm}
use Rattle.attr_field.proofs.StepLemmas.{documents_form, documents_steps, documents_index_same, refer_beside}
use Rattle.attr_field.proofs.steps.take_out.Goals as goal

pub remove_document-requires : goal.remove_document-requires
remove_document-requires g c =
    let ledger = g.S.Store.ledger c.args.store.now in
    let m = g.S.Frozen.records c.args.store.now in (
      omega arith,
      (
        c.requires.unit,
        (
          c.requires.stands.documents_are,
          (
            owns_documents ledger m c.args.kind c.args.documents c.args.dictionary c.requires.stands.owns,
            (refer_beside c.key_law.ensures.read c.args.kind c.args.value_type ledger m c.args.documents c.args.dictionary c.requires.stands, c.requires.there),
          ),
        ),
      ),
    )

pub returns-clause-steps : goal.returns-clause-steps
returns-clause-steps g c =
    let old = g.S.Store.ledger c.args.store.now in
    let new = g.S.Store.ledger c.remove_document.new.store in
    let m = g.S.Frozen.records c.args.store.now in
    let n = g.S.Frozen.records c.remove_document.new.store in
    let kind = c.args.kind in
    let type = c.args.value_type in
    let documents = c.args.documents in
    let dictionary = c.args.dictionary in
    let column = with_change (column_at kind type m documents) c.args.doc None in
    if_ok (λ next. MakesDocuments kind type old new m n documents [] column next) (λ next. StepsField kind type old new m n documents dictionary column next dictionary)
    c.remove_document.result c.remove_document.ensures.makes
    (λ next makes. documents_steps c.index_law.ensures.stays kind type old new m n documents dictionary next [] column c.requires.stands makes tt)

pub returns-clause-index : goal.returns-clause-index
returns-clause-index g c =
    let old = g.S.Store.ledger c.args.store.now in
    let new = g.S.Store.ledger c.remove_document.new.store in
    let m = g.S.Frozen.records c.args.store.now in
    let n = g.S.Frozen.records c.remove_document.new.store in
    let kind = c.args.kind in
    let type = c.args.value_type in
    let documents = c.args.documents in
    let dictionary = c.args.dictionary in
    let column = with_change (column_at kind type m documents) c.args.doc None in
    if_ok (λ next. MakesDocuments kind type old new m n documents [] column next) (λ next. index_of type n dictionary ≡ index_of type m dictionary)
    c.remove_document.result c.remove_document.ensures.makes
    (λ next makes. documents_index_same c.index_law.ensures.stays kind type old new m n documents dictionary next [] column c.requires.stands makes tt)

pub returns-clause-form : goal.returns-clause-form
returns-clause-form g c =
    let old = g.S.Store.ledger c.args.store.now in
    let new = g.S.Store.ledger c.remove_document.new.store in
    let m = g.S.Frozen.records c.args.store.now in
    let n = g.S.Frozen.records c.remove_document.new.store in
    let kind = c.args.kind in
    let type = c.args.value_type in
    let documents = c.args.documents in
    let dictionary = c.args.dictionary in
    let column = with_change (column_at kind type m documents) c.args.doc None in
    if_ok (λ next. MakesDocuments kind type old new m n documents [] column next) (λ next. KeepsForm type m n dictionary)
    c.remove_document.result c.remove_document.ensures.makes
    (λ next makes. documents_form c.index_law.ensures.stays kind type old new m n documents dictionary next [] column c.requires.stands makes tt c.index_law.ensures.form)

pub returns-clause-refuses : goal.returns-clause-refuses
returns-clause-refuses g c = c.remove_document.ensures.refuses

pub returns-clause-counts : goal.returns-clause-counts
returns-clause-counts g c =
    let ledger = g.S.Store.ledger in
    few_taken (ledger c.args.store.now) (ledger c.remove_document.new.store) (g.S.Frozen.records c.args.store.now) c.args.documents c.remove_document.ensures.counts

pub returns-clause-may : goal.returns-clause-may
returns-clause-may g c = c.remove_document.ensures.may

pub returns-clause-low : goal.returns-clause-low
returns-clause-low g c =
    let ledger = g.S.Store.ledger in
    let m = g.S.Frozen.records c.args.store.now in
    λ levels some few.
    low_taken (ledger c.args.store.now) (ledger c.remove_document.new.store) m c.args.documents levels
    (documents_low c.args.kind c.args.value_type m c.args.documents levels c.requires.stands.documents_are some few) c.remove_document.ensures.counts
