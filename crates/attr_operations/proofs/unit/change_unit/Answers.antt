use Rattle.entry_ref.specs.Records.{Records}
use Rattle.std.proofs.Common.{◌≡◌, ℕ, length, sym, ap, subst, ◌∙◌, arith}
use Rattle.std.specs.Option.{option_copied}
use Rattle.store_api.specs.Units.{MayDo}
use Rattle.store_api.specs.Calls.{RefusesOf}
use Rattle.attr_types.specs.Table.{document_at}
use Rattle.attr_operations.specs.Counts.{document_forms, document_nodes, document_records, MakesDocument}
use Rattle.attr_operations.specs.Fields.{AreFields, HaveForms, table_with, trees_of}
use Rattle.attr_operations.specs.Views.{table_at}
use Rattle.attr_operations.specs.Widths.{IsChangedWidth, IsFullAmong}
use Rattle.attr_operations.proofs.FieldSteps.{laws_of}
use Rattle.value_index.specs.Counts.{besides, by_width}
use Rattle.attr_operations.proofs.CountLemmas.{document_unit, spares_among}
use Rattle.attr_operations.proofs.Units.{begun_owns, unit_changes, unit_forms, left_unit, refused_among, full_among, keeps_unit, none_left_accepted, none_left_undone}
use Rattle.attr_operations.proofs.unit.change_unit.Goals as goal

pub begin-requires : goal.begin-requires
begin-requires g c = c.requires.unit

pub change_document-requires : goal.change_document-requires
change_document-requires g c =
    let ledger = g.S.Store.ledger in
    let records = g.S.Frozen.records in
    let old = ledger c.args.store.now in
    let m = records c.args.store.now in
    let fields = c.args.fields.now in
    let trees = trees_of fields c.args.roots.now in
    let document = option_copied c.args.new in
    let laws = laws_of c.field_law.ensures.stays c.field_law.ensures.lawful c.field_law.ensures.keys in
    let owns = begun_owns laws old (ledger c.begin.new.self) old old m (records c.begin.new.self) m m fields trees trees c.args.doc document
    c.begin.ensures.ledger c.begin.ensures.records c.requires.owns in (
      omega arith,
      (
        ap (λ l. l.unit) c.begin.ensures.ledger,
        (
          c.requires.sized,
          (
            subst (λ f. AreFields f fields trees) (sym c.begin.ensures.records) c.requires.fields,
            (
              subst (λ f. HaveForms c.args.dense f trees) (sym c.begin.ensures.records) c.requires.forms,
              (
                owns,
                (
                  c.requires.number,
                  (
                    subst (λ f. option_copied c.args.old ≡ document_at (table_at f trees) c.args.doc) (sym c.begin.ensures.records) c.requires.there,
                    (c.requires.gone, c.requires.fits),
                  ),
                ),
              ),
            ),
          ),
        ),
      ),
    )

pub accept-requires : goal.accept-requires
accept-requires g c = c.change_document.ensures.may.unit ∙ ap (λ l. l.unit) c.begin.ensures.ledger

pub undo-requires : goal.undo-requires
undo-requires g c = c.change_document.ensures.may.unit ∙ ap (λ l. l.unit) c.begin.ensures.ledger

pub returns-in-Ok-clause-sized : goal.returns-in-Ok-clause-sized
returns-in-Ok-clause-sized g c = c.in-Ok.ensures.sized

pub returns-in-Ok-clause-changes : goal.returns-in-Ok-clause-changes
returns-in-Ok-clause-changes g c =
    let ledger = g.S.Store.ledger in
    let records = g.S.Frozen.records in
    let fields = c.args.fields.now in
    unit_changes (laws_of c.field_law.ensures.stays c.field_law.ensures.lawful c.field_law.ensures.keys) (ledger c.args.store.now) (ledger c.begin.new.self) (ledger c.change_document.new.store) (ledger c.accept.new.self)
    (records c.args.store.now) (records c.begin.new.self) (records c.change_document.new.store) (records c.accept.new.self) fields (trees_of fields c.args.roots.now) (trees_of fields c.in-Ok.next.items)
    c.args.doc (option_copied c.args.new) c.begin.ensures.ledger c.begin.ensures.records c.requires.owns c.change_document.ensures.may c.in-Ok.ensures.changes c.accept.ensures

pub returns-in-Ok-clause-counts : goal.returns-in-Ok-clause-counts
returns-in-Ok-clause-counts g c =
    let ledger = g.S.Store.ledger in
    let trees = trees_of c.args.fields.now c.args.roots.now in
    let made = subst (λ f. MakesDocument c.args.dense (ledger c.begin.new.self) (ledger c.change_document.new.store) c.args.fields.now (table_at f trees) c.args.doc (option_copied c.args.old)
    (option_copied c.args.new) (length c.args.fields.now))
    c.begin.ensures.records c.change_document.ensures.counts in
    document_unit c.args.dense (ledger c.args.store.now) (ledger c.begin.new.self) (ledger c.change_document.new.store) (ledger c.accept.new.self) c.args.fields.now (table_at (g.S.Frozen.records c.args.store.now) trees)
    c.args.doc (option_copied c.args.old) (option_copied c.args.new) (length c.args.fields.now) c.begin.ensures.ledger made (g.S.Frozen.records c.accept.new.self) c.accept.ensures.counts
    (g.met.S.Store.settled c.accept.new.self c.accept.ensures.unit)

pub returns-in-Ok-clause-keeps : goal.returns-in-Ok-clause-keeps
returns-in-Ok-clause-keeps g c =
    let ledger = g.S.Store.ledger in
    let records = g.S.Frozen.records in
    let old = ledger c.args.store.now in
    let mid = ledger c.change_document.new.store in
    let new = ledger c.accept.new.self in
    let may = subst (λ l. MayDo l mid) c.begin.ensures.ledger c.change_document.ensures.may in
    let left = none_left_accepted old mid new (records c.args.store.now) (records c.change_document.new.store) (records c.accept.new.self)
    (g.met.S.Store.settled c.args.store.now c.requires.unit) may (g.met.S.Store.left_stays c.change_document.new.store) c.accept.ensures in
    keeps_unit old mid new c.requires.unit may c.accept.ensures.unit c.accept.ensures.work c.accept.ensures.shape c.accept.ensures.sealed c.accept.ensures.finished left

pub returns-in-Err-clause-left : goal.returns-in-Err-clause-left
returns-in-Err-clause-left g c =
    let ledger = g.S.Store.ledger in
    let records = g.S.Frozen.records in
    let mid = ledger c.change_document.new.store in
    left_unit (ledger c.args.store.now) mid (ledger c.undo.new.self) (records c.args.store.now) (records c.undo.new.self) (g.met.S.Store.settled c.args.store.now c.requires.unit)
    (subst (λ l. MayDo l mid) c.begin.ensures.ledger c.change_document.ensures.may) c.undo.ensures

pub returns-in-Err-clause-refused : goal.returns-in-Err-clause-refused
returns-in-Err-clause-refused g c =
    let ledger = g.S.Store.ledger in
    let mid = ledger c.change_document.new.store in
    let among : Records → ℕ → Type 0 = λ f. IsChangedWidth c.args.dense c.args.fields.now (table_with (table_at f (trees_of c.args.fields.now c.args.roots.now)) c.args.doc (option_copied c.args.new))
    (option_copied c.args.old)
    (option_copied c.args.new) in
    refused_among (among (g.S.Frozen.records c.begin.new.self)) (ledger c.args.store.now) mid (ledger c.undo.new.self) c.in-Err.error c.undo.ensures.work c.undo.ensures.counts
    (subst (λ l. RefusesOf (among (g.S.Frozen.records c.begin.new.self)) l mid c.in-Err.error) c.begin.ensures.ledger c.in-Err.ensures.refuses)

pub returns-in-Err-clause-counts : goal.returns-in-Err-clause-counts
returns-in-Err-clause-counts g c =
    let ledger = g.S.Store.ledger in
    let trees = trees_of c.args.fields.now c.args.roots.now in
    let made = subst (λ f. MakesDocument c.args.dense (ledger c.begin.new.self) (ledger c.change_document.new.store) c.args.fields.now (table_at f trees) c.args.doc (option_copied c.args.old)
    (option_copied c.args.new) (length c.args.fields.now))
    c.begin.ensures.records c.change_document.ensures.counts in
    document_unit c.args.dense (ledger c.args.store.now) (ledger c.begin.new.self) (ledger c.change_document.new.store) (ledger c.undo.new.self) c.args.fields.now (table_at (g.S.Frozen.records c.args.store.now) trees)
    c.args.doc (option_copied c.args.old) (option_copied c.args.new) (length c.args.fields.now) c.begin.ensures.ledger made (g.S.Frozen.records c.undo.new.self) c.undo.ensures.counts
    (g.met.S.Store.settled c.undo.new.self c.undo.ensures.unit)

pub returns-in-Err-clause-spares : goal.returns-in-Err-clause-spares
returns-in-Err-clause-spares g c =
    let ledger = g.S.Store.ledger in
    let among : Records → ℕ → Type 0 = λ f. IsChangedWidth c.args.dense c.args.fields.now (table_with (table_at f (trees_of c.args.fields.now c.args.roots.now)) c.args.doc (option_copied c.args.new))
    (option_copied c.args.old)
    (option_copied c.args.new) in
    let trees = trees_of c.args.fields.now c.args.roots.now in
    let old = option_copied c.args.old in
    let new = option_copied c.args.new in
    let count = length c.args.fields.now in
    let made = subst (λ f. MakesDocument c.args.dense (ledger c.begin.new.self) (ledger c.change_document.new.store) c.args.fields.now (table_at f trees) c.args.doc old new count)
    c.begin.ensures.records c.change_document.ensures.counts in
    spares_among (ledger c.args.store.now) (ledger c.begin.new.self) (ledger c.change_document.new.store) (ledger c.undo.new.self)
    (besides (by_width (document_nodes old new count) (document_records c.args.fields.now (table_at (g.S.Frozen.records c.args.store.now) trees) c.args.doc old new count))
    (document_forms c.args.dense c.args.fields.now (table_at (g.S.Frozen.records c.args.store.now) trees) c.args.doc old new count))
    c.begin.ensures.ledger made.few (among (g.S.Frozen.records c.begin.new.self)) (g.S.Frozen.records c.args.store.now) (g.S.Frozen.records c.undo.new.self) c.in-Err.error
    (g.met.S.Store.settled c.args.store.now c.requires.unit) c.in-Err.ensures.refuses c.undo.ensures

pub returns-in-Err-clause-keeps : goal.returns-in-Err-clause-keeps
returns-in-Err-clause-keeps g c =
    let ledger = g.S.Store.ledger in
    let records = g.S.Frozen.records in
    let old = ledger c.args.store.now in
    let mid = ledger c.change_document.new.store in
    let new = ledger c.undo.new.self in
    let may = subst (λ l. MayDo l mid) c.begin.ensures.ledger c.change_document.ensures.may in
    let left = none_left_undone old mid new (records c.args.store.now) (records c.change_document.new.store) (records c.undo.new.self)
    (g.met.S.Store.settled c.args.store.now c.requires.unit) may c.undo.ensures in
    keeps_unit old mid new c.requires.unit may c.undo.ensures.unit c.undo.ensures.work c.undo.ensures.shape c.undo.ensures.sealed c.undo.ensures.finished left

pub returns-in-Err-clause-widths : goal.returns-in-Err-clause-widths
returns-in-Err-clause-widths g c =
    let ledger = g.S.Store.ledger in
    let records = g.S.Frozen.records in
    let among : Records → ℕ → Type 0 = λ f. IsChangedWidth c.args.dense c.args.fields.now (table_with (table_at f (trees_of c.args.fields.now c.args.roots.now)) c.args.doc (option_copied c.args.new))
    (option_copied c.args.old)
    (option_copied c.args.new) in
    subst (λ f. IsFullAmong (among f) c.in-Err.error) c.begin.ensures.records
    (full_among (among (records c.begin.new.self)) (ledger c.begin.new.self) (ledger c.change_document.new.store) c.in-Err.error c.in-Err.ensures.refuses)

pub returns-in-Ok-clause-forms : goal.returns-in-Ok-clause-forms
returns-in-Ok-clause-forms g c =
    let ledger = g.S.Store.ledger in
    let records = g.S.Frozen.records in
    let fields = c.args.fields.now in
    unit_forms (laws_of c.field_law.ensures.stays c.field_law.ensures.lawful c.field_law.ensures.keys) (ledger c.args.store.now) (ledger c.begin.new.self) (ledger c.change_document.new.store) (ledger c.accept.new.self)
    (records c.args.store.now) (records c.begin.new.self) (records c.change_document.new.store) (records c.accept.new.self) fields (trees_of fields c.args.roots.now) (trees_of fields c.in-Ok.next.items)
    c.args.doc (option_copied c.args.new) c.begin.ensures.ledger c.begin.ensures.records c.requires.owns c.change_document.ensures.may c.in-Ok.ensures.changes c.accept.ensures c.args.dense c.in-Ok.ensures.forms
