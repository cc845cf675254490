use Rattle.std.proofs.Common.{Some, sym, ◌∙◌, arith, refl, length}
use Rattle.std.proofs.lemmas.Result.{err_from_is_err_and}
use Rattle.std.specs.Option.{option_copied}
use Rattle.attr_types.specs.declared.op.Op.TheVariants.{Update}
use Rattle.attr_types.specs.Table.{with_document}
use Rattle.value_index.specs.Counts.{besides, by_width}
use Rattle.attr_operations.specs.Counts.{SparesAtMost, document_after, document_before, document_forms, document_nodes, document_records, MakesDocument}
use Rattle.attr_operations.specs.Fields.{trees_of}
use Rattle.attr_operations.specs.Views.{table_at}
use Rattle.attr_operations.proofs.Columns.{trees_sound}
use Rattle.attr_operations.proofs.FieldSteps.{laws_of}
use Rattle.attr_operations.proofs.CountLemmas.{makes_none}
use Rattle.attr_operations.proofs.AfterLemmas.{of_operation, width_after, with_after}
use Rattle.attr_operations.proofs.StepLemmas.{found_lawful, update_made, update_skipped, made_step, keeps_same, leaves_same}
use Rattle.attr_operations.proofs.operation.update_document.Goals as goal

pub updated_document-requires : goal.updated_document-requires
updated_document-requires g c =
    let m = g.S.Frozen.records c.args.store.now in
    let fields = c.args.fields.now in
    let trees = trees_of fields c.args.roots.now in
    found_lawful fields (table_at m trees) c.args.doc (option_copied c.args.old)
    (trees_sound m (laws_of c.field_law.ensures.stays c.field_law.ensures.lawful c.field_law.ensures.keys) fields c.args.roots.now c.requires.sized c.requires.fields) c.requires.there

pub returns-in_default-clause-steps : goal.returns-in_default-clause-steps
returns-in_default-clause-steps g c = record { left = leaves_same (g.S.Store.ledger c.args.store.now) (g.S.Frozen.records c.args.store.now); refused = tt }

pub returns-in_default-clause-keeps : goal.returns-in_default-clause-keeps
returns-in_default-clause-keeps g c = keeps_same (g.S.Store.ledger c.args.store.now)

pub returns-in_default-new-clause-steps : goal.returns-in_default-new-clause-steps
returns-in_default-new-clause-steps g c = record {
  step_is = update_skipped c.args.fields.now (table_at (g.S.Frozen.records c.args.store.now) (trees_of c.args.fields.now c.args.roots.now)) c.args.doc c.args.create c.args.changes.now
      (option_copied c.args.old) c.requires.there (sym c.in_default-new.is ∙ c.in-Ok.ensures);
  store_is = refl;
}

pub returns-in_default-new-clause-keeps : goal.returns-in_default-new-clause-keeps
returns-in_default-new-clause-keeps g c = keeps_same (g.S.Store.ledger c.args.store.now)

pub change_unit-requires : goal.change_unit-requires
change_unit-requires g c =
    let m = g.S.Frozen.records c.args.store.now in
    let fields = c.args.fields.now in
    let trees = trees_of fields c.args.roots.now in
    let sound = trees_sound m (laws_of c.field_law.ensures.stays c.field_law.ensures.lawful c.field_law.ensures.keys) fields c.args.roots.now c.requires.sized c.requires.fields in
    let made = update_made fields (table_at m trees) c.args.doc c.args.create c.args.changes.now (option_copied c.args.old) c.in-Some.document sound c.requires.fits c.requires.there
    (sym c.in-Some.is ∙ c.in-Ok.ensures) in
    (omega arith, (c.requires.unit, (c.requires.sized, (c.requires.fields, (c.requires.forms, (c.requires.owns, (c.requires.fits.0, (c.requires.there, (tt, made.0)))))))))

pub returns-in_err-next-clause-steps : goal.returns-in_err-next-clause-steps
returns-in_err-next-clause-steps g c =
    let p = err_from_is_err_and c.from_residual.result c.from_residual.ensures.1 in
    rw (p.1, p.2) (record { left = c.in_err-next.ensures.left; refused = c.in_err-next.ensures.refused })

pub returns-in_err-next-clause-keeps : goal.returns-in_err-next-clause-keeps
returns-in_err-next-clause-keeps g c = c.change_unit.ensures.keeps

pub returns-clause-keeps : goal.returns-clause-keeps
returns-clause-keeps g c = c.change_unit.ensures.keeps

pub returns-clause-steps : goal.returns-clause-steps
returns-clause-steps g c =
    let m = g.S.Frozen.records c.args.store.now in
    let fields = c.args.fields.now in
    let trees = trees_of fields c.args.roots.now in
    let sound = trees_sound m (laws_of c.field_law.ensures.stays c.field_law.ensures.lawful c.field_law.ensures.keys) fields c.args.roots.now c.requires.sized c.requires.fields in
    let made = update_made fields (table_at m trees) c.args.doc c.args.create c.args.changes.now (option_copied c.args.old) c.in-Some.document sound c.requires.fits c.requires.there
    (sym c.in-Some.is ∙ c.in-Ok.ensures) in
    made_step fields (g.S.Store.ledger c.args.store.now) (g.S.Store.ledger c.change_unit.new.store) m (g.S.Frozen.records c.change_unit.new.store) trees (Update c.args.doc c.args.create c.args.changes.now) c.args.doc
    (Some c.in-Some.document)
    c.in_ok-next.next.items c.in_ok-next.ensures.sized c.in_ok-next.ensures.changes made.1

pub returns-in_default-clause-counts : goal.returns-in_default-clause-counts
returns-in_default-clause-counts g c =
    let fields = c.args.fields.now in
    let table = table_at (g.S.Frozen.records c.args.store.now) (trees_of fields c.args.roots.now) in
    makes_none c.args.dense fields table c.args.doc (document_before table (Update c.args.doc c.args.create c.args.changes.now)) (document_after fields table (Update c.args.doc c.args.create c.args.changes.now))
    (g.S.Store.ledger c.args.store.now) (length fields)

pub returns-in_default-new-clause-counts : goal.returns-in_default-new-clause-counts
returns-in_default-new-clause-counts g c =
    let fields = c.args.fields.now in
    let table = table_at (g.S.Frozen.records c.args.store.now) (trees_of fields c.args.roots.now) in
    makes_none c.args.dense fields table c.args.doc (document_before table (Update c.args.doc c.args.create c.args.changes.now)) (document_after fields table (Update c.args.doc c.args.create c.args.changes.now))
    (g.S.Store.ledger c.args.store.now) (length fields)

pub returns-in_err-next-clause-counts : goal.returns-in_err-next-clause-counts
returns-in_err-next-clause-counts g c =
    let fields = c.args.fields.now in
    let table = table_at (g.S.Frozen.records c.args.store.now) (trees_of fields c.args.roots.now) in
    let sound = trees_sound (g.S.Frozen.records c.args.store.now) (laws_of c.field_law.ensures.stays c.field_law.ensures.lawful c.field_law.ensures.keys) fields c.args.roots.now c.requires.sized c.requires.fields in
    let made = update_made fields table c.args.doc c.args.create c.args.changes.now (option_copied c.args.old) c.in-Some.document sound c.requires.fits c.requires.there (sym c.in-Some.is ∙ c.in-Ok.ensures) in
    let after = with_after fields table (Update c.args.doc c.args.create c.args.changes.now) c.args.doc c.in-Some.document made.1 in
    of_operation fields table (Update c.args.doc c.args.create c.args.changes.now) (option_copied c.args.old) (Some c.in-Some.document) c.requires.there after
    (λ was is. MakesDocument c.args.dense (g.S.Store.ledger c.args.store.now) (g.S.Store.ledger c.change_unit.new.store) fields table c.args.doc was is (length fields)) c.change_unit.ensures.counts

pub returns-in_err-next-clause-spares : goal.returns-in_err-next-clause-spares
returns-in_err-next-clause-spares g c =
    let fields = c.args.fields.now in
    let table = table_at (g.S.Frozen.records c.args.store.now) (trees_of fields c.args.roots.now) in
    let sound = trees_sound (g.S.Frozen.records c.args.store.now) (laws_of c.field_law.ensures.stays c.field_law.ensures.lawful c.field_law.ensures.keys) fields c.args.roots.now c.requires.sized c.requires.fields in
    let made = update_made fields table c.args.doc c.args.create c.args.changes.now (option_copied c.args.old) c.in-Some.document sound c.requires.fits c.requires.there (sym c.in-Some.is ∙ c.in-Ok.ensures) in
    let after = with_after fields table (Update c.args.doc c.args.create c.args.changes.now) c.args.doc c.in-Some.document made.1 in
    let spares = of_operation fields table (Update c.args.doc c.args.create c.args.changes.now) (option_copied c.args.old) (Some c.in-Some.document) c.requires.there after
    (λ was is. SparesAtMost (g.S.Store.ledger c.change_unit.new.store) (besides (by_width (document_nodes was is (length fields)) (document_records fields table c.args.doc was is (length fields)))
    (document_forms c.args.dense fields table c.args.doc was is (length fields))) c.in_err-next.field-0.0) c.in_err-next.ensures.spares in
    let p = err_from_is_err_and c.from_residual.result c.from_residual.ensures.1 in rw (p.1, p.2) spares

pub returns-clause-counts : goal.returns-clause-counts
returns-clause-counts g c =
    let fields = c.args.fields.now in
    let table = table_at (g.S.Frozen.records c.args.store.now) (trees_of fields c.args.roots.now) in
    let sound = trees_sound (g.S.Frozen.records c.args.store.now) (laws_of c.field_law.ensures.stays c.field_law.ensures.lawful c.field_law.ensures.keys) fields c.args.roots.now c.requires.sized c.requires.fields in
    let made = update_made fields table c.args.doc c.args.create c.args.changes.now (option_copied c.args.old) c.in-Some.document sound c.requires.fits c.requires.there (sym c.in-Some.is ∙ c.in-Ok.ensures) in
    let after = with_after fields table (Update c.args.doc c.args.create c.args.changes.now) c.args.doc c.in-Some.document made.1 in
    of_operation fields table (Update c.args.doc c.args.create c.args.changes.now) (option_copied c.args.old) (Some c.in-Some.document) c.requires.there after
    (λ was is. MakesDocument c.args.dense (g.S.Store.ledger c.args.store.now) (g.S.Store.ledger c.change_unit.new.store) fields table c.args.doc was is (length fields)) c.change_unit.ensures.counts

pub returns-in_err-next-clause-widths : goal.returns-in_err-next-clause-widths
returns-in_err-next-clause-widths g c =
    let fields = c.args.fields.now in
    let table = table_at (g.S.Frozen.records c.args.store.now) (trees_of fields c.args.roots.now) in
    let sound = trees_sound (g.S.Frozen.records c.args.store.now) (laws_of c.field_law.ensures.stays c.field_law.ensures.lawful c.field_law.ensures.keys) fields c.args.roots.now c.requires.sized c.requires.fields in
    let made = update_made fields table c.args.doc c.args.create c.args.changes.now (option_copied c.args.old) c.in-Some.document sound c.requires.fits c.requires.there (sym c.in-Some.is ∙ c.in-Ok.ensures) in
    let after = with_after fields table (Update c.args.doc c.args.create c.args.changes.now) c.args.doc c.in-Some.document made.1 in
    let widths = width_after fields table (Update c.args.doc c.args.create c.args.changes.now) (option_copied c.args.old) (Some c.in-Some.document) c.requires.there after
    c.args.dense (with_document table c.args.doc c.in-Some.document) c.in_err-next.field-0.0 made.1 c.in_err-next.ensures.widths in
    let p = err_from_is_err_and c.from_residual.result c.from_residual.ensures.1 in rw (p.1, p.2) widths

pub returns-in_err-next-clause-forms : goal.returns-in_err-next-clause-forms
returns-in_err-next-clause-forms g c = let p = err_from_is_err_and c.from_residual.result c.from_residual.ensures.1 in rw p.1 tt

pub returns-clause-forms : goal.returns-clause-forms
returns-clause-forms g c = c.in_ok-next.ensures.forms
