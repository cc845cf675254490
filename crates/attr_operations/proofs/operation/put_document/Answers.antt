use Rattle.std.proofs.Common.{Some, arith, refl, length}
use Rattle.std.proofs.lemmas.Result.{err_from_is_err_and}
use Rattle.std.specs.Option.{option_copied}
use Rattle.attr_types.specs.declared.op.Op.TheVariants.{Put}
use Rattle.attr_types.specs.Table.{with_document}
use Rattle.value_index.specs.Counts.{besides, by_width}
use Rattle.attr_operations.specs.Counts.{SparesAtMost, document_forms, document_nodes, document_records, MakesDocument}
use Rattle.attr_operations.specs.Fields.{trees_of}
use Rattle.attr_operations.specs.Views.{table_at}
use Rattle.attr_operations.proofs.AfterLemmas.{of_operation, width_after, put_after}
use Rattle.attr_operations.proofs.StepLemmas.{document_fits_fields, made_step}
use Rattle.attr_operations.proofs.operation.put_document.Goals as goal

pub change_unit-requires : goal.change_unit-requires
change_unit-requires g c = (
  omega arith,
  (
    c.requires.unit,
    (
      c.requires.sized,
      (
        c.requires.fields,
        (
          c.requires.forms,
          (
            c.requires.owns,
            (
              c.requires.fits.0,
              (
                c.requires.there,
                (
                  tt,
                  document_fits_fields c.args.fields.now c.args.items.now c.requires.fits.1,
                ),
              ),
            ),
          ),
        ),
      ),
    ),
  ),
)

pub returns-in_err-next-clause-steps : goal.returns-in_err-next-clause-steps
returns-in_err-next-clause-steps g c =
    let p = err_from_is_err_and c.from_residual.result c.from_residual.ensures.1 in
    rw (p.1, p.2) (record { left = c.in_err-next.ensures.left; refused = c.in_err-next.ensures.refused })

pub returns-in_err-next-clause-keeps : goal.returns-in_err-next-clause-keeps
returns-in_err-next-clause-keeps g c = c.change_unit.ensures.keeps

pub returns-clause-keeps : goal.returns-clause-keeps
returns-clause-keeps g c = c.change_unit.ensures.keeps

pub returns-clause-steps : goal.returns-clause-steps
returns-clause-steps g c =
    let m = g.S.Frozen.records c.args.store.now in
    let fields = c.args.fields.now in
    let trees = trees_of fields c.args.roots.now in
    made_step fields (g.S.Store.ledger c.args.store.now) (g.S.Store.ledger c.change_unit.new.store) m (g.S.Frozen.records c.change_unit.new.store) trees (Put c.args.doc c.args.items.now) c.args.doc
    (Some c.args.items.now)
    c.in_ok-next.next.items c.in_ok-next.ensures.sized c.in_ok-next.ensures.changes refl

pub returns-in_err-next-clause-counts : goal.returns-in_err-next-clause-counts
returns-in_err-next-clause-counts g c =
    let fields = c.args.fields.now in
    let table = table_at (g.S.Frozen.records c.args.store.now) (trees_of fields c.args.roots.now) in
    of_operation fields table (Put c.args.doc c.args.items.now) (option_copied c.args.old) (Some c.args.items.now) c.requires.there (put_after fields table c.args.doc c.args.items.now)
    (λ was is. MakesDocument c.args.dense (g.S.Store.ledger c.args.store.now) (g.S.Store.ledger c.change_unit.new.store) fields table c.args.doc was is (length fields)) c.change_unit.ensures.counts

pub returns-in_err-next-clause-spares : goal.returns-in_err-next-clause-spares
returns-in_err-next-clause-spares g c =
    let fields = c.args.fields.now in
    let table = table_at (g.S.Frozen.records c.args.store.now) (trees_of fields c.args.roots.now) in
    let spares = of_operation fields table (Put c.args.doc c.args.items.now) (option_copied c.args.old) (Some c.args.items.now) c.requires.there (put_after fields table c.args.doc c.args.items.now)
    (λ was is. SparesAtMost (g.S.Store.ledger c.change_unit.new.store) (besides (by_width (document_nodes was is (length fields)) (document_records fields table c.args.doc was is (length fields)))
    (document_forms c.args.dense fields table c.args.doc was is (length fields))) c.in_err-next.field-0.0) c.in_err-next.ensures.spares in
    let p = err_from_is_err_and c.from_residual.result c.from_residual.ensures.1 in rw (p.1, p.2) spares

pub returns-clause-counts : goal.returns-clause-counts
returns-clause-counts g c =
    let fields = c.args.fields.now in
    let table = table_at (g.S.Frozen.records c.args.store.now) (trees_of fields c.args.roots.now) in
    of_operation fields table (Put c.args.doc c.args.items.now) (option_copied c.args.old) (Some c.args.items.now) c.requires.there (put_after fields table c.args.doc c.args.items.now)
    (λ was is. MakesDocument c.args.dense (g.S.Store.ledger c.args.store.now) (g.S.Store.ledger c.change_unit.new.store) fields table c.args.doc was is (length fields)) c.change_unit.ensures.counts

pub returns-in_err-next-clause-widths : goal.returns-in_err-next-clause-widths
returns-in_err-next-clause-widths g c =
    let fields = c.args.fields.now in
    let table = table_at (g.S.Frozen.records c.args.store.now) (trees_of fields c.args.roots.now) in
    let widths = width_after fields table (Put c.args.doc c.args.items.now) (option_copied c.args.old) (Some c.args.items.now) c.requires.there (put_after fields table c.args.doc c.args.items.now)
    c.args.dense (with_document table c.args.doc c.args.items.now) c.in_err-next.field-0.0 refl c.in_err-next.ensures.widths in
    let p = err_from_is_err_and c.from_residual.result c.from_residual.ensures.1 in rw (p.1, p.2) widths

pub returns-in_err-next-clause-forms : goal.returns-in_err-next-clause-forms
returns-in_err-next-clause-forms g c = let p = err_from_is_err_and c.from_residual.result c.from_residual.ensures.1 in rw p.1 tt

pub returns-clause-forms : goal.returns-clause-forms
returns-clause-forms g c = c.in_ok-next.ensures.forms
