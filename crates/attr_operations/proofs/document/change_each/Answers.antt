use Rattle.std.proofs.Common.{◌≡◌, ◌+◌, [], length, sym, subst, ◌∙◌, arith, refl, rules}
use Rattle.std.proofs.lemmas.Option.{slice_get_read}
use Rattle.std.proofs.lemmas.Result.{err_from_is_err_and}
use Rattle.std.specs.Option.{option_copied, unwrap_or}
use Rattle.attr_field.specs.Widths.{IsFieldWidth}
use Rattle.image_format.specs.Documents.{column_at}
use Rattle.index_model.specs.Columns.{with_change}
use Rattle.posting_store.proofs.RefusalLemmas.{of_more}
use Rattle.attr_operations.specs.Fields.{table_with, trees_of}
use Rattle.attr_operations.specs.Views.{table_at}
use Rattle.attr_operations.specs.Widths.{IsChangedWidth}
use Rattle.attr_operations.proofs.TreeLists.{set_length}
use Rattle.attr_operations.proofs.Columns.{trees_sound}
use Rattle.attr_operations.proofs.Flowing.{words_kept}
use Rattle.attr_operations.proofs.Walk.{IsPartway, way_begins, way_ends}
use Rattle.attr_field.specs.Forms.{wants}
use Rattle.attr_operations.proofs.FieldSteps.{column_is, form_at, forms_on, laws_of, found_size, fit_size, can_change, changed_width, way_on}
use Rattle.attr_operations.proofs.CountLemmas.{counts_on, counts_all, makes_none}
use Rattle.attr_operations.proofs.document.change_each.Goals as goal

pub loop-i-init : goal.loop-i-init
loop-i-init g c =
    let ledger = g.S.Store.ledger c.args.store.now in
    let m = g.S.Frozen.records c.args.store.now in
    let trees = trees_of c.args.fields.now c.args.roots.now in
    record {
      unit = c.requires.unit;
      sized = c.requires.sized;
      way = way_begins ledger m c.args.fields.now trees (table_with (table_at m trees) c.args.doc (option_copied c.args.new)) c.requires.fields c.requires.owns;
      forms = c.requires.forms;
      counts = makes_none c.args.dense c.args.fields.now (table_at m trees) c.args.doc (option_copied c.args.old) (option_copied c.args.new) ledger 0;
      may = c.may_do_law.ensures.same c.args.store.now;
    }

pub items_before-before-requires : goal.items_before-before-requires
items_before-before-requires g c =
    let m = g.S.Frozen.records c.args.store.now in
    let trees = trees_of c.args.fields.now c.args.roots.now in
    found_size c.args.fields.now (table_at m trees) c.args.doc c.loop-i.i (option_copied c.args.old)
    (trees_sound m (laws_of c.field_law.ensures.stays c.field_law.ensures.lawful c.field_law.ensures.keys) c.args.fields.now c.args.roots.now c.requires.sized c.requires.fields)
    c.requires.there c.loop-i-test.true

pub items_after-after-requires : goal.items_after-after-requires
items_after-after-requires g c = fit_size c.args.fields.now c.loop-i.i (option_copied c.args.new) c.requires.fits c.loop-i-test.true

pub offset_bounds-fields-i : goal.offset_bounds-fields-i
offset_bounds-fields-i g c = search rules

pub bounds-fields-i : goal.bounds-fields-i
bounds-fields-i g c = c.loop-i-test.true

pub offset_bounds-roots-i : goal.offset_bounds-roots-i
offset_bounds-roots-i g c = search rules

pub bounds-roots-i : goal.bounds-roots-i
bounds-roots-i g c = let same = c.loop-i.invariant.sized in let below = c.loop-i-test.true in omega arith

pub change_field-requires : goal.change_field-requires
change_field-requires g c =
    let ledger = g.S.Store.ledger in
    let records = g.S.Frozen.records in
    let below = c.loop-i-test.true in
    let same = c.loop-i.invariant.sized in
    let can = can_change (ledger c.args.store.now) (ledger c.loop-i.store) (records c.args.store.now) (records c.loop-i.store) c.args.fields.now c.args.roots.now c.loop-i.roots
    c.args.doc c.loop-i.i (option_copied c.args.old) (option_copied c.args.new) c.index-fields-i.result c.index-roots-i.result c.loop-i.invariant.way
    (slice_get_read c.args.fields.now (length c.args.fields.now) c.loop-i.i c.index-fields-i.result refl below c.index-fields-i.is)
    (slice_get_read c.loop-i.roots (length c.args.fields.now) c.loop-i.i c.index-roots-i.result (sym same) below c.index-roots-i.is)
    c.requires.there c.requires.gone c.requires.fits c.items_before-before.result.now (option_copied c.items_after-after.result) c.items_before-before.ensures c.items_after-after.ensures in
    let form = form_at (ledger c.args.store.now) (ledger c.loop-i.store) (records c.args.store.now) (records c.loop-i.store) c.args.fields.now c.args.roots.now c.loop-i.roots
    c.args.doc c.loop-i.i (option_copied c.args.old) (option_copied c.args.new) c.index-fields-i.result c.index-roots-i.result c.loop-i.invariant.way
    (slice_get_read c.args.fields.now (length c.args.fields.now) c.loop-i.i c.index-fields-i.result refl below c.index-fields-i.is)
    (slice_get_read c.loop-i.roots (length c.args.fields.now) c.loop-i.i c.index-roots-i.result (sym same) below c.index-roots-i.is) c.args.dense c.loop-i.invariant.forms in
    (omega arith, (c.loop-i.invariant.unit, (can.is_field, (can.owns, (can.refers, (form, (can.there, (can.was, can.fits))))))))

pub returns-in_err-roots-clause-sized : goal.returns-in_err-roots-clause-sized
returns-in_err-roots-clause-sized g c = let p = err_from_is_err_and c.from_residual.result c.from_residual.ensures.1 in rw p.1 tt

pub returns-in_err-roots-clause-changes : goal.returns-in_err-roots-clause-changes
returns-in_err-roots-clause-changes g c = let p = err_from_is_err_and c.from_residual.result c.from_residual.ensures.1 in rw p.1 tt

pub returns-in_err-roots-clause-counts : goal.returns-in_err-roots-clause-counts
returns-in_err-roots-clause-counts g c =
    let ledger = g.S.Store.ledger in
    let records = g.S.Frozen.records in
    let begun = ledger c.args.store.now in
    let now = ledger c.loop-i.store in
    let later = ledger c.change_field.new.store in
    let k = records c.args.store.now in
    let m = records c.loop-i.store in
    let fields = c.args.fields.now in
    let old = option_copied c.args.old in
    let new = option_copied c.args.new in
    let field = c.index-fields-i.result in
    let root = c.index-roots-i.result in
    let table = table_at k (trees_of fields c.args.roots.now) in
    let below = c.loop-i-test.true in
    let same = c.loop-i.invariant.sized in
    let at = slice_get_read fields (length fields) c.loop-i.i field refl below c.index-fields-i.is in
    let reads = column_is begun now k m fields c.args.roots.now c.loop-i.roots c.args.doc c.loop-i.i old new field root c.loop-i.invariant.way at
    (slice_get_read c.loop-i.roots (length fields) c.loop-i.i root (sym same) below c.index-roots-i.is) in
    let made = counts_on c.args.dense fields table c.args.doc old new begun now c.loop-i.i later field (column_at field.kind field.value m root.documents) at reads
    c.items_before-before.result.now (option_copied c.items_after-after.result) c.items_before-before.ensures c.items_after-after.ensures
    c.loop-i.invariant.may c.loop-i.invariant.counts c.change_field.ensures.counts c.change_field.ensures.low in
    counts_all c.args.dense fields table c.args.doc old new begun later (c.loop-i.i + 1) (length fields) (omega arith) made

pub returns-in_err-roots-clause-refuses : goal.returns-in_err-roots-clause-refuses
returns-in_err-roots-clause-refuses g c =
    let ledger = g.S.Store.ledger in
    let records = g.S.Frozen.records in
    let begun = ledger c.args.store.now in
    let now = ledger c.loop-i.store in
    let k = records c.args.store.now in
    let m = records c.loop-i.store in
    let fields = c.args.fields.now in
    let doc = c.args.doc in
    let i = c.loop-i.i in
    let old = option_copied c.args.old in
    let new = option_copied c.args.new in
    let field = c.index-fields-i.result in
    let root = c.index-roots-i.result in
    let before = c.items_before-before.result.now in
    let after = option_copied c.items_after-after.result in
    let below = c.loop-i-test.true in
    let same = c.loop-i.invariant.sized in
    let sound = trees_sound k (laws_of c.field_law.ensures.stays c.field_law.ensures.lawful c.field_law.ensures.keys) fields c.args.roots.now c.requires.sized c.requires.fields in
    let p = err_from_is_err_and c.from_residual.result c.from_residual.ensures.1 in
    rw (p.1, p.2) (of_more (IsFieldWidth (wants c.args.dense field.kind) field.kind (with_change (column_at field.kind field.value m root.documents) doc after) before (unwrap_or after []))
    (IsChangedWidth c.args.dense fields (table_with (table_at k (trees_of fields c.args.roots.now)) doc new) old new) begun now (ledger c.change_field.new.store) _ c.loop-i.invariant.may
    (changed_width begun now k m fields c.args.roots.now c.loop-i.roots doc i old new field root c.loop-i.invariant.way
    (slice_get_read fields (length fields) i field refl below c.index-fields-i.is) (slice_get_read c.loop-i.roots (length fields) i root (sym same) below c.index-roots-i.is)
    c.args.dense sound before after c.items_before-before.ensures c.items_after-after.ensures) c.in_err-roots.ensures.refuses)

pub returns-in_err-roots-clause-may : goal.returns-in_err-roots-clause-may
returns-in_err-roots-clause-may g c = c.may_do_law.ensures.then c.args.store.now c.loop-i.store c.change_field.new.store c.loop-i.invariant.may c.change_field.ensures.may

pub offset_bounds-roots-i-in-loop-i : goal.offset_bounds-roots-i-in-loop-i
offset_bounds-roots-i-in-loop-i g c = search rules

pub bounds-roots-i-in-loop-i : goal.bounds-roots-i-in-loop-i
bounds-roots-i-in-loop-i g c = let same = c.loop-i.invariant.sized in let below = c.loop-i-test.true in omega arith

pub loop-i-preserved : goal.loop-i-preserved
loop-i-preserved g c =
    let ledger = g.S.Store.ledger in
    let records = g.S.Frozen.records in
    let begun = ledger c.args.store.now in
    let now = ledger c.loop-i.store in
    let later = ledger c.change_field.new.store in
    let k = records c.args.store.now in
    let m = records c.loop-i.store in
    let fields = c.args.fields.now in
    let old = option_copied c.args.old in
    let new = option_copied c.args.new in
    let field = c.index-fields-i.result in
    let root = c.index-roots-i.result in
    let table = table_at k (trees_of fields c.args.roots.now) in
    let below = c.loop-i-test.true in
    let same = c.loop-i.invariant.sized in
    let at = slice_get_read fields (length fields) c.loop-i.i field refl below c.index-fields-i.is in
    let reads = column_is begun now k m fields c.args.roots.now c.loop-i.roots c.args.doc c.loop-i.i old new field root c.loop-i.invariant.way at
    (slice_get_read c.loop-i.roots (length fields) c.loop-i.i root (sym same) below c.index-roots-i.is) in
    let made = counts_on c.args.dense fields table c.args.doc old new begun now c.loop-i.i later field (column_at field.kind field.value m root.documents) at reads
    c.items_before-before.result.now (option_copied c.items_after-after.result) c.items_before-before.ensures c.items_after-after.ensures
    c.loop-i.invariant.may c.loop-i.invariant.counts c.change_field.ensures.counts c.change_field.ensures.low in
    let laws = laws_of c.field_law.ensures.stays c.field_law.ensures.lawful c.field_law.ensures.keys in
    record {
      unit = c.change_field.ensures.may.unit ∙ c.loop-i.invariant.unit;
      sized = set_length c.loop-i.roots c.loop-i.i c.in_ok-roots.field-0 ∙ same;
      way = way_on (ledger c.args.store.now) (ledger c.loop-i.store) (records c.args.store.now) (records c.loop-i.store) c.args.fields.now c.args.roots.now c.loop-i.roots
          c.args.doc c.loop-i.i (option_copied c.args.old) (option_copied c.args.new) c.index-fields-i.result c.index-roots-i.result c.loop-i.invariant.way
          (slice_get_read c.args.fields.now (length c.args.fields.now) c.loop-i.i c.index-fields-i.result refl below c.index-fields-i.is)
          (slice_get_read c.loop-i.roots (length c.args.fields.now) c.loop-i.i c.index-roots-i.result (sym same) below c.index-roots-i.is)
          laws (trees_sound (records c.args.store.now) laws c.args.fields.now c.args.roots.now c.requires.sized c.requires.fields)
          (option_copied c.items_after-after.result) c.items_after-after.ensures (ledger c.change_field.new.store)
          (records c.change_field.new.store) c.in_ok-roots.field-0 c.in_ok-roots.ensures.makes c.loop-i.invariant.may;
      forms = forms_on (ledger c.args.store.now) (ledger c.loop-i.store) (records c.args.store.now) (records c.loop-i.store) c.args.fields.now c.args.roots.now c.loop-i.roots
          c.args.doc c.loop-i.i (option_copied c.args.old) (option_copied c.args.new) c.index-fields-i.result c.index-roots-i.result c.loop-i.invariant.way
          (slice_get_read c.args.fields.now (length c.args.fields.now) c.loop-i.i c.index-fields-i.result refl below c.index-fields-i.is)
          (slice_get_read c.loop-i.roots (length c.args.fields.now) c.loop-i.i c.index-roots-i.result (sym same) below c.index-roots-i.is)
          laws (trees_sound (records c.args.store.now) laws c.args.fields.now c.args.roots.now c.requires.sized c.requires.fields)
          (option_copied c.items_after-after.result) c.items_after-after.ensures (ledger c.change_field.new.store)
          (records c.change_field.new.store) c.in_ok-roots.field-0 c.in_ok-roots.ensures.makes c.args.dense c.loop-i.invariant.forms c.in_ok-roots.ensures.form;
      counts = made;
      may = c.may_do_law.ensures.then c.args.store.now c.loop-i.store c.change_field.new.store c.loop-i.invariant.may c.change_field.ensures.may;
    }

pub returns-clause-sized : goal.returns-clause-sized
returns-clause-sized g c = c.loop-i.invariant.sized

pub returns-clause-changes : goal.returns-clause-changes
returns-clause-changes g c =
    let ledger = g.S.Store.ledger in
    let records = g.S.Frozen.records in
    let m = records c.args.store.now in
    let fields = c.args.fields.now in
    let trees = trees_of fields c.args.roots.now in
    let last : c.loop-i.i ≡ length fields = (let no = c.loop-i-test.false in let most = c.loop-i.auto.i-end in omega arith) in
    way_ends (ledger c.args.store.now) (ledger c.loop-i.store) c.loop-i.invariant.may m (records c.loop-i.store) fields trees (trees_of fields c.loop-i.roots) c.args.doc (option_copied c.args.new)
    (words_kept (ledger c.args.store.now) (ledger c.loop-i.store) m (records c.loop-i.store) c.loop-i.invariant.may (g.met.S.Store.steady c.args.store.now) (g.met.S.Store.steady c.loop-i.store))
    c.requires.fields.some (trees_sound m (laws_of c.field_law.ensures.stays c.field_law.ensures.lawful c.field_law.ensures.keys) fields c.args.roots.now c.requires.sized c.requires.fields) c.requires.number
    c.requires.fits
    (subst (λ j. IsPartway (ledger c.args.store.now) (ledger c.loop-i.store) m (records c.loop-i.store) fields trees (trees_of fields c.loop-i.roots)
    (table_with (table_at m trees) c.args.doc (option_copied c.args.new)) j) last c.loop-i.invariant.way)

pub returns-clause-counts : goal.returns-clause-counts
returns-clause-counts g c =
    let ledger = g.S.Store.ledger in
    let most = c.loop-i.auto.i-end in
    counts_all c.args.dense c.args.fields.now (table_at (g.S.Frozen.records c.args.store.now) (trees_of c.args.fields.now c.args.roots.now)) c.args.doc (option_copied c.args.old) (option_copied c.args.new)
    (ledger c.args.store.now) (ledger c.loop-i.store) c.loop-i.i (length c.args.fields.now) (omega arith) c.loop-i.invariant.counts

pub returns-clause-may : goal.returns-clause-may
returns-clause-may g c = c.loop-i.invariant.may

pub returns-in_err-roots-clause-forms : goal.returns-in_err-roots-clause-forms
returns-in_err-roots-clause-forms g c = let p = err_from_is_err_and c.from_residual.result c.from_residual.ensures.1 in rw p.1 tt

pub returns-clause-forms : goal.returns-clause-forms
returns-clause-forms g c = c.loop-i.invariant.forms
