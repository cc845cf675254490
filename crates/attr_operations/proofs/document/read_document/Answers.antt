use Rattle.std.proofs.Common.{◌≡◌, ◌+◌, Some, length, nat_cmp, sym, ap, subst, ◌∙◌, arith, refl, rules}
use Rattle.std.proofs.lemmas.Option.{slice_get_read}
use Rattle.std.proofs.lemmas.Result.{err_from_is_err_and}
use Rattle.std.specs.BTreeMap.{is_at}
use Rattle.std.specs.Map.{lookup}
use Rattle.attr_field.specs.Fields.{IsField}
use Rattle.image_format.specs.Documents.{column_at}
use Rattle.attr_types.specs.Table.{document_at}
use Rattle.attr_operations.specs.Fields.{trees_of}
use Rattle.attr_operations.specs.Views.{table_at}
use Rattle.attr_operations.proofs.Columns.{trees_sound}
use Rattle.attr_operations.proofs.FieldSteps.{laws_of}
use Rattle.attr_operations.proofs.Reading.{ReadsSoFar, reads_begin, reads_more, reads_end, reads_none, reads_field, reads_items}
use Rattle.attr_operations.proofs.document.read_document.Goals as goal

pub returns-in_err-document-clause-document : goal.returns-in_err-document-clause-document
returns-in_err-document-clause-document g c = let p = err_from_is_err_and c.from_residual.result c.from_residual.ensures.1 in rw p.1 tt

pub returns-in_err-document-clause-same : goal.returns-in_err-document-clause-same
returns-in_err-document-clause-same g c = refl

pub loop-i-init : goal.loop-i-init
loop-i-init g c =
    let found = document_at (table_at (g.F.Frozen.records c.args.frozen.now) (trees_of c.args.fields.now c.args.roots.now)) c.args.doc in
    record { reads = subst (ReadsSoFar 0 found) (sym c.in_ok-document.ensures.items) (reads_begin found); same = refl }

pub offset_bounds-fields-i : goal.offset_bounds-fields-i
offset_bounds-fields-i g c = search rules

pub bounds-fields-i : goal.bounds-fields-i
bounds-fields-i g c = c.loop-i-test.true

pub offset_bounds-roots-i : goal.offset_bounds-roots-i
offset_bounds-roots-i g c = search rules

pub bounds-roots-i : goal.bounds-roots-i
bounds-roots-i g c = let same = c.requires.sized in let below = c.loop-i-test.true in omega arith

pub items-requires : goal.items-requires
items-requires g c =
    let records = g.F.Frozen.records in
    let m = records c.args.frozen.now in
    let fields = c.args.fields.now in
    let roots = c.args.roots.now in
    let below = c.loop-i-test.true in
    let at_field = slice_get_read fields (length fields) c.loop-i.i c.index-fields-i.result refl below c.index-fields-i.is in
    let at_root = slice_get_read roots (length fields) c.loop-i.i c.index-roots-i.result (sym c.requires.sized) below c.index-roots-i.is in (
      omega arith,
      subst (λ f. IsField c.index-fields-i.result.kind c.index-fields-i.result.value (records f) c.index-roots-i.result.documents c.index-roots-i.result.dictionary) (sym c.loop-i.invariant.same)
          (reads_field m fields roots c.requires.fields c.loop-i.i c.index-fields-i.result c.index-roots-i.result at_field at_root),
    )

pub returns-in_err-items-clause-document : goal.returns-in_err-items-clause-document
returns-in_err-items-clause-document g c = let p = err_from_is_err_and c.from_residual-in_err-items.result c.from_residual-in_err-items.ensures.1 in rw p.1 tt

pub returns-in_err-items-clause-same : goal.returns-in_err-items-clause-same
returns-in_err-items-clause-same g c = c.items.ensures.same ∙ c.loop-i.invariant.same

pub returns-in_err-push-in-Some-clause-document : goal.returns-in_err-push-in-Some-clause-document
returns-in_err-push-in-Some-clause-document g c = let p = err_from_is_err_and c.from_residual-in_err-push-in-Some.result c.from_residual-in_err-push-in-Some.ensures.1 in rw p.1 tt

pub returns-in_err-push-in-Some-clause-same : goal.returns-in_err-push-in-Some-clause-same
returns-in_err-push-in-Some-clause-same g c = c.items.ensures.same ∙ c.loop-i.invariant.same

pub returns-in-None-clause-document : goal.returns-in-None-clause-document
returns-in-None-clause-document g c =
    let records = g.F.Frozen.records in
    let m = records c.args.frozen.now in
    let fields = c.args.fields.now in
    let roots = c.args.roots.now in
    let below = c.loop-i-test.true in
    let at_field = slice_get_read fields (length fields) c.loop-i.i c.index-fields-i.result refl below c.index-fields-i.is in
    let at_root = slice_get_read roots (length fields) c.loop-i.i c.index-roots-i.result (sym c.requires.sized) below c.index-roots-i.is in
    let is = c.in_ok-items.ensures.items
    ∙ ap (λ f. lookup (is_at (nat_cmp c.args.doc)) (column_at c.index-fields-i.result.kind c.index-fields-i.result.value (records f) c.index-roots-i.result.documents)) c.loop-i.invariant.same
    ∙ reads_items m fields roots c.requires.fields c.loop-i.i c.index-fields-i.result c.index-roots-i.result at_field at_root c.args.doc in
    reads_none (document_at (table_at m (trees_of fields roots)) c.args.doc) c.loop-i.i (sym c.in-None.is ∙ is)

pub returns-in-None-clause-same : goal.returns-in-None-clause-same
returns-in-None-clause-same g c = c.items.ensures.same ∙ c.loop-i.invariant.same

pub loop-i-preserved : goal.loop-i-preserved
loop-i-preserved g c =
    let records = g.F.Frozen.records in
    let m = records c.args.frozen.now in
    let fields = c.args.fields.now in
    let roots = c.args.roots.now in
    let below = c.loop-i-test.true in
    let at_field = slice_get_read fields (length fields) c.loop-i.i c.index-fields-i.result refl below c.index-fields-i.is in
    let at_root = slice_get_read roots (length fields) c.loop-i.i c.index-roots-i.result (sym c.requires.sized) below c.index-roots-i.is in
    let is = c.in_ok-items.ensures.items
    ∙ ap (λ f. lookup (is_at (nat_cmp c.args.doc)) (column_at c.index-fields-i.result.kind c.index-fields-i.result.value (records f) c.index-roots-i.result.documents)) c.loop-i.invariant.same
    ∙ reads_items m fields roots c.requires.fields c.loop-i.i c.index-fields-i.result c.index-roots-i.result at_field at_root c.args.doc in
    let laws = laws_of c.field_law.ensures.stays c.field_law.ensures.lawful c.field_law.ensures.keys in
    let found = document_at (table_at m (trees_of fields roots)) c.args.doc in
    record {
      reads = subst (ReadsSoFar (c.loop-i.i + 1) found) (sym c.in_ok-push-in-Some.ensures.items)
          (reads_more fields (table_at m (trees_of fields roots)) c.args.doc (trees_sound m laws fields roots c.requires.sized c.requires.fields) c.loop-i.i c.loop-i.document.items c.in-Some.items below
          c.loop-i.invariant.reads (sym c.in-Some.is ∙ is));
      same = c.items.ensures.same ∙ c.loop-i.invariant.same;
    }

pub returns-clause-document : goal.returns-clause-document
returns-clause-document g c =
    let m = g.F.Frozen.records c.args.frozen.now in
    let fields = c.args.fields.now in
    let roots = c.args.roots.now in
    let laws = laws_of c.field_law.ensures.stays c.field_law.ensures.lawful c.field_law.ensures.keys in
    let found = document_at (table_at m (trees_of fields roots)) c.args.doc in
    let last : c.loop-i.i ≡ length fields = (let no = c.loop-i-test.false in let most = c.loop-i.auto.i-end in omega arith) in
    ap Some c.from_vec.ensures
    ∙ reads_end fields (table_at m (trees_of fields roots)) c.args.doc (trees_sound m laws fields roots c.requires.sized c.requires.fields) c.loop-i.document.items c.requires.fields.some
    (subst (λ i. ReadsSoFar i found c.loop-i.document.items) last c.loop-i.invariant.reads)

pub returns-clause-same : goal.returns-clause-same
returns-clause-same g c = c.loop-i.invariant.same
