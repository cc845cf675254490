use Rattle.std.proofs.Common.{Bool, List, [], None, refl, sym, subst, arith}
use Rattle.std.specs.Prelude.{IfErr, IfOk}
use Rattle.store_api.specs.Calls.{RefusesOf}
use Rattle.store_api.proofs.May.{may_do-same}
use Rattle.store_api.specs.Units.{MakesWithin}
use Rattle.image_format.specs.Documents.{column_at}
use Rattle.index_model.specs.Columns.{with_change}
use Rattle.attr_types.specs.declared.items.Item.{Item}
use Rattle.attr_field.specs.Widths.{IsFieldWidth}
use Rattle.index_model.specs.Changes.{first_weights}
use Rattle.value_index.specs.Counts.{besides, by_width}
use Rattle.value_index.specs.Forms.{IsOfForm}
use Rattle.attr_field.specs.Forms.{wants}
use Rattle.attr_field.specs.declared.roots.FieldRoots.{FieldRoots}
use Rattle.value_index.proofs.CountLemmas.{within_none}
use Rattle.attr_field.specs.Counts.{change_forms, change_records, field_forms, field_nodes, field_records, low_nodes}
use Rattle.attr_field.proofs.SingleLemmas.{made_by}
use Rattle.attr_field.proofs.changing.remove.Goals as goal

pub returns-in_default-clause-refuses : goal.returns-in_default-clause-refuses
returns-in_default-clause-refuses g c = tt

pub returns-in_default-clause-may : goal.returns-in_default-clause-may
returns-in_default-clause-may g c = may_do-same (g.S.Store.ledger c.args.store.now)

pub remove_changed-requires : goal.remove_changed-requires
remove_changed-requires g c =
    let k = g.S.Frozen.records c.args.store.now in
    let kind = c.args.kind in
    let type = c.args.value_type in
    let D = c.args.roots.documents in (
      omega arith,
      (
        c.requires.unit,
        (
          c.requires.field,
          (
            c.requires.owns,
            (
              c.requires.refers,
              (
                subst (λ (b : Bool). IsOfForm b type k c.args.roots.dictionary) (sym c.wants-wanted.ensures) c.requires.form,
                (
                  c.requires.there,
                  (
                    c.requires.was,
                    made_by kind (column_at kind type k D) c.args.doc c.args.old.now [] c.in-Ok.weights c.in-Ok.ensures.weights
                        (c.documents_law.ensures.lawful kind type k D c.requires.field.documents_are).2 c.requires.was (λ is. (omega arith, tt)) (λ item had has. cc),
                  ),
                ),
              ),
            ),
          ),
        ),
      ),
    )

pub returns-in_default-clause-counts : goal.returns-in_default-clause-counts
returns-in_default-clause-counts g c =
    let column = column_at c.args.kind c.args.value_type (g.S.Frozen.records c.args.store.now) c.args.roots.documents in
    within_none (g.S.Store.ledger c.args.store.now) (besides (by_width (field_nodes (first_weights [] c.args.old.now) []) (change_records c.args.kind column c.args.doc c.args.old.now []))
    (change_forms (wants c.args.dense c.args.kind) column c.args.doc c.args.old.now []))

pub returns-in_default-clause-low : goal.returns-in_default-clause-low
returns-in_default-clause-low g c =
    let column = column_at c.args.kind c.args.value_type (g.S.Frozen.records c.args.store.now) c.args.roots.documents in
    λ levels stays.
    within_none (g.S.Store.ledger c.args.store.now) (besides (by_width (low_nodes levels (first_weights [] c.args.old.now) []) (change_records c.args.kind column c.args.doc c.args.old.now []))
    (change_forms (wants c.args.dense c.args.kind) column c.args.doc c.args.old.now []))

pub returns-clause-makes : goal.returns-clause-makes
returns-clause-makes g c = c.remove_changed.ensures.makes

pub returns-clause-refuses : goal.returns-clause-refuses
returns-clause-refuses g c =
    let ledger = g.S.Store.ledger in
    let kind = c.args.kind in
    let column = column_at kind c.args.value_type (g.S.Frozen.records c.args.store.now) c.args.roots.documents in
    subst (λ (b : Bool). IfErr c.remove_changed.result (RefusesOf (IsFieldWidth b kind (with_change column c.args.doc None) c.args.old.now []) (ledger c.args.store.now) (ledger c.remove_changed.new.store)))
    c.wants-wanted.ensures
    (subst (λ (old : List Item). IfErr c.remove_changed.result (RefusesOf (IsFieldWidth c.wants-wanted.result kind (with_change column c.args.doc None) old []) (ledger c.args.store.now)
    (ledger c.remove_changed.new.store)))
    (sym c.requires.was) c.remove_changed.ensures.refuses)

pub returns-clause-may : goal.returns-clause-may
returns-clause-may g c = c.remove_changed.ensures.may

pub returns-clause-form : goal.returns-clause-form
returns-clause-form g c =
    subst (λ (b : Bool). IfOk c.remove_changed.result (λ (next : FieldRoots g.row.OFFSET_BITS). IsOfForm b c.args.value_type (g.S.Frozen.records c.remove_changed.new.store) next.dictionary)) c.wants-wanted.ensures
    c.remove_changed.ensures.form

pub returns-clause-counts : goal.returns-clause-counts
returns-clause-counts g c =
    let ledger = g.S.Store.ledger in
    let column = column_at c.args.kind c.args.value_type (g.S.Frozen.records c.args.store.now) c.args.roots.documents in
    let first = first_weights [] c.args.old.now in
    subst (λ (b : Bool). MakesWithin (ledger c.args.store.now) (ledger c.remove_changed.new.store) (besides (by_width (field_nodes first []) (field_records c.args.kind column c.args.doc 0 first []))
    (field_forms b column c.args.doc first []))) c.wants-wanted.ensures c.remove_changed.ensures.counts

pub returns-clause-low : goal.returns-clause-low
returns-clause-low g c =
    let ledger = g.S.Store.ledger in
    let column = column_at c.args.kind c.args.value_type (g.S.Frozen.records c.args.store.now) c.args.roots.documents in
    λ levels stays.
    let first = first_weights [] c.args.old.now in
    subst (λ (b : Bool). MakesWithin (ledger c.args.store.now) (ledger c.remove_changed.new.store) (besides (by_width (low_nodes levels first []) (field_records c.args.kind column c.args.doc 0 first []))
    (field_forms b column c.args.doc first []))) c.wants-wanted.ensures (c.remove_changed.ensures.low levels stays)

pub slice_bounds-change_weights-end : goal.slice_bounds-change_weights-end
slice_bounds-change_weights-end g c = refl
