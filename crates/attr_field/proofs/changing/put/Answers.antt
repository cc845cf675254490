use Rattle.std.proofs.Common.{◌≡◌, ◌≢◌, Bool, ℕ, List, [], ◌∷◌, length, Some, refl, sym, subst, ◌∙◌, arith, true, true≢false}
use Rattle.std.specs.Prelude.{IfOk, IfErr}
use Rattle.store_api.specs.Parts.{Owns}
use Rattle.store_api.specs.Units.{MayDo, MakesWithin}
use Rattle.store_api.proofs.May.{may_do-same}
use Rattle.image_format.specs.Documents.{column_at}
use Rattle.index_model.specs.Changes.{first_weights}
use Rattle.index_model.specs.Columns.{Column, items_of, with_change}
use Rattle.store_api.specs.Calls.{RefusesOf}
use Rattle.attr_types.specs.declared.items.Item.{Item}
use Rattle.attr_field.specs.Widths.{IsFieldWidth}
use Rattle.value_index.specs.Counts.{besides, by_width}
use Rattle.value_index.specs.Forms.{IsOfForm, WeighOnes}
use Rattle.attr_field.specs.Forms.{wants}
use Rattle.attr_field.proofs.WeightLemmas.{weigh_ones}
use Rattle.value_index.proofs.CountLemmas.{within_none}
use Rattle.attr_field.specs.Changes.{MakesField}
use Rattle.attr_field.specs.Counts.{change_forms, change_records, field_forms, field_nodes, field_records, low_nodes, StaysLow}
use Rattle.attr_field.specs.Fields.{field_part, IsField, RefersBeside}
use Rattle.attr_field.specs.declared.roots.FieldRoots.{FieldRoots}
use Rattle.attr_field.proofs.ChangeLemmas.{same_field}
use Rattle.attr_field.proofs.SingleLemmas.{item_apart, made_by, single_items}
use Rattle.attr_field.proofs.changing.put.Goals as goal

pub has_already-requires : goal.has_already-requires
has_already-requires g c = (omega arith, (c.requires.field.documents_are, c.requires.was))

pub returns-in_default-clause-refuses : goal.returns-in_default-clause-refuses
returns-in_default-clause-refuses g c = tt

pub returns-in_default-clause-may : goal.returns-in_default-clause-may
returns-in_default-clause-may g c =
    let ledger = g.S.Store.ledger in
    subst (λ s. MayDo (ledger c.args.store.now) (ledger s)) (sym c.has_already.ensures.same) (may_do-same (ledger c.args.store.now))

pub returns-then-same-clause-makes : goal.returns-then-same-clause-makes
returns-then-same-clause-makes g c =
    let ledger = g.S.Store.ledger in
    let records = g.S.Frozen.records in
    let k = records c.args.store.now in
    let kind = c.args.kind in
    let type = c.args.value_type in
    let D = c.args.roots.documents in
    let I = c.args.roots.dictionary in
    let items = c.args.new.now in
    subst (λ s. MakesField kind type (ledger c.args.store.now) (ledger s) k (records s) D I (with_change (column_at kind type k D) c.args.doc (Some items)) D I)
    (sym c.has_already.ensures.same)
    (same_field kind type (ledger c.args.store.now) k D I c.args.doc c.requires.field c.documents_law.ensures.lawful c.requires.refers items (c.in-Ok.ensures.has.0 c.if-same.true))

pub returns-then-same-clause-may : goal.returns-then-same-clause-may
returns-then-same-clause-may g c =
    let ledger = g.S.Store.ledger in
    subst (λ s. MayDo (ledger c.args.store.now) (ledger s)) (sym c.has_already.ensures.same) (may_do-same (ledger c.args.store.now))

pub returns-in_default-change_weights-clause-refuses : goal.returns-in_default-change_weights-clause-refuses
returns-in_default-change_weights-clause-refuses g c = tt

pub returns-in_default-change_weights-clause-may : goal.returns-in_default-change_weights-clause-may
returns-in_default-change_weights-clause-may g c =
    let ledger = g.S.Store.ledger in
    subst (λ s. MayDo (ledger c.args.store.now) (ledger s)) (sym c.has_already.ensures.same) (may_do-same (ledger c.args.store.now))

pub put_changed-requires : goal.put_changed-requires
put_changed-requires g c =
    let ledger = g.S.Store.ledger in
    let records = g.S.Frozen.records in
    let k = records c.args.store.now in
    let kind = c.args.kind in
    let type = c.args.value_type in
    let D = c.args.roots.documents in
    let I = c.args.roots.dictionary in
    let column = column_at kind type k D in
    let wanted = sym c.wants-wanted.ensures in
    let same = sym c.has_already.ensures.same in (
      omega arith,
      (
        subst (λ s. (ledger s).unit ≡ true) same c.requires.unit,
        (
          subst (λ s. IsField kind type (records s) D I) same c.requires.field,
          (
            subst (λ s. Owns (ledger s) (records s) (field_part kind D I ∷ [])) same c.requires.owns,
            (
              subst (λ s. RefersBeside (ledger s) kind (records s) D I (field_part kind D I ∷ [])) same c.requires.refers,
              (
                subst (λ (b : Bool). IsOfForm b type (records c.has_already.new.frozen) I) wanted (subst (λ s. IsOfForm (wants c.args.dense kind) type (records s) I) same c.requires.form),
                (
                  subst (λ s. c.args.old.now ≡ items_of (column_at kind type (records s) D) c.args.doc) same c.requires.was,
                  (
                    made_by kind column c.args.doc c.args.old.now c.args.new.now c.in-Ok-change_weights.weights c.in-Ok-change_weights.ensures.weights
                        (c.documents_law.ensures.lawful kind type k D c.requires.field.documents_are).2 c.requires.was (λ is. single_items kind c.args.new.now is c.requires.fits.0)
                        (item_apart column c.args.doc c.args.old.now c.args.new.now c.requires.was (λ is. true≢false (sym (c.in-Ok.ensures.has.1 is) ∙ c.if-same.false))),
                    (
                      subst (λ (b : Bool). WeighOnes b (first_weights [] c.args.new.now)) wanted
                          (weigh_ones c.args.dense kind c.args.new.now (first_weights [] c.args.new.now) c.requires.fits.0 refl),
                      c.requires.fits,
                    ),
                  ),
                ),
              ),
            ),
          ),
        ),
      ),
    )

pub returns-in_default-clause-counts : goal.returns-in_default-clause-counts
returns-in_default-clause-counts g c =
    let ledger = g.S.Store.ledger in
    let column = column_at c.args.kind c.args.value_type (g.S.Frozen.records c.args.store.now) c.args.roots.documents in
    let records = change_records c.args.kind column c.args.doc c.args.old.now c.args.new.now in
    let most = besides (by_width (field_nodes (first_weights [] c.args.old.now) (first_weights [] c.args.new.now)) records)
    (change_forms (wants c.args.dense c.args.kind) column c.args.doc c.args.old.now c.args.new.now) in
    subst (λ s. MakesWithin (ledger c.args.store.now) (ledger s) most) (sym c.has_already.ensures.same) (within_none (ledger c.args.store.now) most)

pub returns-then-same-clause-counts : goal.returns-then-same-clause-counts
returns-then-same-clause-counts g c =
    let ledger = g.S.Store.ledger in
    let column = column_at c.args.kind c.args.value_type (g.S.Frozen.records c.args.store.now) c.args.roots.documents in
    let records = change_records c.args.kind column c.args.doc c.args.old.now c.args.new.now in
    let most = besides (by_width (field_nodes (first_weights [] c.args.old.now) (first_weights [] c.args.new.now)) records)
    (change_forms (wants c.args.dense c.args.kind) column c.args.doc c.args.old.now c.args.new.now) in
    subst (λ s. MakesWithin (ledger c.args.store.now) (ledger s) most) (sym c.has_already.ensures.same) (within_none (ledger c.args.store.now) most)

pub returns-in_default-change_weights-clause-counts : goal.returns-in_default-change_weights-clause-counts
returns-in_default-change_weights-clause-counts g c =
    let ledger = g.S.Store.ledger in
    let column = column_at c.args.kind c.args.value_type (g.S.Frozen.records c.args.store.now) c.args.roots.documents in
    let records = change_records c.args.kind column c.args.doc c.args.old.now c.args.new.now in
    let most = besides (by_width (field_nodes (first_weights [] c.args.old.now) (first_weights [] c.args.new.now)) records)
    (change_forms (wants c.args.dense c.args.kind) column c.args.doc c.args.old.now c.args.new.now) in
    subst (λ s. MakesWithin (ledger c.args.store.now) (ledger s) most) (sym c.has_already.ensures.same) (within_none (ledger c.args.store.now) most)

pub returns-in_default-clause-low : goal.returns-in_default-clause-low
returns-in_default-clause-low g c =
    let ledger = g.S.Store.ledger in
    let column = column_at c.args.kind c.args.value_type (g.S.Frozen.records c.args.store.now) c.args.roots.documents in
    let records = change_records c.args.kind column c.args.doc c.args.old.now c.args.new.now in
    λ levels stays.
    let most = besides (by_width (low_nodes levels (first_weights [] c.args.old.now) (first_weights [] c.args.new.now)) records)
    (change_forms (wants c.args.dense c.args.kind) column c.args.doc c.args.old.now c.args.new.now) in
    subst (λ s. MakesWithin (ledger c.args.store.now) (ledger s) most) (sym c.has_already.ensures.same) (within_none (ledger c.args.store.now) most)

pub returns-then-same-clause-low : goal.returns-then-same-clause-low
returns-then-same-clause-low g c =
    let ledger = g.S.Store.ledger in
    let column = column_at c.args.kind c.args.value_type (g.S.Frozen.records c.args.store.now) c.args.roots.documents in
    let records = change_records c.args.kind column c.args.doc c.args.old.now c.args.new.now in
    λ levels stays.
    let most = besides (by_width (low_nodes levels (first_weights [] c.args.old.now) (first_weights [] c.args.new.now)) records)
    (change_forms (wants c.args.dense c.args.kind) column c.args.doc c.args.old.now c.args.new.now) in
    subst (λ s. MakesWithin (ledger c.args.store.now) (ledger s) most) (sym c.has_already.ensures.same) (within_none (ledger c.args.store.now) most)

pub returns-in_default-change_weights-clause-low : goal.returns-in_default-change_weights-clause-low
returns-in_default-change_weights-clause-low g c =
    let ledger = g.S.Store.ledger in
    let column = column_at c.args.kind c.args.value_type (g.S.Frozen.records c.args.store.now) c.args.roots.documents in
    let records = change_records c.args.kind column c.args.doc c.args.old.now c.args.new.now in
    λ levels stays.
    let most = besides (by_width (low_nodes levels (first_weights [] c.args.old.now) (first_weights [] c.args.new.now)) records)
    (change_forms (wants c.args.dense c.args.kind) column c.args.doc c.args.old.now c.args.new.now) in
    subst (λ s. MakesWithin (ledger c.args.store.now) (ledger s) most) (sym c.has_already.ensures.same) (within_none (ledger c.args.store.now) most)

pub returns-in_default-clause-same : goal.returns-in_default-clause-same
returns-in_default-clause-same g c = λ is. c.has_already.ensures.same

pub returns-then-same-clause-same : goal.returns-then-same-clause-same
returns-then-same-clause-same g c = λ is. c.has_already.ensures.same

pub returns-in_default-change_weights-clause-same : goal.returns-in_default-change_weights-clause-same
returns-in_default-change_weights-clause-same g c = λ is. c.has_already.ensures.same

pub returns-then-same-clause-form : goal.returns-then-same-clause-form
returns-then-same-clause-form g c =
    subst (λ s. IsOfForm (wants c.args.dense c.args.kind) c.args.value_type (g.S.Frozen.records s) c.args.roots.dictionary) (sym c.has_already.ensures.same) c.requires.form

pub returns-clause-makes : goal.returns-clause-makes
returns-clause-makes g c =
    let ledger = g.S.Store.ledger in
    let records = g.S.Frozen.records in
    let kind = c.args.kind in
    let type = c.args.value_type in
    let D = c.args.roots.documents in
    let I = c.args.roots.dictionary in
    subst (λ s. IfOk c.put_changed.result (λ (next : FieldRoots g.row.OFFSET_BITS). MakesField kind type (ledger s) (ledger c.put_changed.new.store) (records s) (records c.put_changed.new.store)
    D I (with_change (column_at kind type (records s) D) c.args.doc (Some c.args.new.now)) next.documents next.dictionary))
    c.has_already.ensures.same c.put_changed.ensures.makes

pub returns-clause-refuses : goal.returns-clause-refuses
returns-clause-refuses g c =
    let ledger = g.S.Store.ledger in
    let records = g.S.Frozen.records in
    let kind = c.args.kind in
    let type = c.args.value_type in
    let D = c.args.roots.documents in
    let doc = c.args.doc in
    let items = c.args.new.now in
    let new = ledger c.put_changed.new.store in
    let column = column_at kind type (records c.args.store.now) D in
    subst (λ (b : Bool). IfErr c.put_changed.result (RefusesOf (IsFieldWidth b kind (with_change column doc (Some items)) c.args.old.now items) (ledger c.args.store.now) new)) c.wants-wanted.ensures
    (subst (λ (old : List Item). IfErr c.put_changed.result (RefusesOf (IsFieldWidth c.wants-wanted.result kind (with_change column doc (Some items)) old items) (ledger c.args.store.now) new)) (sym c.requires.was)
    (subst (λ s. IfErr c.put_changed.result (RefusesOf (IsFieldWidth c.wants-wanted.result kind (with_change (column_at kind type (records s) D) doc (Some items)) (items_of (column_at kind type (records s) D) doc) items)
    (ledger s) new)) c.has_already.ensures.same c.put_changed.ensures.refuses))

pub returns-clause-may : goal.returns-clause-may
returns-clause-may g c =
    let ledger = g.S.Store.ledger in
    subst (λ s. MayDo (ledger s) (ledger c.put_changed.new.store)) c.has_already.ensures.same c.put_changed.ensures.may

pub returns-clause-form : goal.returns-clause-form
returns-clause-form g c =
    subst (λ (b : Bool). IfOk c.put_changed.result (λ (next : FieldRoots g.row.OFFSET_BITS). IsOfForm b c.args.value_type (g.S.Frozen.records c.put_changed.new.store) next.dictionary)) c.wants-wanted.ensures
    c.put_changed.ensures.form

pub returns-clause-same : goal.returns-clause-same
returns-clause-same g c = λ is. absurd (true≢false (sym (c.in-Ok.ensures.has.1 is) ∙ c.if-same.false))

pub returns-clause-counts : goal.returns-clause-counts
returns-clause-counts g c =
    let ledger = g.S.Store.ledger in
    let new = ledger c.put_changed.new.store in
    let kind = c.args.kind in
    let first = first_weights [] c.args.old.now in
    let last = first_weights [] c.args.new.now in
    let most = λ (cs : Column) (b : Bool). besides (by_width (field_nodes first last) (field_records kind cs c.args.doc (length c.args.new.now) first last)) (field_forms b cs c.args.doc first last) in
    let records = g.S.Frozen.records in
    let type = c.args.value_type in
    let D = c.args.roots.documents in
    subst (λ (b : Bool). MakesWithin (ledger c.args.store.now) new (most (column_at kind type (records c.args.store.now) D) b)) c.wants-wanted.ensures
    (subst (λ s. MakesWithin (ledger s) new (most (column_at kind type (records s) D) c.wants-wanted.result)) c.has_already.ensures.same c.put_changed.ensures.counts)

pub returns-clause-low : goal.returns-clause-low
returns-clause-low g c =
    let ledger = g.S.Store.ledger in
    let new = ledger c.put_changed.new.store in
    let kind = c.args.kind in
    let first = first_weights [] c.args.old.now in
    let last = first_weights [] c.args.new.now in
    let most = λ (levels : ℕ) (cs : Column) (b : Bool).
    besides (by_width (low_nodes levels first last) (field_records kind cs c.args.doc (length c.args.new.now) first last)) (field_forms b cs c.args.doc first last) in
    let records = g.S.Frozen.records in
    let type = c.args.value_type in
    let D = c.args.roots.documents in
    λ levels stays.
    let here = subst (λ s. StaysLow levels (column_at kind type (records s) D) last) (sym c.has_already.ensures.same) stays in
    subst (λ (b : Bool). MakesWithin (ledger c.args.store.now) new (most levels (column_at kind type (records c.args.store.now) D) b)) c.wants-wanted.ensures
    (subst (λ s. MakesWithin (ledger s) new (most levels (column_at kind type (records s) D) c.wants-wanted.result)) c.has_already.ensures.same (c.put_changed.ensures.low levels here))
