use Rattle.std.proofs.Common.{◌≡◌, ℕ, refl, sym, ap, subst, ◌∙◌, arith, None, Some, inl, rules}
use Rattle.std.proofs.lemmas.Result.{err_from_is_err_and}
use Rattle.std.specs.Prelude.{set, slice_get}
use Rattle.attr_compaction.specs.PhaseKeys.{key_past}
use Rattle.attr_operations.specs.Calls.{KeepsStore, LeavesEntries, RefusesUnit}
use Rattle.attr_operations.specs.Fields.{HoldsAttributes, IsFieldAt, trees_of, trees_of_field}
use Rattle.attr_operations.specs.Views.{table_at}
use Rattle.attr_operations.proofs.StepLemmas.{keeps_same, leaves_same}
use Rattle.attr_operations.proofs.TreeLists.{set_length}
use Rattle.image_format.specs.Documents.{column_at}
use Rattle.attr_operations.proofs.Columns.{column_at_tree}
use Rattle.compaction_moves.specs.Counts.{MakesKey}
use Rattle.compaction_steps.specs.Counts.{MakesKeys}
use Rattle.compaction_steps.proofs.KeyCounts.{key_among, keys_none, keys_plain}
use Rattle.image_format.specs.Tables.{AttributeTrees}
use Rattle.list_lemmas.proofs.Each.{AllByRecursion-slice_get}
use Rattle.value_index.specs.Forms.{IsPlainIndex}
use Rattle.compaction_moves.specs.Steps.{CopiesNone}
use Rattle.compaction_steps.specs.Units.{keys_at, plan_at, ArePlain, CompactsTo, IsUnderWay, KeepKeys}
use Rattle.compaction_steps.proofs.KeyLemmas.{next_fits, same_keys}
use Rattle.compaction_steps.proofs.TurnLemmas.{at_place, below_fields, goes_on, left_all, moved_roots, moved_way, next_is, over_way, past_next}
use Rattle.compaction_steps.proofs.unit.compact_one.Goals as goal

pub overflow_cast-i : goal.overflow_cast-i
overflow_cast-i g c = search rules

pub offset_bounds-fields-i : goal.offset_bounds-fields-i
offset_bounds-fields-i g c = search rules

pub bounds-fields-i : goal.bounds-fields-i
bounds-fields-i g c = below_fields (g.S.Store.ledger c.args.store.now)
    (g.S.Frozen.records c.args.store.now) c.args.fields.now c.args.roots.now c.args.root c.args.plan.now c.field-i.result c.requires.under_way c.requires.sized c.field-i.ensures.below

pub offset_bounds-roots-i : goal.offset_bounds-roots-i
offset_bounds-roots-i g c = search rules

pub bounds-roots-i : goal.bounds-roots-i
bounds-roots-i g c = let sized = c.requires.sized in let below = below_fields (g.S.Store.ledger c.args.store.now)
    (g.S.Frozen.records c.args.store.now) c.args.fields.now c.args.roots.now c.args.root c.args.plan.now c.field-i.result c.requires.under_way sized c.field-i.ensures.below in omega arith

pub next_of-requires : goal.next_of-requires
next_of-requires g c =
    let here = at_place (g.S.Store.ledger c.args.store.now) (g.S.Frozen.records c.args.store.now) c.args.fields.now c.args.roots.now c.args.root c.args.plan.now c.field-i.result
    c.requires.holds c.requires.under_way c.requires.sized c.field-i.ensures.field c.field-i.ensures.below c.index-fields-i.result c.index-roots-i.result c.index-fields-i.is c.index-roots-i.is in
    (omega arith, (here.is_field, (c.requires.phase, here.typed)))

pub returns-in_default-clause-sized : goal.returns-in_default-clause-sized
returns-in_default-clause-sized g c = c.requires.sized

pub returns-in_default-clause-holds : goal.returns-in_default-clause-holds
returns-in_default-clause-holds g c =
    let ledger = g.S.Store.ledger in
    let records = g.S.Frozen.records in
    let fields = c.args.fields.now in
    let trees = trees_of c.args.fields.now c.args.roots.now in
    let same = c.next_of.ensures.same in
    subst (λ s. HoldsAttributes _ (ledger s) (records s) fields trees c.args.root) (sym same) c.requires.holds

pub returns-in_default-clause-table : goal.returns-in_default-clause-table
returns-in_default-clause-table g c =
    let records = g.S.Frozen.records in
    let trees = trees_of c.args.fields.now c.args.roots.now in
    let same = c.next_of.ensures.same in
    ap (λ s. table_at (records s) trees) same

pub returns-in_default-clause-keys : goal.returns-in_default-clause-keys
returns-in_default-clause-keys g c =
    let records = g.S.Frozen.records in
    let m = g.S.Frozen.records c.args.store.now in
    let trees = trees_of c.args.fields.now c.args.roots.now in
    let same = c.next_of.ensures.same in
    subst (λ s. KeepKeys m (records s) trees trees) (sym same) (same_keys m trees)

pub returns-in_default-clause-keeps : goal.returns-in_default-clause-keeps
returns-in_default-clause-keeps g c =
    let ledger = g.S.Store.ledger in
    let old = c.args.store.now in
    let same = c.next_of.ensures.same in
    subst (λ s. KeepsStore (ledger old) (ledger s)) (sym same) (keeps_same (ledger old))

pub returns-in_default-clause-under_way : goal.returns-in_default-clause-under_way
returns-in_default-clause-under_way g c =
    let ledger = g.S.Store.ledger in
    let records = g.S.Frozen.records in
    let trees = trees_of c.args.fields.now c.args.roots.now in
    let same = c.next_of.ensures.same in
    subst (λ s. IsUnderWay _ c.args.root (ledger s) (records s) trees c.args.plan.now) (sym same) c.requires.under_way

pub returns-in_default-clause-roots : goal.returns-in_default-clause-roots
returns-in_default-clause-roots g c = refl

pub returns-in_default-clause-plan : goal.returns-in_default-clause-plan
returns-in_default-clause-plan g c = refl

pub returns-in_default-clause-left : goal.returns-in_default-clause-left
returns-in_default-clause-left g c =
    let ledger = g.S.Store.ledger in
    let records = g.S.Frozen.records in
    let old = c.args.store.now in
    let m = g.S.Frozen.records c.args.store.now in
    let same = c.next_of.ensures.same in
    subst (λ s. LeavesEntries (ledger old) (ledger s) m (records s)) (sym same) (leaves_same (ledger old) m)

pub next-requires-clause-phase : goal.next-requires-clause-phase
next-requires-clause-phase g c = c.requires.phase

pub next-requires-clause-done : goal.next-requires-clause-done
next-requires-clause-done g c = inl refl

pub returns-in_default-next-clause-sized : goal.returns-in_default-next-clause-sized
returns-in_default-next-clause-sized g c = c.requires.sized

pub returns-in_default-next-clause-holds : goal.returns-in_default-next-clause-holds
returns-in_default-next-clause-holds g c =
    let ledger = g.S.Store.ledger in
    let records = g.S.Frozen.records in
    let fields = c.args.fields.now in
    let trees = trees_of c.args.fields.now c.args.roots.now in
    let same = c.next_of.ensures.same in
    subst (λ s. HoldsAttributes _ (ledger s) (records s) fields trees c.args.root) (sym same) c.requires.holds

pub returns-in_default-next-clause-table : goal.returns-in_default-next-clause-table
returns-in_default-next-clause-table g c =
    let records = g.S.Frozen.records in
    let trees = trees_of c.args.fields.now c.args.roots.now in
    let same = c.next_of.ensures.same in
    ap (λ s. table_at (records s) trees) same

pub returns-in_default-next-clause-keys : goal.returns-in_default-next-clause-keys
returns-in_default-next-clause-keys g c =
    let records = g.S.Frozen.records in
    let m = g.S.Frozen.records c.args.store.now in
    let trees = trees_of c.args.fields.now c.args.roots.now in
    let same = c.next_of.ensures.same in
    subst (λ s. KeepKeys m (records s) trees trees) (sym same) (same_keys m trees)

pub returns-in_default-next-clause-keeps : goal.returns-in_default-next-clause-keeps
returns-in_default-next-clause-keeps g c =
    let ledger = g.S.Store.ledger in
    let old = c.args.store.now in
    let same = c.next_of.ensures.same in
    subst (λ s. KeepsStore (ledger old) (ledger s)) (sym same) (keeps_same (ledger old))

pub returns-in_default-next-clause-under_way : goal.returns-in_default-next-clause-under_way
returns-in_default-next-clause-under_way g c =
    let ledger = g.S.Store.ledger in
    let records = g.S.Frozen.records in
    let old = c.args.store.now in
    let m = g.S.Frozen.records c.args.store.now in
    let trees = trees_of c.args.fields.now c.args.roots.now in
    let plan = c.args.plan.now in
    let a = trees_of_field c.index-fields-i.result c.index-roots-i.result in
    let same = c.next_of.ensures.same in
    let here = at_place (g.S.Store.ledger c.args.store.now) (g.S.Frozen.records c.args.store.now) c.args.fields.now c.args.roots.now c.args.root c.args.plan.now c.field-i.result
    c.requires.holds c.requires.under_way c.requires.sized c.field-i.ensures.field c.field-i.ensures.below c.index-fields-i.result c.index-roots-i.result c.index-fields-i.is c.index-roots-i.is in
    let none = sym c.in_default-next.is ∙ c.in-Ok.ensures.next in
    subst (λ s. IsUnderWay _ c.args.root (ledger s) (records s) trees c.next.new.self) (sym same)
    (over_way c.stage_law.ensures.phase _ c.args.root (ledger old) m trees plan c.next.new.self a c.requires.under_way c.requires.holds.are_fields.each c.requires.phase here.at none c.next.ensures.victim c.next.ensures.fields
    c.next.ensures.place c.next.ensures.copied)

pub returns-in_default-next-clause-goes_on : goal.returns-in_default-next-clause-goes_on
returns-in_default-next-clause-goes_on g c =
    let m = g.S.Frozen.records c.args.store.now in
    let trees = trees_of c.args.fields.now c.args.roots.now in
    let plan = c.args.plan.now in
    let a = trees_of_field c.index-fields-i.result c.index-roots-i.result in
    let here = at_place (g.S.Store.ledger c.args.store.now) (g.S.Frozen.records c.args.store.now) c.args.fields.now c.args.roots.now c.args.root c.args.plan.now c.field-i.result
    c.requires.holds c.requires.under_way c.requires.sized c.field-i.ensures.field c.field-i.ensures.below c.index-fields-i.result c.index-roots-i.result c.index-fields-i.is c.index-roots-i.is in
    let none = sym c.in_default-next.is ∙ c.in-Ok.ensures.next in
    goes_on m trees plan c.next.new.self None (next_is m trees plan.place a None here.at none) c.next.ensures.victim c.next.ensures.fields c.next.ensures.place c.next.ensures.rises

pub returns-in_default-next-clause-over : goal.returns-in_default-next-clause-over
returns-in_default-next-clause-over g c = (c.next_of.ensures.same, refl)

pub copies_record-copies-requires : goal.copies_record-copies-requires
copies_record-copies-requires g c =
    let records = g.S.Frozen.records in
    let m = records c.args.store.now in
    let a = trees_of_field c.index-fields-i.result c.index-roots-i.result in
    let plan = c.args.plan.now in
    let same = c.next_of.ensures.same in
    let here = at_place (g.S.Store.ledger c.args.store.now) m c.args.fields.now c.args.roots.now c.args.root plan c.field-i.result
    c.requires.holds c.requires.under_way c.requires.sized c.field-i.ensures.field c.field-i.ensures.below c.index-fields-i.result c.index-roots-i.result c.index-fields-i.is c.index-roots-i.is in
    let some = sym c.in-Some.is ∙ c.in-Ok.ensures.next in
    (omega arith, (subst (λ s. IsFieldAt (records s) a) (sym same) here.is_field, (next_fits m a plan.place c.in-Some.key c.requires.phase (sym some)).0))

pub move_unit-requires : goal.move_unit-requires
move_unit-requires g c =
    let ledger = g.S.Store.ledger in
    let records = g.S.Frozen.records in
    let fields = c.args.fields.now in
    let trees = trees_of c.args.fields.now c.args.roots.now in
    let plan = c.args.plan.now in
    let a = trees_of_field c.index-fields-i.result c.index-roots-i.result in
    let same = c.copies_record-copies.ensures.same ∙ c.next_of.ensures.same in
    let here = at_place (g.S.Store.ledger c.args.store.now) (g.S.Frozen.records c.args.store.now) c.args.fields.now c.args.roots.now c.args.root c.args.plan.now c.field-i.result
    c.requires.holds c.requires.under_way c.requires.sized c.field-i.ensures.field c.field-i.ensures.below c.index-fields-i.result c.index-roots-i.result c.index-fields-i.is c.index-roots-i.is in
    let some = sym c.in-Some.is ∙ c.in-Ok.ensures.next in (
      omega arith,
      (
        omega arith,
        (
          subst (λ s. HoldsAttributes _ (ledger s) (records s) fields trees c.args.root) (sym same) c.requires.holds,
          (
            subst (λ s. IsUnderWay _ c.args.root (ledger s) (records s) trees plan) (sym same) c.requires.under_way,
            (c.requires.phase, (here.at, subst (λ s. key_past plan.place.key (keys_at (records s) a plan.place.stage.phase) ≡ Some c.in-Some.key) (sym same) (sym some))),
          ),
        ),
      ),
    )

pub returns-in_err-roots-clause-sized : goal.returns-in_err-roots-clause-sized
returns-in_err-roots-clause-sized g c = c.requires.sized

pub returns-in_err-roots-clause-holds : goal.returns-in_err-roots-clause-holds
returns-in_err-roots-clause-holds g c =
    let ledger = g.S.Store.ledger in
    let records = g.S.Frozen.records in
    let old = c.args.store.now in
    let m = g.S.Frozen.records c.args.store.now in
    let fields = c.args.fields.now in
    let trees = trees_of c.args.fields.now c.args.roots.now in
    let plan = c.args.plan.now in
    let same = c.copies_record-copies.ensures.same ∙ c.next_of.ensures.same in
    let left = left_all _ (ledger old) (ledger c.move_unit.new.store) m (records c.move_unit.new.store) fields trees c.args.root plan c.requires.holds c.requires.under_way
    (subst (λ s. LeavesEntries (ledger s) (ledger c.move_unit.new.store) (records s) (records c.move_unit.new.store)) same c.in_err-roots.ensures.left)
    (subst (λ s. KeepsStore (ledger s) (ledger c.move_unit.new.store)) same c.move_unit.ensures.keeps) in
    left.holds

pub returns-in_err-roots-clause-under_way : goal.returns-in_err-roots-clause-under_way
returns-in_err-roots-clause-under_way g c =
    let ledger = g.S.Store.ledger in
    let records = g.S.Frozen.records in
    let old = c.args.store.now in
    let m = g.S.Frozen.records c.args.store.now in
    let fields = c.args.fields.now in
    let trees = trees_of c.args.fields.now c.args.roots.now in
    let plan = c.args.plan.now in
    let same = c.copies_record-copies.ensures.same ∙ c.next_of.ensures.same in
    let left = left_all _ (ledger old) (ledger c.move_unit.new.store) m (records c.move_unit.new.store) fields trees c.args.root plan c.requires.holds c.requires.under_way
    (subst (λ s. LeavesEntries (ledger s) (ledger c.move_unit.new.store) (records s) (records c.move_unit.new.store)) same c.in_err-roots.ensures.left)
    (subst (λ s. KeepsStore (ledger s) (ledger c.move_unit.new.store)) same c.move_unit.ensures.keeps) in
    left.under_way

pub returns-in_err-roots-clause-table : goal.returns-in_err-roots-clause-table
returns-in_err-roots-clause-table g c =
    let ledger = g.S.Store.ledger in
    let records = g.S.Frozen.records in
    let old = c.args.store.now in
    let m = g.S.Frozen.records c.args.store.now in
    let fields = c.args.fields.now in
    let trees = trees_of c.args.fields.now c.args.roots.now in
    let plan = c.args.plan.now in
    let same = c.copies_record-copies.ensures.same ∙ c.next_of.ensures.same in
    let left = left_all _ (ledger old) (ledger c.move_unit.new.store) m (records c.move_unit.new.store) fields trees c.args.root plan c.requires.holds c.requires.under_way
    (subst (λ s. LeavesEntries (ledger s) (ledger c.move_unit.new.store) (records s) (records c.move_unit.new.store)) same c.in_err-roots.ensures.left)
    (subst (λ s. KeepsStore (ledger s) (ledger c.move_unit.new.store)) same c.move_unit.ensures.keeps) in
    left.table

pub returns-in_err-roots-clause-keys : goal.returns-in_err-roots-clause-keys
returns-in_err-roots-clause-keys g c =
    let ledger = g.S.Store.ledger in
    let records = g.S.Frozen.records in
    let old = c.args.store.now in
    let m = g.S.Frozen.records c.args.store.now in
    let fields = c.args.fields.now in
    let trees = trees_of c.args.fields.now c.args.roots.now in
    let plan = c.args.plan.now in
    let same = c.copies_record-copies.ensures.same ∙ c.next_of.ensures.same in
    let left = left_all _ (ledger old) (ledger c.move_unit.new.store) m (records c.move_unit.new.store) fields trees c.args.root plan c.requires.holds c.requires.under_way
    (subst (λ s. LeavesEntries (ledger s) (ledger c.move_unit.new.store) (records s) (records c.move_unit.new.store)) same c.in_err-roots.ensures.left)
    (subst (λ s. KeepsStore (ledger s) (ledger c.move_unit.new.store)) same c.move_unit.ensures.keeps) in
    left.keys

pub returns-in_err-roots-clause-goes_on : goal.returns-in_err-roots-clause-goes_on
returns-in_err-roots-clause-goes_on g c =
    let p = err_from_is_err_and c.from_residual.result c.from_residual.ensures.1 in
    rw p.1 tt

pub returns-in_err-roots-clause-over : goal.returns-in_err-roots-clause-over
returns-in_err-roots-clause-over g c =
    let p = err_from_is_err_and c.from_residual.result c.from_residual.ensures.1 in
    rw p.1 tt

pub returns-in_err-roots-clause-roots : goal.returns-in_err-roots-clause-roots
returns-in_err-roots-clause-roots g c =
    let p = err_from_is_err_and c.from_residual.result c.from_residual.ensures.1 in
    rw p.1 refl

pub returns-in_err-roots-clause-plan : goal.returns-in_err-roots-clause-plan
returns-in_err-roots-clause-plan g c =
    let p = err_from_is_err_and c.from_residual.result c.from_residual.ensures.1 in
    rw p.1 refl

pub returns-in_err-roots-clause-left : goal.returns-in_err-roots-clause-left
returns-in_err-roots-clause-left g c =
    let ledger = g.S.Store.ledger in
    let records = g.S.Frozen.records in
    let same = c.copies_record-copies.ensures.same ∙ c.next_of.ensures.same in
    let p = err_from_is_err_and c.from_residual.result c.from_residual.ensures.1 in
    rw p.1 (subst (λ s. LeavesEntries (ledger s) (ledger c.move_unit.new.store) (records s) (records c.move_unit.new.store)) same c.in_err-roots.ensures.left)

pub returns-in_err-roots-clause-refused : goal.returns-in_err-roots-clause-refused
returns-in_err-roots-clause-refused g c =
    let ledger = g.S.Store.ledger in
    let same = c.copies_record-copies.ensures.same ∙ c.next_of.ensures.same in
    let p = err_from_is_err_and c.from_residual.result c.from_residual.ensures.1 in
    rw (p.1, p.2) (subst (λ s. RefusesUnit (ledger s) (ledger c.move_unit.new.store) c.in_err-roots.field-0.0) same c.in_err-roots.ensures.refused)

pub returns-in_err-roots-clause-spares : goal.returns-in_err-roots-clause-spares
returns-in_err-roots-clause-spares g c =
    let p = err_from_is_err_and c.from_residual.result c.from_residual.ensures.1 in
    rw (p.1, p.2) c.in_err-roots.ensures.spares

pub returns-in_err-roots-clause-active : goal.returns-in_err-roots-clause-active
returns-in_err-roots-clause-active g c =
    let p = err_from_is_err_and c.from_residual.result c.from_residual.ensures.1 in
    rw (p.1, p.2) c.in_err-roots.ensures.active

pub returns-in_err-roots-clause-keeps : goal.returns-in_err-roots-clause-keeps
returns-in_err-roots-clause-keeps g c =
    let ledger = g.S.Store.ledger in
    let same = c.copies_record-copies.ensures.same ∙ c.next_of.ensures.same in
    subst (λ s. KeepsStore (ledger s) (ledger c.move_unit.new.store)) same c.move_unit.ensures.keeps

pub offset_bounds-roots-i-2 : goal.offset_bounds-roots-i-2
offset_bounds-roots-i-2 g c = search rules

pub bounds-roots-i-2 : goal.bounds-roots-i-2
bounds-roots-i-2 g c = let sized = c.requires.sized in let below =
    below_fields (g.S.Store.ledger c.args.store.now) (g.S.Frozen.records c.args.store.now) c.args.fields.now c.args.roots.now c.args.root c.args.plan.now c.field-i.result c.requires.under_way sized
    c.field-i.ensures.below in omega arith

pub next-requires-2-clause-phase : goal.next-requires-2-clause-phase
next-requires-2-clause-phase g c = c.requires.phase

pub next-requires-2-clause-done : goal.next-requires-2-clause-done
next-requires-2-clause-done g c =
    let m = g.S.Frozen.records c.args.store.now in
    let a = trees_of_field c.index-fields-i.result c.index-roots-i.result in
    let some = sym c.in-Some.is ∙ c.in-Ok.ensures.next in
    past_next m a c.args.plan.now.place c.in-Some.key c.requires.phase some

pub returns-clause-sized : goal.returns-clause-sized
returns-clause-sized g c = set_length c.args.roots.now c.field-i.result c.in_ok-roots.field-0 ∙ c.requires.sized

pub returns-clause-holds : goal.returns-clause-holds
returns-clause-holds g c =
    let ledger = g.S.Store.ledger in
    let records = g.S.Frozen.records in
    let m = g.S.Frozen.records c.args.store.now in
    let fields = c.args.fields.now in
    let roots = c.args.roots.now in
    let trees = trees_of c.args.fields.now c.args.roots.now in
    let plan = c.args.plan.now in
    let a = trees_of_field c.index-fields-i.result c.index-roots-i.result in
    let same = c.copies_record-copies.ensures.same ∙ c.next_of.ensures.same in
    let here = at_place (g.S.Store.ledger c.args.store.now) (g.S.Frozen.records c.args.store.now) c.args.fields.now c.args.roots.now c.args.root c.args.plan.now c.field-i.result
    c.requires.holds c.requires.under_way c.requires.sized c.field-i.ensures.field c.field-i.ensures.below c.index-fields-i.result c.index-roots-i.result c.index-fields-i.is c.index-roots-i.is in
    let some = sym c.in-Some.is ∙ c.in-Ok.ensures.next in
    let all = moved_way _ (ledger c.move_unit.new.store) m (records c.move_unit.new.store) fields trees
    (trees_of fields (set roots c.field-i.result c.in_ok-roots.field-0)) c.args.root plan c.next-2.new.self c.copies_record-copies.result c.in-Some.key
    (moved_roots (ledger c.move_unit.new.store) m (records c.move_unit.new.store) fields roots trees c.args.root
    (plan_at plan c.copies_record-copies.result c.in-Some.key) c.field-i.result plan.place.stage.field c.index-fields-i.result c.in_ok-roots.field-0
    c.field-i.ensures.field here.at_field
    (subst (λ s. CompactsTo _ (ledger c.move_unit.new.store) (records s) (records c.move_unit.new.store) fields trees
    (set trees plan.place.stage.field (trees_of_field c.index-fields-i.result c.in_ok-roots.field-0)) c.args.root (plan_at plan c.copies_record-copies.result c.in-Some.key)) same (c.in_ok-roots.ensures.moves c.copies_record-copies.result
    (λ is. subst (λ s. CopiesNone g.row.OFFSET_BITS (records s) a plan c.in-Some.key) (sym c.copies_record-copies.ensures.same) (c.copies_record-copies.ensures.none is)))))
    (next_fits m a plan.place c.in-Some.key c.requires.phase (sym some)).1 c.next-2.ensures.victim c.next-2.ensures.fields c.next-2.ensures.place c.next-2.ensures.copied in
    all.holds

pub returns-clause-under_way : goal.returns-clause-under_way
returns-clause-under_way g c =
    let ledger = g.S.Store.ledger in
    let records = g.S.Frozen.records in
    let m = g.S.Frozen.records c.args.store.now in
    let fields = c.args.fields.now in
    let roots = c.args.roots.now in
    let trees = trees_of c.args.fields.now c.args.roots.now in
    let plan = c.args.plan.now in
    let a = trees_of_field c.index-fields-i.result c.index-roots-i.result in
    let same = c.copies_record-copies.ensures.same ∙ c.next_of.ensures.same in
    let here = at_place (g.S.Store.ledger c.args.store.now) (g.S.Frozen.records c.args.store.now) c.args.fields.now c.args.roots.now c.args.root c.args.plan.now c.field-i.result
    c.requires.holds c.requires.under_way c.requires.sized c.field-i.ensures.field c.field-i.ensures.below c.index-fields-i.result c.index-roots-i.result c.index-fields-i.is c.index-roots-i.is in
    let some = sym c.in-Some.is ∙ c.in-Ok.ensures.next in
    let all = moved_way _ (ledger c.move_unit.new.store) m (records c.move_unit.new.store) fields trees
    (trees_of fields (set roots c.field-i.result c.in_ok-roots.field-0)) c.args.root plan c.next-2.new.self c.copies_record-copies.result c.in-Some.key
    (moved_roots (ledger c.move_unit.new.store) m (records c.move_unit.new.store) fields roots trees c.args.root
    (plan_at plan c.copies_record-copies.result c.in-Some.key) c.field-i.result plan.place.stage.field c.index-fields-i.result c.in_ok-roots.field-0
    c.field-i.ensures.field here.at_field
    (subst (λ s. CompactsTo _ (ledger c.move_unit.new.store) (records s) (records c.move_unit.new.store) fields trees
    (set trees plan.place.stage.field (trees_of_field c.index-fields-i.result c.in_ok-roots.field-0)) c.args.root (plan_at plan c.copies_record-copies.result c.in-Some.key)) same (c.in_ok-roots.ensures.moves c.copies_record-copies.result
    (λ is. subst (λ s. CopiesNone g.row.OFFSET_BITS (records s) a plan c.in-Some.key) (sym c.copies_record-copies.ensures.same) (c.copies_record-copies.ensures.none is)))))
    (next_fits m a plan.place c.in-Some.key c.requires.phase (sym some)).1 c.next-2.ensures.victim c.next-2.ensures.fields c.next-2.ensures.place c.next-2.ensures.copied in
    all.under_way

pub returns-clause-table : goal.returns-clause-table
returns-clause-table g c =
    let ledger = g.S.Store.ledger in
    let records = g.S.Frozen.records in
    let m = g.S.Frozen.records c.args.store.now in
    let fields = c.args.fields.now in
    let roots = c.args.roots.now in
    let trees = trees_of c.args.fields.now c.args.roots.now in
    let plan = c.args.plan.now in
    let a = trees_of_field c.index-fields-i.result c.index-roots-i.result in
    let same = c.copies_record-copies.ensures.same ∙ c.next_of.ensures.same in
    let here = at_place (g.S.Store.ledger c.args.store.now) (g.S.Frozen.records c.args.store.now) c.args.fields.now c.args.roots.now c.args.root c.args.plan.now c.field-i.result
    c.requires.holds c.requires.under_way c.requires.sized c.field-i.ensures.field c.field-i.ensures.below c.index-fields-i.result c.index-roots-i.result c.index-fields-i.is c.index-roots-i.is in
    let some = sym c.in-Some.is ∙ c.in-Ok.ensures.next in
    let all = moved_way _ (ledger c.move_unit.new.store) m (records c.move_unit.new.store) fields trees
    (trees_of fields (set roots c.field-i.result c.in_ok-roots.field-0)) c.args.root plan c.next-2.new.self c.copies_record-copies.result c.in-Some.key
    (moved_roots (ledger c.move_unit.new.store) m (records c.move_unit.new.store) fields roots trees c.args.root
    (plan_at plan c.copies_record-copies.result c.in-Some.key) c.field-i.result plan.place.stage.field c.index-fields-i.result c.in_ok-roots.field-0
    c.field-i.ensures.field here.at_field
    (subst (λ s. CompactsTo _ (ledger c.move_unit.new.store) (records s) (records c.move_unit.new.store) fields trees
    (set trees plan.place.stage.field (trees_of_field c.index-fields-i.result c.in_ok-roots.field-0)) c.args.root (plan_at plan c.copies_record-copies.result c.in-Some.key)) same (c.in_ok-roots.ensures.moves c.copies_record-copies.result
    (λ is. subst (λ s. CopiesNone g.row.OFFSET_BITS (records s) a plan c.in-Some.key) (sym c.copies_record-copies.ensures.same) (c.copies_record-copies.ensures.none is)))))
    (next_fits m a plan.place c.in-Some.key c.requires.phase (sym some)).1 c.next-2.ensures.victim c.next-2.ensures.fields c.next-2.ensures.place c.next-2.ensures.copied in
    all.table

pub returns-clause-keys : goal.returns-clause-keys
returns-clause-keys g c =
    let ledger = g.S.Store.ledger in
    let records = g.S.Frozen.records in
    let m = g.S.Frozen.records c.args.store.now in
    let fields = c.args.fields.now in
    let roots = c.args.roots.now in
    let trees = trees_of c.args.fields.now c.args.roots.now in
    let plan = c.args.plan.now in
    let a = trees_of_field c.index-fields-i.result c.index-roots-i.result in
    let same = c.copies_record-copies.ensures.same ∙ c.next_of.ensures.same in
    let here = at_place (g.S.Store.ledger c.args.store.now) (g.S.Frozen.records c.args.store.now) c.args.fields.now c.args.roots.now c.args.root c.args.plan.now c.field-i.result
    c.requires.holds c.requires.under_way c.requires.sized c.field-i.ensures.field c.field-i.ensures.below c.index-fields-i.result c.index-roots-i.result c.index-fields-i.is c.index-roots-i.is in
    let some = sym c.in-Some.is ∙ c.in-Ok.ensures.next in
    let all = moved_way _ (ledger c.move_unit.new.store) m (records c.move_unit.new.store) fields trees
    (trees_of fields (set roots c.field-i.result c.in_ok-roots.field-0)) c.args.root plan c.next-2.new.self c.copies_record-copies.result c.in-Some.key
    (moved_roots (ledger c.move_unit.new.store) m (records c.move_unit.new.store) fields roots trees c.args.root
    (plan_at plan c.copies_record-copies.result c.in-Some.key) c.field-i.result plan.place.stage.field c.index-fields-i.result c.in_ok-roots.field-0
    c.field-i.ensures.field here.at_field
    (subst (λ s. CompactsTo _ (ledger c.move_unit.new.store) (records s) (records c.move_unit.new.store) fields trees
    (set trees plan.place.stage.field (trees_of_field c.index-fields-i.result c.in_ok-roots.field-0)) c.args.root (plan_at plan c.copies_record-copies.result c.in-Some.key)) same (c.in_ok-roots.ensures.moves c.copies_record-copies.result
    (λ is. subst (λ s. CopiesNone g.row.OFFSET_BITS (records s) a plan c.in-Some.key) (sym c.copies_record-copies.ensures.same) (c.copies_record-copies.ensures.none is)))))
    (next_fits m a plan.place c.in-Some.key c.requires.phase (sym some)).1 c.next-2.ensures.victim c.next-2.ensures.fields c.next-2.ensures.place c.next-2.ensures.copied in
    all.keys

pub returns-clause-goes_on : goal.returns-clause-goes_on
returns-clause-goes_on g c =
    let m = g.S.Frozen.records c.args.store.now in
    let trees = trees_of c.args.fields.now c.args.roots.now in
    let plan = c.args.plan.now in
    let a = trees_of_field c.index-fields-i.result c.index-roots-i.result in
    let here = at_place (g.S.Store.ledger c.args.store.now) (g.S.Frozen.records c.args.store.now) c.args.fields.now c.args.roots.now c.args.root c.args.plan.now c.field-i.result
    c.requires.holds c.requires.under_way c.requires.sized c.field-i.ensures.field c.field-i.ensures.below c.index-fields-i.result c.index-roots-i.result c.index-fields-i.is c.index-roots-i.is in
    let some = sym c.in-Some.is ∙ c.in-Ok.ensures.next in
    goes_on m trees plan c.next-2.new.self (Some c.in-Some.key) (next_is m trees plan.place a (Some c.in-Some.key) here.at some) c.next-2.ensures.victim c.next-2.ensures.fields c.next-2.ensures.place
    c.next-2.ensures.rises

pub returns-clause-keeps : goal.returns-clause-keeps
returns-clause-keeps g c =
    let ledger = g.S.Store.ledger in
    let same = c.copies_record-copies.ensures.same ∙ c.next_of.ensures.same in
    subst (λ s. KeepsStore (ledger s) (ledger c.move_unit.new.store)) same c.move_unit.ensures.keeps

pub returns-in_default-clause-counts : goal.returns-in_default-clause-counts
returns-in_default-clause-counts g c =
    let ledger = g.S.Store.ledger in
    let old = c.args.store.now in
    let fields = c.args.fields.now in
    let table = table_at (g.S.Frozen.records old) (trees_of fields c.args.roots.now) in
    subst (λ s. MakesKeys (ArePlain (g.S.Frozen.records old) (trees_of fields c.args.roots.now)) fields table (ledger old) (ledger s) 1) (sym c.next_of.ensures.same) (keys_none fields table (ledger old) 1)

pub returns-in_default-next-clause-counts : goal.returns-in_default-next-clause-counts
returns-in_default-next-clause-counts g c =
    let ledger = g.S.Store.ledger in
    let old = c.args.store.now in
    let fields = c.args.fields.now in
    let table = table_at (g.S.Frozen.records old) (trees_of fields c.args.roots.now) in
    subst (λ s. MakesKeys (ArePlain (g.S.Frozen.records old) (trees_of fields c.args.roots.now)) fields table (ledger old) (ledger s) 1) (sym c.next_of.ensures.same) (keys_none fields table (ledger old) 1)

pub returns-in_err-roots-clause-counts : goal.returns-in_err-roots-clause-counts
returns-in_err-roots-clause-counts g c =
    let ledger = g.S.Store.ledger in
    let records = g.S.Frozen.records in
    let m = records c.args.store.now in
    let fields = c.args.fields.now in
    let trees = trees_of fields c.args.roots.now in
    let plan = c.args.plan.now in
    let field = c.index-fields-i.result in
    let a = trees_of_field field c.index-roots-i.result in
    let here = at_place (ledger c.args.store.now) m fields c.args.roots.now c.args.root plan c.field-i.result
    c.requires.holds c.requires.under_way c.requires.sized c.field-i.ensures.field c.field-i.ensures.below field c.index-roots-i.result c.index-fields-i.is c.index-roots-i.is in
    let below = below_fields (ledger c.args.store.now) m fields c.args.roots.now c.args.root plan c.field-i.result c.requires.under_way c.requires.sized c.field-i.ensures.below in
    let reads = column_at_tree m trees c.field-i.result a c.requires.holds.are_fields.documents
    (subst (λ (j : ℕ). slice_get trees j ≡ Some a) (sym c.field-i.ensures.field) here.at) in
    let at : slice_get trees c.field-i.result ≡ Some a = subst (λ (j : ℕ). slice_get trees j ≡ Some a) (sym c.field-i.ensures.field) here.at in
    keys_plain fields (table_at m trees) (ledger c.args.store.now) (ledger c.move_unit.new.store) 1
    (λ plain. AllByRecursion-slice_get (λ (x : AttributeTrees). IsPlainIndex m x.dictionary) trees c.field-i.result a plain at)
    (key_among fields (table_at m trees) c.field-i.result field (column_at field.kind field.value m a.documents) (ledger c.args.store.now) (ledger c.move_unit.new.store)
    here.at_field below reads
    (subst (λ s. MakesKey (IsPlainIndex (records s) a.dictionary) field.kind field.value (column_at field.kind field.value (records s) a.documents) (ledger s) (ledger c.move_unit.new.store))
    (c.copies_record-copies.ensures.same ∙ c.next_of.ensures.same) c.move_unit.ensures.counts))

pub returns-clause-counts : goal.returns-clause-counts
returns-clause-counts g c =
    let ledger = g.S.Store.ledger in
    let records = g.S.Frozen.records in
    let m = records c.args.store.now in
    let fields = c.args.fields.now in
    let trees = trees_of fields c.args.roots.now in
    let plan = c.args.plan.now in
    let field = c.index-fields-i.result in
    let a = trees_of_field field c.index-roots-i.result in
    let here = at_place (ledger c.args.store.now) m fields c.args.roots.now c.args.root plan c.field-i.result
    c.requires.holds c.requires.under_way c.requires.sized c.field-i.ensures.field c.field-i.ensures.below field c.index-roots-i.result c.index-fields-i.is c.index-roots-i.is in
    let below = below_fields (ledger c.args.store.now) m fields c.args.roots.now c.args.root plan c.field-i.result c.requires.under_way c.requires.sized c.field-i.ensures.below in
    let reads = column_at_tree m trees c.field-i.result a c.requires.holds.are_fields.documents
    (subst (λ (j : ℕ). slice_get trees j ≡ Some a) (sym c.field-i.ensures.field) here.at) in
    let at : slice_get trees c.field-i.result ≡ Some a = subst (λ (j : ℕ). slice_get trees j ≡ Some a) (sym c.field-i.ensures.field) here.at in
    keys_plain fields (table_at m trees) (ledger c.args.store.now) (ledger c.move_unit.new.store) 1
    (λ plain. AllByRecursion-slice_get (λ (x : AttributeTrees). IsPlainIndex m x.dictionary) trees c.field-i.result a plain at)
    (key_among fields (table_at m trees) c.field-i.result field (column_at field.kind field.value m a.documents) (ledger c.args.store.now) (ledger c.move_unit.new.store)
    here.at_field below reads
    (subst (λ s. MakesKey (IsPlainIndex (records s) a.dictionary) field.kind field.value (column_at field.kind field.value (records s) a.documents) (ledger s) (ledger c.move_unit.new.store))
    (c.copies_record-copies.ensures.same ∙ c.next_of.ensures.same) c.move_unit.ensures.counts))
