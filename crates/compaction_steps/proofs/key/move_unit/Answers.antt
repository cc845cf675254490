use Rattle.std.proofs.Common.{◌≡◌, ◌||◌, refl, Some, sym, ap, subst, ◌∙◌, arith}
use Rattle.entry_ref.specs.Records.{Records}
use Rattle.store_api.specs.Calls.{IsUsedWidth, RefusesOf}
use Rattle.store_api.specs.Units.{MayDo}
use Rattle.attr_compaction.specs.PhaseKeys.{key_past}
use Rattle.attr_operations.specs.Fields.{trees_of, trees_of_field}
use Rattle.attr_operations.proofs.FieldSteps.{laws_of}
use Rattle.attr_operations.proofs.Units.{left_unit, refused_among, keeps_unit, none_left_accepted, none_left_undone}
use Rattle.image_format.specs.Documents.{column_at}
use Rattle.compaction_moves.specs.Counts.{MakesKey}
use Rattle.value_index.specs.Forms.{IsPlainIndex}
use Rattle.compaction_moves.specs.Steps.{CopiesNone}
use Rattle.compaction_steps.specs.Units.{keys_at}
use Rattle.compaction_steps.proofs.KeyCounts.{key_unit}
use Rattle.compaction_steps.proofs.UnitSteps.{active_begun, meets_begun, part_begun, or_left, or_right, spares_begun, unit_compacts}
use Rattle.compaction_steps.proofs.key.move_unit.Goals as goal

pub begin-requires : goal.begin-requires
begin-requires g c = c.requires.holds.unit

pub move_one-requires : goal.move_one-requires
move_one-requires g c =
    let ledger = g.S.Store.ledger in
    let records = g.S.Frozen.records in
    let a = trees_of_field c.args.field.now c.args.own in
    let meets = meets_begun _ (ledger c.args.store.now) (records c.args.store.now) c.args.fields.now (trees_of c.args.fields.now c.args.roots.now) c.args.root c.args.plan.now a
    c.requires.holds c.requires.under_way c.requires.at (g.met.S.Store.settled c.args.store.now c.requires.holds.unit)
    (ledger c.begin.new.self) (records c.begin.new.self) c.begin.ensures.ledger c.begin.ensures.records in
    let next = subst (λ (f : Records). key_past c.args.plan.now.place.key (keys_at f a c.args.plan.now.place.stage.phase) ≡ Some c.args.key.now) (sym c.begin.ensures.records) c.requires.next in
    (omega arith, (meets.unit, (meets.begun, (meets.sealed, (c.requires.phase, (meets.field, (meets.owns, (meets.refers, (next, meets.cleared)))))))))

pub accept-requires : goal.accept-requires
accept-requires g c = c.move_one.ensures.may.unit ∙ ap (λ l. l.unit) c.begin.ensures.ledger

pub undo-requires : goal.undo-requires
undo-requires g c = c.move_one.ensures.may.unit ∙ ap (λ l. l.unit) c.begin.ensures.ledger

pub returns-in-Ok-clause-moves : goal.returns-in-Ok-clause-moves
returns-in-Ok-clause-moves g c =
    let ledger = g.S.Store.ledger in
    let records = g.S.Frozen.records in
    let old = ledger c.args.store.now in
    let mid = ledger c.move_one.new.store in
    let new = ledger c.accept.new.self in
    let a = trees_of_field c.args.field.now c.args.own in
    let b = trees_of_field c.args.field.now c.in-Ok.next in
    let meets = meets_begun _ old (records c.args.store.now) c.args.fields.now (trees_of c.args.fields.now c.args.roots.now) c.args.root c.args.plan.now a
    c.requires.holds c.requires.under_way c.requires.at (g.met.S.Store.settled c.args.store.now c.requires.holds.unit)
    (ledger c.begin.new.self) (records c.begin.new.self) c.begin.ensures.ledger c.begin.ensures.records in
    let may = subst (λ l. MayDo l mid) c.begin.ensures.ledger c.move_one.ensures.may in
    let left = none_left_accepted old mid new (records c.args.store.now) (records c.move_one.new.store) (records c.accept.new.self)
    (g.met.S.Store.settled c.args.store.now c.requires.holds.unit) may (g.met.S.Store.left_stays c.move_one.new.store) c.accept.ensures in
    let keeps = keeps_unit old mid new c.requires.holds.unit may c.accept.ensures.unit c.accept.ensures.work c.accept.ensures.shape c.accept.ensures.sealed c.accept.ensures.finished left in
    λ copies none. unit_compacts _ old (records c.args.store.now) c.args.fields.now (trees_of c.args.fields.now c.args.roots.now) c.args.root c.args.plan.now a
    c.requires.holds c.requires.under_way c.requires.at
    (laws_of c.field_law.ensures.stays c.field_law.ensures.lawful c.field_law.ensures.keys) c.same_law.ensures.one c.stage_law.ensures.others mid new (records c.move_one.new.store) (records c.accept.new.self)
    c.args.key.now b refl c.requires.phase c.requires.next
    (part_begun _ c.args.plan.now.victim old (ledger c.begin.new.self) mid (records c.args.store.now) (records c.begin.new.self) (records c.move_one.new.store) a b refl refl
    c.begin.ensures.ledger c.begin.ensures.records meets.field c.in-Ok.ensures.moved.moves
    (λ is. c.in-Ok.ensures.moved.left_none (subst (λ (f : Records). CopiesNone g.row.OFFSET_BITS f a c.args.plan.now c.args.key.now) (sym c.begin.ensures.records) is)))
    c.in-Ok.ensures.moved.cleared c.accept.ensures keeps (copies || c.args.plan.now.copied)
    (λ fresh. none (or_left copies c.args.plan.now.copied fresh)) (λ fresh. or_right copies c.args.plan.now.copied fresh)

pub returns-in-Ok-clause-keeps : goal.returns-in-Ok-clause-keeps
returns-in-Ok-clause-keeps g c =
    let ledger = g.S.Store.ledger in
    let records = g.S.Frozen.records in
    let old = ledger c.args.store.now in
    let mid = ledger c.move_one.new.store in
    let new = ledger c.accept.new.self in
    let may = subst (λ l. MayDo l mid) c.begin.ensures.ledger c.move_one.ensures.may in
    let left = none_left_accepted old mid new (records c.args.store.now) (records c.move_one.new.store) (records c.accept.new.self)
    (g.met.S.Store.settled c.args.store.now c.requires.holds.unit) may (g.met.S.Store.left_stays c.move_one.new.store) c.accept.ensures in
    keeps_unit old mid new c.requires.holds.unit may c.accept.ensures.unit c.accept.ensures.work c.accept.ensures.shape c.accept.ensures.sealed c.accept.ensures.finished left

pub returns-in-Err-clause-left : goal.returns-in-Err-clause-left
returns-in-Err-clause-left g c =
    let ledger = g.S.Store.ledger in
    let records = g.S.Frozen.records in
    let mid = ledger c.move_one.new.store in
    left_unit (ledger c.args.store.now) mid (ledger c.undo.new.self) (records c.args.store.now) (records c.undo.new.self) (g.met.S.Store.settled c.args.store.now c.requires.holds.unit)
    (subst (λ l. MayDo l mid) c.begin.ensures.ledger c.move_one.ensures.may) c.undo.ensures

pub returns-in-Err-clause-refused : goal.returns-in-Err-clause-refused
returns-in-Err-clause-refused g c =
    let ledger = g.S.Store.ledger in
    let mid = ledger c.move_one.new.store in
    let among = IsUsedWidth (ledger c.begin.new.self) (g.S.Frozen.records c.begin.new.self) in
    refused_among among (ledger c.args.store.now) mid (ledger c.undo.new.self) c.in-Err.error c.undo.ensures.work c.undo.ensures.counts
    (subst (λ l. RefusesOf among l mid c.in-Err.error) c.begin.ensures.ledger c.in-Err.ensures.refuses)

pub returns-in-Err-clause-spares : goal.returns-in-Err-clause-spares
returns-in-Err-clause-spares g c =
    let ledger = g.S.Store.ledger in
    let among = IsUsedWidth (ledger c.begin.new.self) (g.S.Frozen.records c.begin.new.self) in
    let a = trees_of_field c.args.field.now c.args.own in
    spares_begun among a.kind a.type (column_at a.kind a.type (g.S.Frozen.records c.begin.new.self) a.documents) (ledger c.args.store.now)
    (ledger c.begin.new.self) (ledger c.move_one.new.store) (ledger c.undo.new.self) c.begin.ensures.ledger c.move_one.ensures.counts
    (g.S.Frozen.records c.args.store.now) (g.S.Frozen.records c.undo.new.self) c.in-Err.error (g.met.S.Store.settled c.args.store.now c.requires.holds.unit)
    c.in-Err.ensures.refuses c.undo.ensures

pub returns-in-Err-clause-active : goal.returns-in-Err-clause-active
returns-in-Err-clause-active g c =
    let ledger = g.S.Store.ledger in
    let records = g.S.Frozen.records in
    let old = ledger c.args.store.now in
    let mid = ledger c.move_one.new.store in
    let left = left_unit old mid (ledger c.undo.new.self) (records c.args.store.now) (records c.undo.new.self) (g.met.S.Store.settled c.args.store.now c.requires.holds.unit)
    (subst (λ l. MayDo l mid) c.begin.ensures.ledger c.move_one.ensures.may) c.undo.ensures in
    active_begun g.row.OFFSET_BITS old (ledger c.begin.new.self) mid (ledger c.undo.new.self) (records c.args.store.now) (records c.begin.new.self) (records c.undo.new.self) c.in-Err.error
    c.begin.ensures.ledger c.begin.ensures.records (g.met.S.Store.recorded c.args.store.now) left.records (g.met.S.Store.placed c.undo.new.self) c.in-Err.ensures.refuses

pub returns-in-Err-clause-keeps : goal.returns-in-Err-clause-keeps
returns-in-Err-clause-keeps g c =
    let ledger = g.S.Store.ledger in
    let records = g.S.Frozen.records in
    let old = ledger c.args.store.now in
    let mid = ledger c.move_one.new.store in
    let new = ledger c.undo.new.self in
    let may = subst (λ l. MayDo l mid) c.begin.ensures.ledger c.move_one.ensures.may in
    let left = none_left_undone old mid new (records c.args.store.now) (records c.move_one.new.store) (records c.undo.new.self)
    (g.met.S.Store.settled c.args.store.now c.requires.holds.unit) may c.undo.ensures in
    keeps_unit old mid new c.requires.holds.unit may c.undo.ensures.unit c.undo.ensures.work c.undo.ensures.shape c.undo.ensures.sealed c.undo.ensures.finished left

pub returns-in-Ok-clause-counts : goal.returns-in-Ok-clause-counts
returns-in-Ok-clause-counts g c =
    let ledger = g.S.Store.ledger in
    let records = g.S.Frozen.records in
    let a = trees_of_field c.args.field.now c.args.own in
    let made = subst (λ (f : Records). MakesKey (IsPlainIndex f a.dictionary) a.kind a.type (column_at a.kind a.type f a.documents) (ledger c.begin.new.self) (ledger c.move_one.new.store))
    c.begin.ensures.records c.move_one.ensures.counts in
    key_unit a.kind a.type (column_at a.kind a.type (records c.args.store.now) a.documents) (ledger c.args.store.now) (ledger c.begin.new.self) (ledger c.move_one.new.store) (ledger c.accept.new.self)
    c.begin.ensures.ledger made (records c.accept.new.self) c.accept.ensures.counts (g.met.S.Store.settled c.accept.new.self c.accept.ensures.unit)

pub returns-in-Err-clause-counts : goal.returns-in-Err-clause-counts
returns-in-Err-clause-counts g c =
    let ledger = g.S.Store.ledger in
    let records = g.S.Frozen.records in
    let a = trees_of_field c.args.field.now c.args.own in
    let made = subst (λ (f : Records). MakesKey (IsPlainIndex f a.dictionary) a.kind a.type (column_at a.kind a.type f a.documents) (ledger c.begin.new.self) (ledger c.move_one.new.store))
    c.begin.ensures.records c.move_one.ensures.counts in
    key_unit a.kind a.type (column_at a.kind a.type (records c.args.store.now) a.documents) (ledger c.args.store.now) (ledger c.begin.new.self) (ledger c.move_one.new.store) (ledger c.undo.new.self)
    c.begin.ensures.ledger made (records c.undo.new.self) c.undo.ensures.counts (g.met.S.Store.settled c.undo.new.self c.undo.ensures.unit)
