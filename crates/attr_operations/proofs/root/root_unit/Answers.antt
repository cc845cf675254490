use Rattle.std.proofs.Common.{ℕ, [], ◌∷◌, length, ap, subst, ◌∙◌, arith}
use Rattle.store_api.specs.Calls.{Refuses}
use Rattle.store_api.specs.Units.{MakesAtMost, MayDo}
use Rattle.image_format.specs.Words.{class_of}
use Rattle.attr_operations.specs.Commits.{roots_listed}
use Rattle.attr_operations.proofs.CountLemmas.{one_unit}
use Rattle.attr_operations.proofs.RootLemmas.{begun_root, accepts_root, for_width, refuses_root}
use Rattle.attr_operations.proofs.Units.{left_unit, keeps_unit, none_left_accepted, none_left_undone}
use Rattle.attr_operations.proofs.root.root_unit.Goals as goal

pub begin-requires : goal.begin-requires
begin-requires g c = c.requires.unit

pub record_roots-requires : goal.record_roots-requires
record_roots-requires g c =
    let ledger = g.S.Store.ledger in
    let records = g.S.Frozen.records in
    let old = ledger c.args.store.now in
    let begun = ledger c.begin.new.self in
    let m = records c.args.store.now in
    let k = records c.begin.new.self in
    (omega arith, (omega arith, (ap (λ l. l.unit) c.begin.ensures.ledger, (c.requires.few, begun_root old begun old old m k m m (0 ∷ []) c.args.before 0 c.begin.ensures.ledger c.begin.ensures.records c.requires.owns))))

pub accept-requires : goal.accept-requires
accept-requires g c = c.record_roots.ensures.may.unit ∙ ap (λ l. l.unit) c.begin.ensures.ledger

pub undo-requires : goal.undo-requires
undo-requires g c = c.record_roots.ensures.may.unit ∙ ap (λ l. l.unit) c.begin.ensures.ledger

pub returns-in-Ok-clause-makes : goal.returns-in-Ok-clause-makes
returns-in-Ok-clause-makes g c =
    let ledger = g.S.Store.ledger in
    let records = g.S.Frozen.records in
    accepts_root (ledger c.args.store.now) (ledger c.begin.new.self) (ledger c.record_roots.new.store) (ledger c.accept.new.self)
    (records c.args.store.now) (records c.begin.new.self) (records c.record_roots.new.store) (records c.accept.new.self) _ c.args.before c.in-Ok.root
    c.begin.ensures.ledger c.begin.ensures.records c.requires.owns g.row.OFFSET_BITS c.in-Ok.ensures.makes c.accept.ensures

pub returns-in-Ok-clause-keeps : goal.returns-in-Ok-clause-keeps
returns-in-Ok-clause-keeps g c =
    let ledger = g.S.Store.ledger in
    let records = g.S.Frozen.records in
    let old = ledger c.args.store.now in
    let mid = ledger c.record_roots.new.store in
    let new = ledger c.accept.new.self in
    let may = subst (λ l. MayDo l mid) c.begin.ensures.ledger c.record_roots.ensures.may in
    let left = none_left_accepted old mid new (records c.args.store.now) (records c.record_roots.new.store) (records c.accept.new.self)
    (g.met.S.Store.settled c.args.store.now c.requires.unit) may (g.met.S.Store.left_stays c.record_roots.new.store) c.accept.ensures in
    keeps_unit old mid new c.requires.unit may c.accept.ensures.unit c.accept.ensures.work c.accept.ensures.shape c.accept.ensures.sealed c.accept.ensures.finished left

pub returns-in-Err-clause-left : goal.returns-in-Err-clause-left
returns-in-Err-clause-left g c =
    let ledger = g.S.Store.ledger in
    let records = g.S.Frozen.records in
    let mid = ledger c.record_roots.new.store in
    left_unit (ledger c.args.store.now) mid (ledger c.undo.new.self) (records c.args.store.now) (records c.undo.new.self) (g.met.S.Store.settled c.args.store.now c.requires.unit)
    (subst (λ l. MayDo l mid) c.begin.ensures.ledger c.record_roots.ensures.may) c.undo.ensures

pub returns-in-Err-clause-refused : goal.returns-in-Err-clause-refused
returns-in-Err-clause-refused g c =
    let ledger = g.S.Store.ledger in
    let mid = ledger c.record_roots.new.store in
    let width = class_of (length (c.args.operations ∷ roots_listed c.args.roots.now)) in
    let none = subst (λ l. (k w : ℕ) → MakesAtMost k 0 (l.of_width w) (mid.of_width w)) c.begin.ensures.ledger c.in-Err.ensures.none_made in
    refuses_root (ledger c.args.store.now) mid (ledger c.undo.new.self) (g.S.Frozen.records c.args.store.now) (g.S.Frozen.records c.undo.new.self) width c.in-Err.error
    (c.class_law.ensures.width (length (c.args.operations ∷ roots_listed c.args.roots.now))) (g.met.S.Store.settled c.args.store.now c.requires.unit)
    (subst (λ l. Refuses l mid width c.in-Err.error) c.begin.ensures.ledger c.in-Err.ensures.refuses) none c.undo.ensures
    (g.met.S.Store.counted c.args.store.now) (g.met.S.Store.counted c.record_roots.new.store) (c.record_roots.ensures.may.sizes ∙ ap (λ l. l.work.sizes) c.begin.ensures.ledger)

pub returns-in-Err-clause-width : goal.returns-in-Err-clause-width
returns-in-Err-clause-width g c =
    let ledger = g.S.Store.ledger in
    for_width (ledger c.begin.new.self) (ledger c.record_roots.new.store) (class_of (length (c.args.operations ∷ roots_listed c.args.roots.now))) c.in-Err.error c.in-Err.ensures.refuses

pub returns-in-Err-clause-keeps : goal.returns-in-Err-clause-keeps
returns-in-Err-clause-keeps g c =
    let ledger = g.S.Store.ledger in
    let records = g.S.Frozen.records in
    let old = ledger c.args.store.now in
    let mid = ledger c.record_roots.new.store in
    let new = ledger c.undo.new.self in
    let may = subst (λ l. MayDo l mid) c.begin.ensures.ledger c.record_roots.ensures.may in
    let left = none_left_undone old mid new (records c.args.store.now) (records c.record_roots.new.store) (records c.undo.new.self)
    (g.met.S.Store.settled c.args.store.now c.requires.unit) may c.undo.ensures in
    keeps_unit old mid new c.requires.unit may c.undo.ensures.unit c.undo.ensures.work c.undo.ensures.shape c.undo.ensures.sealed c.undo.ensures.finished left

pub returns-in-Ok-clause-counts : goal.returns-in-Ok-clause-counts
returns-in-Ok-clause-counts g c =
    let ledger = g.S.Store.ledger in
    one_unit (class_of (length (c.args.operations ∷ roots_listed c.args.roots.now))) (ledger c.args.store.now) (ledger c.begin.new.self) (ledger c.record_roots.new.store) (ledger c.accept.new.self)
    c.begin.ensures.ledger c.record_roots.ensures.counts (g.S.Frozen.records c.accept.new.self) c.accept.ensures.counts (g.met.S.Store.settled c.accept.new.self c.accept.ensures.unit)

pub returns-in-Err-clause-counts : goal.returns-in-Err-clause-counts
returns-in-Err-clause-counts g c =
    let ledger = g.S.Store.ledger in
    one_unit (class_of (length (c.args.operations ∷ roots_listed c.args.roots.now))) (ledger c.args.store.now) (ledger c.begin.new.self) (ledger c.record_roots.new.store) (ledger c.undo.new.self)
    c.begin.ensures.ledger c.record_roots.ensures.counts (g.S.Frozen.records c.undo.new.self) c.undo.ensures.counts (g.met.S.Store.settled c.undo.new.self c.undo.ensures.unit)
