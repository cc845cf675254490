use Rattle.std.proofs.Common.{◌≡◌, ◌+◌, ◌<◌, ℕ, refl, sym, ap, subst, ◌∙◌, arith}
use Rattle.attr_compaction.specs.declared.plan.Stage.{Stage}
use Rattle.attr_compaction.specs.declared.plan.TheConstants.{PHASES}
use Rattle.attr_operations.specs.Calls.{LeavesEntries}
use Rattle.attr_operations.specs.Fields.{trees_of}
use Rattle.attr_operations.specs.Views.{table_at}
use Rattle.attr_types.specs.Table.{Table}
use Rattle.compaction_steps.specs.Counts.{MakesKeys}
use Rattle.compaction_steps.proofs.KeyCounts.{keys_more, keys_none, keys_plain, keys_then}
use Rattle.compaction_steps.proofs.KeyLemmas.{plain_kept}
use Rattle.compaction_steps.specs.Units.{next_at, ArePlain, GoesOn, LeavesAtEnd}
use Rattle.compaction_steps.specs.Walks.{Visits, Walks}
use Rattle.compaction_steps.proofs.PassLemmas.{left_passed, visits_passed}
use Rattle.compaction_steps.proofs.WalkLemmas.{left_moved, refused_since, refused_walks, stages_left, visits_moved, visits_none, visits_over, visits_still}
use Rattle.compaction_steps.proofs.walk.visit_keys.Goals as goal

pub loop-done-init : goal.loop-done-init
loop-done-init g c =
    let ledger = g.S.Store.ledger in
    let records = g.S.Frozen.records in
    let start = c.args.store.now in
    record {
      sized = c.requires.sized;
      few = omega arith;
      visits = visits_none g.row.OFFSET_BITS c.args.root c.args.fields.now (ledger start) (records start) (trees_of c.args.fields.now c.args.roots.now) c.args.plan.now c.requires.holds
          c.requires.under_way c.requires.last;
      counts = keys_none c.args.fields.now (table_at (records start) (trees_of c.args.fields.now c.args.roots.now)) (ledger start) 0;
      first = λ none. (refl, refl);
    }

pub returns-then-phase-eq-PHASES-clause-sized : goal.returns-then-phase-eq-PHASES-clause-sized
returns-then-phase-eq-PHASES-clause-sized g c = c.loop-done.invariant.sized

pub returns-then-phase-eq-PHASES-clause-walks : goal.returns-then-phase-eq-PHASES-clause-walks
returns-then-phase-eq-PHASES-clause-walks g c = record {
  visited = c.loop-done.done;
  few = c.loop-done.invariant.few;
  visits = c.loop-done.invariant.visits;
  over = sym c.phase.ensures.phase ∙ c.if-phase-eq-PHASES.true;
}

pub overflow_sub-keys : goal.overflow_sub-keys
overflow_sub-keys g c = let test = c.loop-done-test.true in omega arith

pub pass_keys-passed-requires : goal.pass_keys-passed-requires
pass_keys-passed-requires g c = (
  omega arith,
  (
    omega arith,
    (
      c.loop-done.invariant.sized,
      (
        c.loop-done.invariant.visits.holds,
        (
          c.loop-done.invariant.visits.under_way,
          (let is = c.phase.ensures.phase in let most = c.phase.ensures.most in let not_last = c.if-phase-eq-PHASES.false in omega arith),
        ),
      ),
    ),
  ),
)

pub overflow_add-done : goal.overflow_add-done
overflow_add-done g c = let passed = c.pass_keys-passed.ensures.few in let test = c.loop-done-test.true in omega (arith, c.ranges.keys.fits)

pub returns-then-done-keys-clause-sized : goal.returns-then-done-keys-clause-sized
returns-then-done-keys-clause-sized g c = c.loop-done.invariant.sized

pub returns-then-done-keys-clause-walks : goal.returns-then-done-keys-clause-walks
returns-then-done-keys-clause-walks g c =
    let ledger = g.S.Store.ledger in
    let records = g.S.Frozen.records in
    let start = c.args.store.now in
    let was = c.pass_keys-passed.new.store in
    let fields = c.args.fields.now in
    let trees = trees_of fields c.args.roots.now in
    let between = trees_of fields c.loop-done.roots in
    let to = c.pass_keys-passed.new.plan in
    let count = c.loop-done.done + c.pass_keys-passed.result in
    let first_low : c.loop-done.plan.place.stage.phase < PHASES = (let is = c.phase.ensures.phase in let most = c.phase.ensures.most in let not_last = c.if-phase-eq-PHASES.false in omega arith) in
    let visits : Visits g.row.OFFSET_BITS c.args.root (ledger start) (ledger was) (records start) (records was) fields trees between c.args.plan.now to count =
    subst (λ s. Visits g.row.OFFSET_BITS c.args.root (ledger start) (ledger s) (records start) (records s) fields trees between c.args.plan.now to count) (sym c.pass_keys-passed.ensures.same)
    (visits_passed g.row.OFFSET_BITS c.args.root fields (ledger start) (ledger c.loop-done.store) (records start) (records c.loop-done.store) trees between c.args.plan.now c.loop-done.plan to
    c.loop-done.done c.pass_keys-passed.result c.loop-done.invariant.visits c.pass_keys-passed.ensures.under_way first_low c.pass_keys-passed.ensures.passes) in
    (subst (λ (n : ℕ). Visits g.row.OFFSET_BITS c.args.root (ledger start) (ledger was) (records start) (records was) fields trees between c.args.plan.now to n) c.if-done-keys.true visits, refl)

pub compact_one-requires : goal.compact_one-requires
compact_one-requires g c =
    let ledger = g.S.Store.ledger in
    let records = g.S.Frozen.records in
    let start = c.args.store.now in
    let was = c.pass_keys-passed.new.store in
    let fields = c.args.fields.now in
    let trees = trees_of fields c.args.roots.now in
    let between = trees_of fields c.loop-done.roots in
    let to = c.pass_keys-passed.new.plan in
    let count = c.loop-done.done + c.pass_keys-passed.result in
    let first_low : c.loop-done.plan.place.stage.phase < PHASES = (let is = c.phase.ensures.phase in let most = c.phase.ensures.most in let not_last = c.if-phase-eq-PHASES.false in omega arith) in
    let visits : Visits g.row.OFFSET_BITS c.args.root (ledger start) (ledger was) (records start) (records was) fields trees between c.args.plan.now to count =
    subst (λ s. Visits g.row.OFFSET_BITS c.args.root (ledger start) (ledger s) (records start) (records s) fields trees between c.args.plan.now to count) (sym c.pass_keys-passed.ensures.same)
    (visits_passed g.row.OFFSET_BITS c.args.root fields (ledger start) (ledger c.loop-done.store) (records start) (records c.loop-done.store) trees between c.args.plan.now c.loop-done.plan to
    c.loop-done.done c.pass_keys-passed.result c.loop-done.invariant.visits c.pass_keys-passed.ensures.under_way first_low c.pass_keys-passed.ensures.passes) in
    let low : to.place.stage.phase < PHASES = (let same_stage = ap (λ (t : Stage). t.phase) c.pass_keys-passed.ensures.passes.stage in omega arith) in
    (omega arith, (omega arith, (c.loop-done.invariant.sized, (visits.holds, (visits.under_way, low)))))

pub overflow_add-done-in-Ok-Moved : goal.overflow_add-done-in-Ok-Moved
overflow_add-done-in-Ok-Moved g c =
    let passed = c.pass_keys-passed.ensures.few in let test = c.loop-done-test.true in let not_all = c.if-done-keys.false in omega (arith, c.ranges.keys.fits)

pub loop-done-smaller-in-Ok-Moved : goal.loop-done-smaller-in-Ok-Moved
loop-done-smaller-in-Ok-Moved g c =
    let ledger = g.S.Store.ledger in
    let records = g.S.Frozen.records in
    let start = c.args.store.now in
    let was = c.pass_keys-passed.new.store in
    let now = c.compact_one.new.store in
    let fields = c.args.fields.now in
    let trees = trees_of fields c.args.roots.now in
    let between = trees_of fields c.loop-done.roots in
    let after = trees_of fields c.compact_one.new.roots in
    let to = c.pass_keys-passed.new.plan in
    let count = c.loop-done.done + c.pass_keys-passed.result in
    let first_low : c.loop-done.plan.place.stage.phase < PHASES = (let is = c.phase.ensures.phase in let most = c.phase.ensures.most in let not_last = c.if-phase-eq-PHASES.false in omega arith) in
    let visits : Visits g.row.OFFSET_BITS c.args.root (ledger start) (ledger was) (records start) (records was) fields trees between c.args.plan.now to count =
    subst (λ s. Visits g.row.OFFSET_BITS c.args.root (ledger start) (ledger s) (records start) (records s) fields trees between c.args.plan.now to count) (sym c.pass_keys-passed.ensures.same)
    (visits_passed g.row.OFFSET_BITS c.args.root fields (ledger start) (ledger c.loop-done.store) (records start) (records c.loop-done.store) trees between c.args.plan.now c.loop-done.plan to
    c.loop-done.done c.pass_keys-passed.result c.loop-done.invariant.visits c.pass_keys-passed.ensures.under_way first_low c.pass_keys-passed.ensures.passes) in
    let low : to.place.stage.phase < PHASES = (let same_stage = ap (λ (t : Stage). t.phase) c.pass_keys-passed.ensures.passes.stage in omega arith) in
    let within : to.place.stage.field < to.fields = (let is = c.field.ensures.field in let below = c.field.ensures.below in omega arith) in
    let kept : stages_left to ≡ stages_left c.loop-done.plan =
    left_passed g.row.OFFSET_BITS c.args.root fields (ledger start) (ledger c.loop-done.store) (records start) (records c.loop-done.store) trees between c.args.plan.now c.loop-done.plan to
    c.loop-done.done c.pass_keys-passed.result c.loop-done.invariant.visits c.pass_keys-passed.ensures.under_way first_low c.pass_keys-passed.ensures.passes in
    let passed = c.pass_keys-passed.ensures.few in
    let test = c.loop-done-test.true in
    let not_all = c.if-done-keys.false in
    let same : stages_left c.compact_one.new.plan ≡ stages_left to =
    left_moved g.row.OFFSET_BITS c.args.root fields (ledger start) (ledger was) (ledger now) (records start) (records was) (records now) trees between after c.args.plan.now to c.compact_one.new.plan
    count visits c.in-Ok-Moved.ensures.holds c.in-Ok-Moved.ensures.under_way c.in-Ok-Moved.ensures.table c.in-Ok-Moved.ensures.keys c.in-Ok-Moved.ensures.keeps
    (subst (λ t. GoesOn to c.compact_one.new.plan (next_at (records was) between to.place) t) c.in-Ok-Moved.field-0-is c.in-Ok-Moved.ensures.goes_on) in
    omega arith

pub loop-done-preserved-in-Ok-Moved : goal.loop-done-preserved-in-Ok-Moved
loop-done-preserved-in-Ok-Moved g c =
    let ledger = g.S.Store.ledger in
    let records = g.S.Frozen.records in
    let start = c.args.store.now in
    let was = c.pass_keys-passed.new.store in
    let now = c.compact_one.new.store in
    let fields = c.args.fields.now in
    let trees = trees_of fields c.args.roots.now in
    let between = trees_of fields c.loop-done.roots in
    let after = trees_of fields c.compact_one.new.roots in
    let to = c.pass_keys-passed.new.plan in
    let count = c.loop-done.done + c.pass_keys-passed.result in
    let first_low : c.loop-done.plan.place.stage.phase < PHASES = (let is = c.phase.ensures.phase in let most = c.phase.ensures.most in let not_last = c.if-phase-eq-PHASES.false in omega arith) in
    let visits : Visits g.row.OFFSET_BITS c.args.root (ledger start) (ledger was) (records start) (records was) fields trees between c.args.plan.now to count =
    subst (λ s. Visits g.row.OFFSET_BITS c.args.root (ledger start) (ledger s) (records start) (records s) fields trees between c.args.plan.now to count) (sym c.pass_keys-passed.ensures.same)
    (visits_passed g.row.OFFSET_BITS c.args.root fields (ledger start) (ledger c.loop-done.store) (records start) (records c.loop-done.store) trees between c.args.plan.now c.loop-done.plan to
    c.loop-done.done c.pass_keys-passed.result c.loop-done.invariant.visits c.pass_keys-passed.ensures.under_way first_low c.pass_keys-passed.ensures.passes) in
    let low : to.place.stage.phase < PHASES = (let same_stage = ap (λ (t : Stage). t.phase) c.pass_keys-passed.ensures.passes.stage in omega arith) in
    let within : to.place.stage.field < to.fields = (let is = c.field.ensures.field in let below = c.field.ensures.below in omega arith) in
    let passed = c.pass_keys-passed.ensures.few in
    let test = c.loop-done-test.true in
    let not_all = c.if-done-keys.false in
    let table = table_at (records start) trees in
    let so_far = keys_more fields table (ledger start) (ledger was) c.loop-done.done count (omega arith)
    (subst (λ s. MakesKeys (ArePlain (records start) trees) fields table (ledger start) (ledger s) c.loop-done.done) (sym c.pass_keys-passed.ensures.same) c.loop-done.invariant.counts) in
    let one = keys_plain fields table (ledger was) (ledger now) 1 (plain_kept (records start) (records was) trees between visits.keep)
    (subst (λ (t : Table). MakesKeys (ArePlain (records was) between) fields t (ledger was) (ledger now) 1) visits.table c.compact_one.ensures.counts) in
    record {
      sized = c.in-Ok-Moved.ensures.sized;
      few = omega arith;
      visits = visits_moved g.row.OFFSET_BITS c.args.root fields (ledger start) (ledger was) (ledger now) (records start) (records was) (records now) trees between after c.args.plan.now to c.compact_one.new.plan
          count visits c.in-Ok-Moved.ensures.holds c.in-Ok-Moved.ensures.under_way c.in-Ok-Moved.ensures.table c.in-Ok-Moved.ensures.keys c.in-Ok-Moved.ensures.keeps low within
          (subst (λ t. GoesOn to c.compact_one.new.plan (next_at (records was) between to.place) t) c.in-Ok-Moved.field-0-is c.in-Ok-Moved.ensures.goes_on);
      counts = keys_then fields table (ledger start) (ledger was) (ledger now) count so_far one;
      first = λ none. absurd (omega arith);
    }

pub loop-done-smaller : goal.loop-done-smaller
loop-done-smaller g c =
    let ledger = g.S.Store.ledger in
    let records = g.S.Frozen.records in
    let start = c.args.store.now in
    let was = c.pass_keys-passed.new.store in
    let now = c.compact_one.new.store in
    let fields = c.args.fields.now in
    let trees = trees_of fields c.args.roots.now in
    let between = trees_of fields c.loop-done.roots in
    let after = trees_of fields c.compact_one.new.roots in
    let to = c.pass_keys-passed.new.plan in
    let count = c.loop-done.done + c.pass_keys-passed.result in
    let first_low : c.loop-done.plan.place.stage.phase < PHASES = (let is = c.phase.ensures.phase in let most = c.phase.ensures.most in let not_last = c.if-phase-eq-PHASES.false in omega arith) in
    let visits : Visits g.row.OFFSET_BITS c.args.root (ledger start) (ledger was) (records start) (records was) fields trees between c.args.plan.now to count =
    subst (λ s. Visits g.row.OFFSET_BITS c.args.root (ledger start) (ledger s) (records start) (records s) fields trees between c.args.plan.now to count) (sym c.pass_keys-passed.ensures.same)
    (visits_passed g.row.OFFSET_BITS c.args.root fields (ledger start) (ledger c.loop-done.store) (records start) (records c.loop-done.store) trees between c.args.plan.now c.loop-done.plan to
    c.loop-done.done c.pass_keys-passed.result c.loop-done.invariant.visits c.pass_keys-passed.ensures.under_way first_low c.pass_keys-passed.ensures.passes) in
    let low : to.place.stage.phase < PHASES = (let same_stage = ap (λ (t : Stage). t.phase) c.pass_keys-passed.ensures.passes.stage in omega arith) in
    let within : to.place.stage.field < to.fields = (let is = c.field.ensures.field in let below = c.field.ensures.below in omega arith) in
    let kept : stages_left to ≡ stages_left c.loop-done.plan =
    left_passed g.row.OFFSET_BITS c.args.root fields (ledger start) (ledger c.loop-done.store) (records start) (records c.loop-done.store) trees between c.args.plan.now c.loop-done.plan to
    c.loop-done.done c.pass_keys-passed.result c.loop-done.invariant.visits c.pass_keys-passed.ensures.under_way first_low c.pass_keys-passed.ensures.passes in
    let passed = c.pass_keys-passed.ensures.few in
    let test = c.loop-done-test.true in
    let not_all = c.if-done-keys.false in
    let less : stages_left c.compact_one.new.plan < stages_left to =
    (visits_over g.row.OFFSET_BITS c.args.root fields (ledger start) (ledger was) (ledger now) (records start) (records was) (records now) trees between after c.args.plan.now to c.compact_one.new.plan
    count visits c.in-Ok-PhaseOver.ensures.holds c.in-Ok-PhaseOver.ensures.under_way c.in-Ok-PhaseOver.ensures.table c.in-Ok-PhaseOver.ensures.keys c.in-Ok-PhaseOver.ensures.keeps low within
    (subst (λ t. GoesOn to c.compact_one.new.plan (next_at (records was) between to.place) t) c.in-Ok-PhaseOver.field-0-is c.in-Ok-PhaseOver.ensures.goes_on)).1 in
    omega arith

pub loop-done-preserved : goal.loop-done-preserved
loop-done-preserved g c =
    let ledger = g.S.Store.ledger in
    let records = g.S.Frozen.records in
    let start = c.args.store.now in
    let was = c.pass_keys-passed.new.store in
    let now = c.compact_one.new.store in
    let fields = c.args.fields.now in
    let trees = trees_of fields c.args.roots.now in
    let between = trees_of fields c.loop-done.roots in
    let after = trees_of fields c.compact_one.new.roots in
    let to = c.pass_keys-passed.new.plan in
    let count = c.loop-done.done + c.pass_keys-passed.result in
    let first_low : c.loop-done.plan.place.stage.phase < PHASES = (let is = c.phase.ensures.phase in let most = c.phase.ensures.most in let not_last = c.if-phase-eq-PHASES.false in omega arith) in
    let visits : Visits g.row.OFFSET_BITS c.args.root (ledger start) (ledger was) (records start) (records was) fields trees between c.args.plan.now to count =
    subst (λ s. Visits g.row.OFFSET_BITS c.args.root (ledger start) (ledger s) (records start) (records s) fields trees between c.args.plan.now to count) (sym c.pass_keys-passed.ensures.same)
    (visits_passed g.row.OFFSET_BITS c.args.root fields (ledger start) (ledger c.loop-done.store) (records start) (records c.loop-done.store) trees between c.args.plan.now c.loop-done.plan to
    c.loop-done.done c.pass_keys-passed.result c.loop-done.invariant.visits c.pass_keys-passed.ensures.under_way first_low c.pass_keys-passed.ensures.passes) in
    let low : to.place.stage.phase < PHASES = (let same_stage = ap (λ (t : Stage). t.phase) c.pass_keys-passed.ensures.passes.stage in omega arith) in
    let within : to.place.stage.field < to.fields = (let is = c.field.ensures.field in let below = c.field.ensures.below in omega arith) in
    let passed = c.pass_keys-passed.ensures.few in
    let test = c.loop-done-test.true in
    let not_all = c.if-done-keys.false in
    let over = subst (λ t. LeavesAtEnd (now ≡ was) (c.compact_one.new.roots ≡ c.loop-done.roots) t) c.in-Ok-PhaseOver.field-0-is c.in-Ok-PhaseOver.ensures.over in
    let table = table_at (records start) trees in
    let so_far = keys_more fields table (ledger start) (ledger was) c.loop-done.done count (omega arith)
    (subst (λ s. MakesKeys (ArePlain (records start) trees) fields table (ledger start) (ledger s) c.loop-done.done) (sym c.pass_keys-passed.ensures.same) c.loop-done.invariant.counts) in
    record {
      sized = c.in-Ok-PhaseOver.ensures.sized;
      few = omega arith;
      visits = (visits_over g.row.OFFSET_BITS c.args.root fields (ledger start) (ledger was) (ledger now) (records start) (records was) (records now) trees between after c.args.plan.now to c.compact_one.new.plan
          count visits c.in-Ok-PhaseOver.ensures.holds c.in-Ok-PhaseOver.ensures.under_way c.in-Ok-PhaseOver.ensures.table c.in-Ok-PhaseOver.ensures.keys c.in-Ok-PhaseOver.ensures.keeps low within
          (subst (λ t. GoesOn to c.compact_one.new.plan (next_at (records was) between to.place) t) c.in-Ok-PhaseOver.field-0-is c.in-Ok-PhaseOver.ensures.goes_on)).0;
      counts = subst (λ s. MakesKeys (ArePlain (records start) trees) fields table (ledger start) (ledger s) count) (sym over.0) so_far;
      first = λ none. let is = c.loop-done.invariant.first (omega arith) in (over.0 ∙ c.pass_keys-passed.ensures.same ∙ is.0, over.1 ∙ is.1);
    }

pub returns-in-Err-clause-sized : goal.returns-in-Err-clause-sized
returns-in-Err-clause-sized g c = c.in-Err.ensures.sized

pub returns-in-Err-clause-walks : goal.returns-in-Err-clause-walks
returns-in-Err-clause-walks g c =
    let ledger = g.S.Store.ledger in
    let records = g.S.Frozen.records in
    let start = c.args.store.now in
    let was = c.pass_keys-passed.new.store in
    let now = c.compact_one.new.store in
    let fields = c.args.fields.now in
    let trees = trees_of fields c.args.roots.now in
    let between = trees_of fields c.loop-done.roots in
    let after = trees_of fields c.compact_one.new.roots in
    let to = c.pass_keys-passed.new.plan in
    let count = c.loop-done.done + c.pass_keys-passed.result in
    let first_low : c.loop-done.plan.place.stage.phase < PHASES = (let is = c.phase.ensures.phase in let most = c.phase.ensures.most in let not_last = c.if-phase-eq-PHASES.false in omega arith) in
    let visits : Visits g.row.OFFSET_BITS c.args.root (ledger start) (ledger was) (records start) (records was) fields trees between c.args.plan.now to count =
    subst (λ s. Visits g.row.OFFSET_BITS c.args.root (ledger start) (ledger s) (records start) (records s) fields trees between c.args.plan.now to count) (sym c.pass_keys-passed.ensures.same)
    (visits_passed g.row.OFFSET_BITS c.args.root fields (ledger start) (ledger c.loop-done.store) (records start) (records c.loop-done.store) trees between c.args.plan.now c.loop-done.plan to
    c.loop-done.done c.pass_keys-passed.result c.loop-done.invariant.visits c.pass_keys-passed.ensures.under_way first_low c.pass_keys-passed.ensures.passes) in
    let passed = c.pass_keys-passed.ensures.few in
    let test = c.loop-done-test.true in
    let not_all = c.if-done-keys.false in
    let still = visits_still g.row.OFFSET_BITS c.args.root fields (ledger start) (ledger was) (ledger now) (records start) (records was) (records now) trees between after c.args.plan.now to c.compact_one.new.plan
    count visits c.in-Err.ensures.holds c.in-Err.ensures.under_way c.in-Err.ensures.table c.in-Err.ensures.keys c.in-Err.ensures.keeps c.in-Err.ensures.plan in
    subst (λ r. Walks g.row.OFFSET_BITS c.args.root (ledger start) (ledger now) (records start) (records now) fields trees after c.args.plan.now c.compact_one.new.plan c.args.keys r) (sym c.refused.ensures)
    (refused_walks g.row.OFFSET_BITS c.args.root (ledger start) (ledger now) (records start) (records now) fields trees after c.args.plan.now c.compact_one.new.plan c.args.keys count c.in-Err.error
    (omega arith) still
    (λ none. let is = c.loop-done.invariant.first (omega arith) in
    (subst (λ s. LeavesEntries (ledger s) (ledger now) (records s) (records now)) (c.pass_keys-passed.ensures.same ∙ is.0) c.in-Err.ensures.left, ap (trees_of fields) (c.in-Err.ensures.roots ∙ is.1)))
    (record { why = refused_since (ledger start) (ledger was) (ledger now) c.in-Err.error visits.keeps.stops c.in-Err.ensures.refused; spare = c.in-Err.ensures.spares; active = c.in-Err.ensures.active }))

pub returns-clause-sized : goal.returns-clause-sized
returns-clause-sized g c = c.loop-done.invariant.sized

pub returns-clause-walks : goal.returns-clause-walks
returns-clause-walks g c = (c.loop-done.invariant.visits, (let few = c.loop-done.invariant.few in let no_more = c.loop-done-test.false in omega arith))

pub returns-in-Err-clause-counts : goal.returns-in-Err-clause-counts
returns-in-Err-clause-counts g c =
    let ledger = g.S.Store.ledger in
    let records = g.S.Frozen.records in
    let start = c.args.store.now in
    let was = c.pass_keys-passed.new.store in
    let now = c.compact_one.new.store in
    let fields = c.args.fields.now in
    let trees = trees_of fields c.args.roots.now in
    let between = trees_of fields c.loop-done.roots in
    let after = trees_of fields c.compact_one.new.roots in
    let to = c.pass_keys-passed.new.plan in
    let count = c.loop-done.done + c.pass_keys-passed.result in
    let first_low : c.loop-done.plan.place.stage.phase < PHASES = (let is = c.phase.ensures.phase in let most = c.phase.ensures.most in let not_last = c.if-phase-eq-PHASES.false in omega arith) in
    let visits : Visits g.row.OFFSET_BITS c.args.root (ledger start) (ledger was) (records start) (records was) fields trees between c.args.plan.now to count =
    subst (λ s. Visits g.row.OFFSET_BITS c.args.root (ledger start) (ledger s) (records start) (records s) fields trees between c.args.plan.now to count) (sym c.pass_keys-passed.ensures.same)
    (visits_passed g.row.OFFSET_BITS c.args.root fields (ledger start) (ledger c.loop-done.store) (records start) (records c.loop-done.store) trees between c.args.plan.now c.loop-done.plan to
    c.loop-done.done c.pass_keys-passed.result c.loop-done.invariant.visits c.pass_keys-passed.ensures.under_way first_low c.pass_keys-passed.ensures.passes) in
    let passed = c.pass_keys-passed.ensures.few in
    let test = c.loop-done-test.true in
    let not_all = c.if-done-keys.false in
    let table = table_at (records start) trees in
    let so_far = keys_more fields table (ledger start) (ledger was) c.loop-done.done count (omega arith)
    (subst (λ s. MakesKeys (ArePlain (records start) trees) fields table (ledger start) (ledger s) c.loop-done.done) (sym c.pass_keys-passed.ensures.same) c.loop-done.invariant.counts) in
    let one = keys_plain fields table (ledger was) (ledger now) 1 (plain_kept (records start) (records was) trees between visits.keep)
    (subst (λ (t : Table). MakesKeys (ArePlain (records was) between) fields t (ledger was) (ledger now) 1) visits.table c.compact_one.ensures.counts) in
    keys_more fields table (ledger start) (ledger now) (count + 1) c.args.keys (omega arith) (keys_then fields table (ledger start) (ledger was) (ledger now) count so_far one)

pub returns-then-phase-eq-PHASES-clause-counts : goal.returns-then-phase-eq-PHASES-clause-counts
returns-then-phase-eq-PHASES-clause-counts g c =
    let ledger = g.S.Store.ledger in
    let fields = c.args.fields.now in
    let few = c.loop-done.invariant.few in
    keys_more fields (table_at (g.S.Frozen.records c.args.store.now) (trees_of fields c.args.roots.now)) (ledger c.args.store.now) (ledger c.loop-done.store) c.loop-done.done c.args.keys few
    c.loop-done.invariant.counts

pub returns-then-done-keys-clause-counts : goal.returns-then-done-keys-clause-counts
returns-then-done-keys-clause-counts g c =
    let ledger = g.S.Store.ledger in
    let fields = c.args.fields.now in
    let table = table_at (g.S.Frozen.records c.args.store.now) (trees_of fields c.args.roots.now) in
    let start = ledger c.args.store.now in
    let few = c.loop-done.invariant.few in
    subst (λ s. MakesKeys (ArePlain (g.S.Frozen.records c.args.store.now) (trees_of fields c.args.roots.now)) fields table start (ledger s) c.args.keys) (sym c.pass_keys-passed.ensures.same)
    (keys_more fields table start (ledger c.loop-done.store) c.loop-done.done c.args.keys few c.loop-done.invariant.counts)

pub returns-clause-counts : goal.returns-clause-counts
returns-clause-counts g c =
    let ledger = g.S.Store.ledger in
    let fields = c.args.fields.now in
    let few = c.loop-done.invariant.few in
    keys_more fields (table_at (g.S.Frozen.records c.args.store.now) (trees_of fields c.args.roots.now)) (ledger c.args.store.now) (ledger c.loop-done.store) c.loop-done.done c.args.keys few
    c.loop-done.invariant.counts
