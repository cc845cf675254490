use Rattle.std.proofs.Common.{inr, arith, rules}
use Rattle.attr_operations.specs.Fields.{trees_of, trees_of_field}
use Rattle.compaction_steps.proofs.PassLemmas.{passed_way, passes_none, passes_some, through_fits}
use Rattle.compaction_steps.proofs.TurnLemmas.{at_place, below_fields}
use Rattle.compaction_steps.proofs.passing.pass_keys.Goals as goal

pub overflow_cast-i : goal.overflow_cast-i
overflow_cast-i g c = search rules

pub offset_bounds-fields-i : goal.offset_bounds-fields-i
offset_bounds-fields-i g c = search rules

pub bounds-fields-i : goal.bounds-fields-i
bounds-fields-i g c = below_fields (g.S.Store.ledger c.args.store.now)
    (g.S.Frozen.records c.args.store.now) c.args.fields.now c.args.roots.now c.args.root c.args.plan.now c.field-i.result c.requires.under_way c.requires.sized c.field-i.ensures.below

pub offset_bounds-roots-i : goal.offset_bounds-roots-i
offset_bounds-roots-i g c = search rules

pub bounds-roots-i : goal.bounds-roots-i
bounds-roots-i g c = let sized = c.requires.sized in let below = below_fields (g.S.Store.ledger c.args.store.now)
    (g.S.Frozen.records c.args.store.now) c.args.fields.now c.args.roots.now c.args.root c.args.plan.now c.field-i.result c.requires.under_way sized c.field-i.ensures.below in omega arith

pub pass_clear-requires : goal.pass_clear-requires
pass_clear-requires g c =
    let here = at_place (g.S.Store.ledger c.args.store.now) (g.S.Frozen.records c.args.store.now) c.args.fields.now c.args.roots.now c.args.root c.args.plan.now c.field-i.result
    c.requires.holds c.requires.under_way c.requires.sized c.field-i.ensures.field c.field-i.ensures.below c.index-fields-i.result c.index-roots-i.result c.index-fields-i.is c.index-roots-i.is in
    (omega arith, (here.is_field, (here.typed, c.requires.under_way.cleared c.args.plan.now.place.stage.field (trees_of_field c.index-fields-i.result c.index-roots-i.result) here.at)))

pub next-requires-clause-phase : goal.next-requires-clause-phase
next-requires-clause-phase g c = c.requires.phase

pub next-requires-clause-done : goal.next-requires-clause-done
next-requires-clause-done g c =
    let passes = c.in-Some.ensures.passes in
    let size = passes.count_is in
    let some = passes.some in
    inr (through_fits (g.S.Frozen.records c.args.store.now) (trees_of_field c.index-fields-i.result c.index-roots-i.result) c.args.plan.now.place passes.passed c.in-Some.passed.last c.requires.phase (omega arith)
    passes.through).1

pub returns-in-Some-clause-under_way : goal.returns-in-Some-clause-under_way
returns-in-Some-clause-under_way g c =
    let m = g.S.Frozen.records c.args.store.now in
    let plan = c.args.plan.now in
    let a = trees_of_field c.index-fields-i.result c.index-roots-i.result in
    let here = at_place (g.S.Store.ledger c.args.store.now) m c.args.fields.now c.args.roots.now c.args.root plan c.field-i.result
    c.requires.holds c.requires.under_way c.requires.sized c.field-i.ensures.field c.field-i.ensures.below c.index-fields-i.result c.index-roots-i.result c.index-fields-i.is c.index-roots-i.is in
    let passes = c.in-Some.ensures.passes in
    let size = passes.count_is in
    let some = passes.some in
    let fits = through_fits m a plan.place passes.passed c.in-Some.passed.last c.requires.phase (omega arith) passes.through in
    passed_way c.stage_law.ensures.others g.row.OFFSET_BITS c.args.root (g.S.Store.ledger c.args.store.now) m (trees_of c.args.fields.now c.args.roots.now) plan c.next.new.self a c.in-Some.passed.last c.requires.under_way
    c.requires.holds.are_fields.each here.at fits passes.cleared c.next.ensures.victim c.next.ensures.fields c.next.ensures.place c.next.ensures.copied

pub returns-in-Some-clause-passes : goal.returns-in-Some-clause-passes
returns-in-Some-clause-passes g c =
    let m = g.S.Frozen.records c.args.store.now in
    let plan = c.args.plan.now in
    let a = trees_of_field c.index-fields-i.result c.index-roots-i.result in
    let here = at_place (g.S.Store.ledger c.args.store.now) m c.args.fields.now c.args.roots.now c.args.root plan c.field-i.result
    c.requires.holds c.requires.under_way c.requires.sized c.field-i.ensures.field c.field-i.ensures.below c.index-fields-i.result c.index-roots-i.result c.index-fields-i.is c.index-roots-i.is in
    let passes = c.in-Some.ensures.passes in
    let size = passes.count_is in
    let some = passes.some in
    let fits = through_fits m a plan.place passes.passed c.in-Some.passed.last c.requires.phase (omega arith) passes.through in
    passes_some m (trees_of c.args.fields.now c.args.roots.now) plan c.next.new.self a c.in-Some.passed.last passes.passed c.in-Some.passed.keys here.at fits.1 passes.count_is passes.through
    c.next.ensures.victim c.next.ensures.fields c.next.ensures.place

pub returns-in-Some-clause-few : goal.returns-in-Some-clause-few
returns-in-Some-clause-few g c = c.in-Some.ensures.few

pub returns-in-Some-clause-same : goal.returns-in-Some-clause-same
returns-in-Some-clause-same g c = c.pass_clear.ensures.same

pub returns-in-None-clause-under_way : goal.returns-in-None-clause-under_way
returns-in-None-clause-under_way g c = c.requires.under_way

pub returns-in-None-clause-passes : goal.returns-in-None-clause-passes
returns-in-None-clause-passes g c =
    let m = g.S.Frozen.records c.args.store.now in
    let plan = c.args.plan.now in
    let here = at_place (g.S.Store.ledger c.args.store.now) m c.args.fields.now c.args.roots.now c.args.root plan c.field-i.result
    c.requires.holds c.requires.under_way c.requires.sized c.field-i.ensures.field c.field-i.ensures.below c.index-fields-i.result c.index-roots-i.result c.index-fields-i.is c.index-roots-i.is in
    passes_none m (trees_of c.args.fields.now c.args.roots.now) plan (trees_of_field c.index-fields-i.result c.index-roots-i.result) here.at

pub returns-in-None-clause-few : goal.returns-in-None-clause-few
returns-in-None-clause-few g c = omega arith

pub returns-in-None-clause-same : goal.returns-in-None-clause-same
returns-in-None-clause-same g c = c.pass_clear.ensures.same
