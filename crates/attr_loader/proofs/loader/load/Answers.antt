use Rattle.std.proofs.Common.{◌≡◌, false, ◌<◌, ◌≤◌, ◌∙◌, ◌++◌, List, length, length-take, None, refl, sym, ap, subst, arith, Err}
use Rattle.std.proofs.lemmas.Result.{err_from_is_err_and}
use Rattle.std.specs.Prelude.{take, drop}
use Rattle.std.proofs.lemmas.List.{length-drop, drop-drop}
use Rattle.std.proofs.lemmas.Bool.{eqb-true, eqb-false}
use Rattle.attr_types.specs.declared.op.Op.{Op}
use Rattle.attr_loader.specs.Batches.{LoadsBatch, LoadsRoom}
use Rattle.attr_loader.specs.Runs.{IsSmall}
use Rattle.attr_loader.specs.Room.{load_of, HasMadeNothing}
use Rattle.attr_loader.proofs.Points.{next_point}
use Rattle.attr_loader.proofs.RoomRuns.{owed_at, runs_begin, runs_on, take_all}
use Rattle.attr_loader.proofs.SmallRuns.{never_full, quiet_begin, quiet_on}
use Rattle.attr_loader.proofs.Stands.{front, front_of, starts, stands_on, more_few, part-long, finds_no_room, given_up, ends_all}
use Rattle.attr_loader.proofs.loader.load.Goals as goal

pub loop-rest-init : goal.loop-rest-init
loop-rest-init g c = record {
  rest = refl;
  within = omega arith;
  room = λ one nothing. runs_begin g.S.Store.ledger c.args.batch c.args.ops.now c.args.attribute.now c.requires.start.table one nothing;
  small = λ one nothing plan small below. quiet_begin g.S.Store.ledger c.args.batch c.args.ops.now c.args.attribute.now c.requires.start.table one nothing plan;
  stands = starts g.S.Store.ledger c.args.batch c.args.ops.now c.args.attribute.now c.image_law.ensures.empty c.requires.start;
}

pub overflow_add-skipped : goal.overflow_add-skipped
overflow_add-skipped g c =
    let ledger = g.S.Store.ledger in
    let i = c.loop-rest.invariant in
    let part = c.split_at.result.0.now in
    let loads = subst (LoadsBatch ledger c.loop-rest.attribute c.load_batch.new.attribute part) c.in-Done.is c.in_ok-more.ensures.loads in
    let part_is = c.split_at.ensures.front ∙ ap (λ n. take n c.loop-rest.rest.now) c.min.ensures in
    let some = eqb-false (length c.loop-rest.rest.now) 0 (sym c.loop-rest-test.ensures) in
    let long = ap length i.rest ∙ length-drop c.loop-rest.operations c.args.ops.now in
    let few = more_few ledger c.args.batch c.args.ops.now c.args.attribute.now c.loop-rest.attribute c.loop-rest.operations c.loop-rest.skipped i.stands
    c.loop-rest.rest.now part i.rest part_is (omega (arith, some, long)) c.in-Done.more loads.applies.skips in
    let most = c.requires.few in
    omega (arith, few, most)

pub loop-rest-preserved : goal.loop-rest-preserved
loop-rest-preserved g c =
    let ledger = g.S.Store.ledger in
    let i = c.loop-rest.invariant in
    let part = c.split_at.result.0.now in
    let loads = subst (LoadsBatch ledger c.loop-rest.attribute c.load_batch.new.attribute part) c.in-Done.is c.in_ok-more.ensures.loads in
    let part_is = c.split_at.ensures.front ∙ ap (λ n. take n c.loop-rest.rest.now) c.min.ensures in
    let some = eqb-false (length c.loop-rest.rest.now) 0 (sym c.loop-rest-test.ensures) in
    let long = ap length i.rest ∙ length-drop c.loop-rest.operations c.args.ops.now in
    let below : c.loop-rest.operations < length c.args.ops.now = omega (arith, some, long) in
    let size = part-long ledger c.args.batch c.args.ops.now c.args.attribute.now c.loop-rest.attribute c.loop-rest.operations c.loop-rest.skipped i.stands
    c.loop-rest.rest.now part i.rest part_is below in
    let left = c.split_at.ensures.back in
    record {
      rest = left ∙ ap (λ n. drop n c.loop-rest.rest.now) (sym c.split_at.ensures.front_len) ∙ ap (λ (xs : List Op). drop (length part) xs) i.rest ∙ drop-drop (length part) c.loop-rest.operations c.args.ops.now;
      within = omega (arith, size, below);
      room = λ one nothing.
          let runs = i.room one nothing in
          runs_on ledger c.args.batch c.args.ops.now c.args.attribute.now c.loop-rest.attribute c.load_batch.new.attribute c.loop-rest.operations c.in-Done.more runs part i.stands.stays.fields i.stands.table
          (front ledger c.args.batch c.args.ops.now c.args.attribute.now c.loop-rest.attribute c.loop-rest.operations c.loop-rest.skipped i.stands c.loop-rest.rest.now part i.rest part_is below)
          (next_point c.args.batch (length c.args.ops.now) runs.last c.loop-rest.operations (length part) runs.point below size)
          (subst (LoadsRoom ledger c.loop-rest.attribute c.load_batch.new.attribute part) c.in-Done.is c.in_ok-more.ensures.room);
      small = λ one nothing plan small more.
          let runs = i.small one nothing plan small below in
          let whole = take_all part (length part) refl in
          quiet_on ledger c.args.batch c.args.ops.now c.args.attribute.now c.loop-rest.attribute c.loop-rest.operations runs part (length part) (ap length whole) (omega (arith, size, below, c.requires.some))
          (omega (arith, more)) i.stands.stays.fields i.stands.table
          (front ledger c.args.batch c.args.ops.now c.args.attribute.now c.loop-rest.attribute c.loop-rest.operations c.loop-rest.skipped i.stands c.loop-rest.rest.now part i.rest part_is below
          ∙ ap (λ (xs : List Op). take c.loop-rest.operations c.args.ops.now ++ xs) (sym whole))
          c.load_batch.new.attribute c.in-Done.more whole i.stands.stays.sizes (g.met.S.Store.limits c.args.attribute.now.store).some_words small more
          (subst (LoadsRoom ledger c.loop-rest.attribute c.load_batch.new.attribute part) c.in-Done.is c.in_ok-more.ensures.room);
      stands = stands_on ledger c.args.batch c.args.ops.now c.args.attribute.now c.loop-rest.attribute c.loop-rest.operations c.loop-rest.skipped i.stands
          c.loop-rest.rest.now part i.rest part_is below c.load_batch.new.attribute c.in-Done.more loads;
    }

pub returns-in-Full-clause-loads : goal.returns-in-Full-clause-loads
returns-in-Full-clause-loads g c =
    let ledger = g.S.Store.ledger in
    let i = c.loop-rest.invariant in
    let part = c.split_at.result.0.now in
    let full = subst (LoadsBatch ledger c.loop-rest.attribute c.load_batch.new.attribute part) c.in-Full.is c.in_ok-more.ensures.loads in
    let part_is = c.split_at.ensures.front ∙ ap (λ n. take n c.loop-rest.rest.now) c.min.ensures in
    let some = eqb-false (length c.loop-rest.rest.now) 0 (sym c.loop-rest-test.ensures) in
    let long = ap length i.rest ∙ length-drop c.loop-rest.operations c.args.ops.now in
    let below : c.loop-rest.operations < length c.args.ops.now = omega (arith, some, long) in
    let new = c.load_batch.new.attribute in
    let owed = λ (off : c.args.attribute.now.dense ≡ false) (one : length c.args.attribute.now.fields ≡ 1) (nothing : HasMadeNothing (ledger c.args.attribute.now.store)).
    owed_at ledger c.args.batch c.args.ops.now c.args.attribute.now c.loop-rest.attribute new c.loop-rest.operations (i.room one nothing) part c.in-Full.refused c.in-Full.active c.in-Full.held
    i.stands.stays.fields i.stands.table
    (front_of ledger c.args.batch c.args.ops.now c.args.attribute.now c.loop-rest.attribute c.loop-rest.operations c.loop-rest.skipped i.stands c.loop-rest.rest.now part i.rest part_is below
    c.in-Full.refused full.most)
    (subst (LoadsRoom ledger c.loop-rest.attribute new part) c.in-Full.is c.in_ok-more.ensures.room) c.requires.some below
    (full.keeps.stays.fields ∙ i.stands.stays.fields) (full.keeps.stays.dense ∙ i.stands.stays.dense ∙ off) (full.keeps.stays.sizes ∙ i.stands.stays.sizes) full.full.free
    (g.met.S.Store.limits new.store).some_words (g.met.S.Store.counted new.store) (g.met.S.Store.few_buffers new.store) in
    let small = λ (one : length c.args.attribute.now.fields ≡ 1) (nothing : HasMadeNothing (ledger c.args.attribute.now.store)) (plan : c.args.attribute.now.plan ≡ None)
    (many : 8 ≤ (ledger c.args.attribute.now.store).work.sizes.buffers)
    (is : IsSmall (load_of (ledger c.args.attribute.now.store).work.sizes.buffers (ledger c.args.attribute.now.store).work.sizes.words c.args.attribute.now.fields c.args.batch c.args.ops.now)).
    let first = full.some in
    let most = full.most in
    let size = part-long ledger c.args.batch c.args.ops.now c.args.attribute.now c.loop-rest.attribute c.loop-rest.operations c.loop-rest.skipped i.stands c.loop-rest.rest.now part i.rest part_is below in
    let fits = length-take c.in-Full.refused part in
    never_full ledger c.args.batch c.args.ops.now c.args.attribute.now c.loop-rest.attribute c.loop-rest.operations (i.small one nothing plan is below) part c.in-Full.refused
    (omega (arith, fits, most)) (omega (arith, first)) (omega (arith, size, most, below)) i.stands.stays.fields i.stands.table
    (front_of ledger c.args.batch c.args.ops.now c.args.attribute.now c.loop-rest.attribute c.loop-rest.operations c.loop-rest.skipped i.stands c.loop-rest.rest.now part i.rest part_is below
    c.in-Full.refused full.most)
    new (subst (LoadsRoom ledger c.loop-rest.attribute new part) c.in-Full.is c.in_ok-more.ensures.room)
    (full.keeps.stays.fields ∙ i.stands.stays.fields) (full.keeps.stays.sizes ∙ i.stands.stays.sizes) (g.met.S.Store.limits new.store).some_words full.full.free
    (g.met.S.Store.counted new.store) (g.met.S.Store.few_buffers new.store) many is in
    finds_no_room ledger c.args.batch c.args.ops.now c.args.attribute.now c.loop-rest.attribute c.loop-rest.operations c.loop-rest.skipped i.stands
    c.loop-rest.rest.now part i.rest part_is below new c.in-Full.refused c.in-Full.active c.in-Full.held c.requires.some full owed small (g.met.S.Store.timely new.store)

pub returns-clause-loads : goal.returns-clause-loads
returns-clause-loads g c =
    let i = c.loop-rest.invariant in
    let none = eqb-true (length c.loop-rest.rest.now) 0 (sym c.loop-rest-test.ensures) in
    let long = ap length i.rest ∙ length-drop c.loop-rest.operations c.args.ops.now in
    let within = i.within in
    let all : c.loop-rest.operations ≡ length c.args.ops.now = omega (arith, none, long, within) in
    ends_all g.S.Store.ledger c.args.batch c.args.ops.now c.args.attribute.now c.loop-rest.attribute c.loop-rest.operations c.loop-rest.skipped i.stands all

pub returns-in_err-more-clause-spent : goal.returns-in_err-more-clause-spent
returns-in_err-more-clause-spent g c =
    let ledger = g.S.Store.ledger in
    let i = c.loop-rest.invariant in
    let part = c.split_at.result.0.now in
    let part_is = c.split_at.ensures.front ∙ ap (λ n. take n c.loop-rest.rest.now) c.min.ensures in
    let some = eqb-false (length c.loop-rest.rest.now) 0 (sym c.loop-rest-test.ensures) in
    let long = ap length i.rest ∙ length-drop c.loop-rest.operations c.args.ops.now in
    let p = err_from_is_err_and c.from_residual.result c.from_residual.ensures.1 in
    rw (p.1 ∙ ap Err p.2) (given_up ledger c.args.batch c.args.ops.now c.args.attribute.now c.loop-rest.attribute c.loop-rest.operations c.loop-rest.skipped i.stands
    c.loop-rest.rest.now part i.rest part_is (omega (arith, some, long)) c.requires.some c.in_err-more.field-0.0 c.in_err-more.ensures.spent)

-- (place 1: an edit of must-fail/ puts an answer of its own here)
-- (place 2: an edit of must-fail/ puts an answer of its own here)
