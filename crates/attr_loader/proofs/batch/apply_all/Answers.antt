use Rattle.std.proofs.Common.{◌≡◌, ◌∙◌, ◌+◌, refl, sym, subst, ap, arith, length, ◌++◌, ◌∷◌, [], List}
use Rattle.std.proofs.lemmas.List.{take_more}
use Rattle.std.specs.Prelude.{Some, ◌<◌, slice_get, take}
use Rattle.std.proofs.lemmas.Option.{slice_get_read}
use Rattle.list_lemmas.proofs.Each.{AllByRecursion-slice_get}
use Rattle.attr_types.specs.Lawful.{OpFits}
use Rattle.attribute_kinds.specs.Calls.{RefusesOperation}
use Rattle.attribute_kinds.specs.Counts.{NamesWidth}
use Rattle.attr_types.specs.declared.field.Field.{Field}
use Rattle.attr_loader.specs.Room.{after_values, values_of, IsMade, IsRefusedBy}
use Rattle.attr_loader.proofs.RoomRuns.{room_applied, room_on, room_refused, take_all}
use Rattle.attr_loader.specs.Batches.{skips_of, AddsSteps, AppliesAll}
use Rattle.attr_types.specs.declared.op.Op.{Op}
use Rattle.attr_loader.proofs.Applying.{applies_none, keeps_of, one_more, at_most_one, stops_at}
use Rattle.attr_loader.proofs.batch.apply_all.Goals as goal

pub loop-op-preserved : goal.loop-op-preserved
loop-op-preserved g c =
    let i = c.loop-op.invariant in
    let h = c.in-Ok.ensures in
    let ledger = g.S.Store.ledger in
    let start = c.args.attribute.now in
    let ops = c.args.ops.now in
    let keeps = keeps_of ledger c.loop-op.attribute c.apply.new.self h.keeps h.fields h.dense h.committed h.published in
    let more = one_more ledger start c.loop-op.attribute c.apply.new.self (take c.loop-op.op-index ops) c.op-item.result c.loop-op.skipped i.applies keeps h.table h.operations c.in-Ok.applied h.applied in
    let front = take_more ops c.loop-op.op-index c.op-item.result c.loop-op-test.true ∙ ap (λ x. take c.loop-op.op-index ops ++ x ∷ []) (sym c.op-item.is) in
    let done = i.done in
    let few = i.few in
    let one = at_most_one c.in-Ok.applied in
    let is = c.skips_of-skipped.ensures in
    record {
      applies = subst (λ n. AppliesAll ledger start c.apply.new.self (take (c.loop-op.op-index + 1) ops) (c.loop-op.skipped + n)) (sym is)
          (subst (λ (list : List Op). AppliesAll ledger start c.apply.new.self list (c.loop-op.skipped + skips_of c.in-Ok.applied)) (sym front) more);
      done = omega (arith, done);
      plan = h.plan ∙ i.plan;
      room = subst (λ (list : List Op). AddsSteps ledger start c.apply.new.self (λ steps. after_values steps (values_of start.fields start.table list))) (sym front)
          (room_on ledger start c.loop-op.attribute (λ steps. IsMade c.apply.new.self.dense (ledger c.apply.new.self.store) c.apply.new.self.fields c.apply.new.self.table steps)
          (take c.loop-op.op-index ops) c.op-item.result
          i.room i.applies.table i.applies.keeps.stays.fields
          (room_applied ledger c.loop-op.attribute c.apply.new.self c.op-item.result h.fields h.table h.dense
          (subst (λ (fs : List Field). OpFits fs c.op-item.result) (sym i.applies.keeps.stays.fields)
          (AllByRecursion-slice_get (OpFits start.fields) ops c.loop-op.op-index c.op-item.result c.requires.fit
          (slice_get_read ops (length ops) c.loop-op.op-index c.op-item.result refl c.loop-op-test.true c.op-item.is)))
          h.counts));
      few = omega (arith, few, one, is);
    }

pub loop-op-init : goal.loop-op-init
loop-op-init g c = record {
  applies = applies_none g.S.Store.ledger c.args.attribute.now;
  done = refl;
  few = omega arith;
  plan = refl;
  room = λ steps made. made;
}

pub returns-in-Err-Full-clause-applies : goal.returns-in-Err-Full-clause-applies
returns-in-Err-Full-clause-applies g c =
    let i = c.loop-op.invariant in
    let h = c.in-Err-Full.ensures in
    let all = c.apply.ensures in
    let ledger = g.S.Store.ledger in
    let start = c.args.attribute.now in
    let new = c.apply.new.self in
    let ops = c.args.ops.now in
    let before = c.loop-op.attribute in
    let done = i.done in
    let one = c.loop-op-test.true in
    let at : c.loop-op.op-index ≡ c.loop-op.done = omega (arith, done) in
    let below : c.loop-op.done < length ops = omega (arith, done, one) in
    rw c.in-Err-Full.field-0-is (stops_at ledger start before new ops c.op-item.result c.loop-op.done c.loop-op.skipped _ c.in-Err-Full.active c.in-Err-Full.held _ _ below
    (subst (λ n. slice_get ops n ≡ Some c.op-item.result) at (slice_get_read ops (length ops) c.loop-op.op-index c.op-item.result refl one c.op-item.is))
    (subst (λ n. AppliesAll ledger start before (take n ops) c.loop-op.skipped) at i.applies)
    (keeps_of ledger before new all.keeps all.fields all.dense all.committed all.published) all.keeps h.left
    (record { refused = h.refused; made = all.counts; width = h.widths; spares = h.spares; room = h.room }) c.in-Err-Full.field-0-is)

pub returns-in-Err-Full-clause-room : goal.returns-in-Err-Full-clause-room
returns-in-Err-Full-clause-room g c =
    let i = c.loop-op.invariant in
    let ledger = g.S.Store.ledger in
    let start = c.args.attribute.now in
    let new = c.apply.new.self in
    let ops = c.args.ops.now in
    let before = c.loop-op.attribute in
    let refused = subst (RefusesOperation (ledger before.store) (ledger new.store)) c.in-Err-Full.field-0-is c.in-Err-Full.ensures.refused in
    let names = subst (NamesWidth before.dense before.fields before.table c.op-item.result) c.in-Err-Full.field-0-is c.in-Err-Full.ensures.widths in
    let width = c.in-Err-Full.field-0-0 in
    let front = take_more ops c.loop-op.op-index c.op-item.result c.loop-op-test.true ∙ ap (λ x. take c.loop-op.op-index ops ++ x ∷ []) (sym c.op-item.is) in
    let done = i.done in
    let here : take (c.loop-op.done + 1) ops ≡ take c.loop-op.op-index ops ++ c.op-item.result ∷ [] = ap (λ n. take n ops) (omega (arith, done)) ∙ front in
    record {
      width = width;
      is = refused.is_width_of;
      whole = refused.made;
      adds = λ steps made.
          subst (λ (list : List Op). IsRefusedBy new.dense (ledger new.store) new.fields new.table (after_values steps (values_of start.fields start.table list)) width) (sym here)
          (room_on ledger start c.loop-op.attribute (λ s. IsRefusedBy new.dense (ledger new.store) new.fields new.table s width) (take c.loop-op.op-index ops) c.op-item.result i.room
          i.applies.table i.applies.keeps.stays.fields
          (room_refused ledger c.loop-op.attribute new c.op-item.result width (ap (λ v. v.fields) c.in-Err-Full.ensures.left) (ap (λ v. v.table) c.in-Err-Full.ensures.left) (ap (λ v. v.dense) c.in-Err-Full.ensures.left)
          (subst (λ (fs : List Field). OpFits fs c.op-item.result) (sym i.applies.keeps.stays.fields)
          (AllByRecursion-slice_get (OpFits start.fields) ops c.loop-op.op-index c.op-item.result c.requires.fit
          (slice_get_read ops (length ops) c.loop-op.op-index c.op-item.result refl c.loop-op-test.true c.op-item.is)))
          c.apply.ensures.counts names)
          steps made);
    }

pub returns-clause-room : goal.returns-clause-room
returns-clause-room g c =
    let i = c.loop-op.invariant in
    let ledger = g.S.Store.ledger in
    let start = c.args.attribute.now in
    let ops = c.args.ops.now in (
      i.plan,
      subst (λ (list : List Op). AddsSteps ledger start c.loop-op.attribute (λ steps. after_values steps (values_of start.fields start.table list)))
          (take_all ops c.loop-op.op-index (let over = c.loop-op-test.false in let most = c.loop-op.auto.op-index-end in omega arith)) i.room,
    )
