use Rattle.std.proofs.Common.{subst, refl}
use Rattle.attr_loader.specs.Batches.{AppliesBatch, AppliesRoom}
use Rattle.attr_loader.proofs.RoomRuns.{named_of, room_full, room_of}
use Rattle.attr_loader.proofs.Applying.{loads_of}
use Rattle.attr_loader.proofs.batch.load_batch.Goals as goal

pub returns-in-Done-clause-loads : goal.returns-in-Done-clause-loads
returns-in-Done-clause-loads g c =
    let ledger = g.S.Store.ledger in
    let applies = subst (AppliesBatch ledger c.args.attribute.now c.apply_all.new.attribute c.args.ops.now) c.in-Done.is c.in_ok-skipped.ensures.applies in
    loads_of ledger c.args.attribute.now c.apply_all.new.attribute c.commit_all.new.attribute c.args.ops.now c.in-Done.skipped _ c.commit_all.result c.requires.some refl applies c.commit_all.ensures.commits

pub returns-in-Done-clause-room : goal.returns-in-Done-clause-room
returns-in-Done-clause-room g c =
    let ledger = g.S.Store.ledger in
    let room = subst (AppliesRoom ledger c.args.attribute.now c.apply_all.new.attribute c.args.ops.now) c.in-Done.is c.in_ok-skipped.ensures.room in
    let applies = subst (AppliesBatch ledger c.args.attribute.now c.apply_all.new.attribute c.args.ops.now) c.in-Done.is c.in_ok-skipped.ensures.applies in
    room_of ledger c.args.attribute.now c.apply_all.new.attribute c.commit_all.new.attribute c.args.ops.now c.in-Done.skipped _ c.commit_all.result refl room
    applies.keeps.stays.sizes applies.keeps.stays.fields applies.keeps.stays.dense
    (named_of ledger c.apply_all.new.attribute c.commit_all.new.attribute _ c.in-Done.skipped c.commit_all.result c.commit_all.ensures.commits) c.commit_all.ensures.room

pub returns-in-Full-clause-loads : goal.returns-in-Full-clause-loads
returns-in-Full-clause-loads g c =
    subst (AppliesBatch g.S.Store.ledger c.args.attribute.now c.apply_all.new.attribute c.args.ops.now) c.in-Full.is c.in_ok-skipped.ensures.applies

pub returns-in-Full-clause-room : goal.returns-in-Full-clause-room
returns-in-Full-clause-room g c =
    let ledger = g.S.Store.ledger in
    room_full ledger c.args.attribute.now c.apply_all.new.attribute c.args.ops.now c.in-Full.refused c.in-Full.active c.in-Full.held
    (subst (AppliesRoom ledger c.args.attribute.now c.apply_all.new.attribute c.args.ops.now) c.in-Full.is c.in_ok-skipped.ensures.room)
