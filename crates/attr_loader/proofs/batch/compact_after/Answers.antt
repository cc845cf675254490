use Rattle.attr_loader.proofs.Applying.{keeps_table}
use Rattle.attr_loader.proofs.RoomRuns.{room_keys}
use Rattle.attr_loader.proofs.SmallRuns.{quiet_step}
use Rattle.attr_loader.proofs.batch.compact_after.Goals as goal

pub returns-in-Ok-clause-keeps : goal.returns-in-Ok-clause-keeps
returns-in-Ok-clause-keeps g c =
    let told = c.compact_step.ensures in
    keeps_table g.S.Store.ledger c.args.attribute.now c.compact_step.new.self told.keeps told.fields told.dense told.table told.operations told.committed told.published

pub returns-in-Err-Full-clause-keeps : goal.returns-in-Err-Full-clause-keeps
returns-in-Err-Full-clause-keeps g c =
    let told = c.compact_step.ensures in
    keeps_table g.S.Store.ledger c.args.attribute.now c.compact_step.new.self told.keeps told.fields told.dense told.table told.operations told.committed told.published

pub returns-in-Ok-clause-room : goal.returns-in-Ok-clause-room
returns-in-Ok-clause-room g c =
    let ledger = g.S.Store.ledger in
    room_keys ledger c.args.attribute.now c.compact_step.new.self c.compact_step.ensures.fields c.compact_step.ensures.table c.compact_step.ensures.dense c.compact_step.ensures.makes

pub returns-in-Err-Full-clause-room : goal.returns-in-Err-Full-clause-room
returns-in-Err-Full-clause-room g c =
    let ledger = g.S.Store.ledger in
    room_keys ledger c.args.attribute.now c.compact_step.new.self c.compact_step.ensures.fields c.compact_step.ensures.table c.compact_step.ensures.dense c.compact_step.ensures.makes

pub returns-in-Err-Memory-clause-room : goal.returns-in-Err-Memory-clause-room
returns-in-Err-Memory-clause-room g c =
    let ledger = g.S.Store.ledger in
    room_keys ledger c.args.attribute.now c.compact_step.new.self c.compact_step.ensures.fields c.compact_step.ensures.table c.compact_step.ensures.dense c.compact_step.ensures.makes

pub returns-in-Ok-clause-quiet : goal.returns-in-Ok-clause-quiet
returns-in-Ok-clause-quiet g c =
    let ledger = g.S.Store.ledger in
    quiet_step g.row.OFFSET_BITS ledger g.S.Frozen.records c.args.attribute.now c.compact_step.new.self 256 c.compact_step.result c.compact_step.ensures.steps c.compact_step.ensures.idle
    (g.met.S.Store.unfilled c.args.attribute.now.store)

pub returns-in-Err-Full-clause-quiet : goal.returns-in-Err-Full-clause-quiet
returns-in-Err-Full-clause-quiet g c =
    let ledger = g.S.Store.ledger in
    quiet_step g.row.OFFSET_BITS ledger g.S.Frozen.records c.args.attribute.now c.compact_step.new.self 256 c.compact_step.result c.compact_step.ensures.steps c.compact_step.ensures.idle
    (g.met.S.Store.unfilled c.args.attribute.now.store)

pub returns-in-Err-Memory-clause-quiet : goal.returns-in-Err-Memory-clause-quiet
returns-in-Err-Memory-clause-quiet g c =
    let ledger = g.S.Store.ledger in
    quiet_step g.row.OFFSET_BITS ledger g.S.Frozen.records c.args.attribute.now c.compact_step.new.self 256 c.compact_step.result c.compact_step.ensures.steps c.compact_step.ensures.idle
    (g.met.S.Store.unfilled c.args.attribute.now.store)
