use Rattle.std.proofs.Common.{sym, ◌∙◌, ◌<◌, arith}
use Rattle.mem_work.proofs.Views.{hand_out-view, hand_out-records, hand_out-lawful, hand_out-unused, hand_out-marks}
use Rattle.mem_work.proofs.memory.MemWorkWork.hand_out.Goals as goal

pub invariant_of-self-clause-stamped : goal.invariant_of-self-clause-stamped
invariant_of-self-clause-stamped g c = rw c.hand_out.ensures.stamps c.args.self.now.stamped

pub invariant_of-self-clause-unused : goal.invariant_of-self-clause-unused
invariant_of-self-clause-unused g c =
    let s = c.args.self.now in
    let e = c.hand_out.ensures in
    let some : 0 < s.cells.words = omega (arith, s.cells.some_words) in
    rw (e.stamps, e.buffers, e.words)
    (hand_out-unused g.L.Layout.reaches g.L.Layout.lawful g.L.Layout.present g.L.Layout.stays s.shape s.cells.table.items s.cells.stamps.items g.row.OFFSET_BITS s.cells.buffers s.cells.words s.last s.root s.lawful
    s.cells.marks.items c.args.width c.requires some (sym s.cells.table.ok.0 ∙ s.cells.room) (sym s.cells.stamps.ok.0 ∙ s.cells.stamped) s.unused c.hand_out.result _ e.lowest e.handed e.refused)

pub invariant_of-self-clause-lawful : goal.invariant_of-self-clause-lawful
invariant_of-self-clause-lawful g c =
    let s = c.args.self.now in
    let e = c.hand_out.ensures in
    let some : 0 < s.cells.words = omega (arith, s.cells.some_words) in
    rw (e.buffers, e.words)
    (hand_out-lawful g.L.Layout.reaches g.L.Layout.lawful g.L.Layout.present g.L.Layout.stays s.shape s.cells.table.items s.cells.stamps.items g.row.OFFSET_BITS s.cells.buffers s.cells.words s.last s.root s.lawful
    s.cells.marks.items c.args.width c.requires some (sym s.cells.table.ok.0 ∙ s.cells.room) (sym s.cells.stamps.ok.0 ∙ s.cells.stamped) s.unused c.hand_out.result _ e.lowest e.handed e.refused)

pub returns-clause-handed : goal.returns-clause-handed
returns-clause-handed g c =
    let s = c.args.self.now in
    let e = c.hand_out.ensures in
    let some : 0 < s.cells.words = omega (arith, s.cells.some_words) in
    rw (e.stamps, e.marks, e.buffers, e.words)
    (hand_out-view g.L.Layout.reaches g.L.Layout.lawful g.L.Layout.present g.L.Layout.stays s.shape s.cells.table.items s.cells.stamps.items g.row.OFFSET_BITS s.cells.buffers s.cells.words s.last s.root s.lawful
    s.cells.marks.items c.args.width c.requires some (sym s.cells.table.ok.0 ∙ s.cells.room) (sym s.cells.stamps.ok.0 ∙ s.cells.stamped) s.unused s.generation s.first c.hand_out.result _ e.lowest e.handed)

pub returns-clause-records : goal.returns-clause-records
returns-clause-records g c =
    let s = c.args.self.now in
    let e = c.hand_out.ensures in
    let some : 0 < s.cells.words = omega (arith, s.cells.some_words) in
    rw (e.stamps, e.buffers, e.words)
    (hand_out-records g.L.Layout.reaches g.L.Layout.lawful g.L.Layout.present g.L.Layout.stays s.shape s.cells.table.items s.cells.stamps.items g.row.OFFSET_BITS s.cells.buffers s.cells.words s.last s.root s.lawful
    s.cells.marks.items c.args.width c.requires some (sym s.cells.table.ok.0 ∙ s.cells.room) (sym s.cells.stamps.ok.0 ∙ s.cells.stamped) s.unused c.hand_out.result _ e.lowest e.handed e.refused)

pub invariant_of-self-clause-marks : goal.invariant_of-self-clause-marks
invariant_of-self-clause-marks g c =
    let s = c.args.self.now in
    let e = c.hand_out.ensures in
    let some : 0 < s.cells.words = omega (arith, s.cells.some_words) in
    rw (e.marks, e.words)
    (hand_out-marks g.L.Layout.reaches g.L.Layout.lawful g.L.Layout.present g.L.Layout.stays s.shape s.cells.table.items s.cells.stamps.items g.row.OFFSET_BITS s.cells.buffers s.cells.words s.last s.root s.lawful
    s.cells.marks.items c.args.width c.requires some (sym s.cells.table.ok.0 ∙ s.cells.room)
    (sym s.cells.stamps.ok.0 ∙ s.cells.stamped) s.unused s.generation s.first c.hand_out.result _ e.lowest e.handed e.refused s.marks)
