use Rattle.std.proofs.Common.{◌+◌, ◌<◌, sym, ◌∙◌, arith}
use Rattle.mem_work.proofs.Cleared.{lawful-cleared, records-cleared, stamped-cleared, unused-cleared, marks-cleared, view-cleared}
use Rattle.mem_work.proofs.memory.MemWorkWork.retire_buffer.Goals as goal

pub invariant_of-self-clause-stamped : goal.invariant_of-self-clause-stamped
invariant_of-self-clause-stamped g c =
    let s = c.args.self.now in
    let e = c.retire.ensures in
    let some : 0 < s.cells.words = omega (arith, s.cells.some_words) in
    rw e.stamps (stamped-cleared g.L.Layout.reaches g.L.Layout.lawful g.L.Layout.present g.L.Layout.stays s.shape s.cells.table.items s.cells.stamps.items g.row.OFFSET_BITS s.cells.buffers s.cells.words s.last s.root
    s.lawful c.args.buffer c.requires.below some (sym s.cells.table.ok.0 ∙ s.cells.room) (sym s.cells.stamps.ok.0 ∙ s.cells.stamped) c.requires.uncommitted c.requires.unstored (s.last + 1) s.stamped)

pub invariant_of-self-clause-unused : goal.invariant_of-self-clause-unused
invariant_of-self-clause-unused g c =
    let s = c.args.self.now in
    let e = c.retire.ensures in
    let some : 0 < s.cells.words = omega (arith, s.cells.some_words) in
    rw (e.table, e.stamps, e.buffers, e.words) (unused-cleared g.L.Layout.reaches g.L.Layout.lawful g.L.Layout.present g.L.Layout.stays s.shape s.cells.table.items s.cells.stamps.items g.row.OFFSET_BITS s.cells.buffers
    s.cells.words s.last s.root s.lawful c.args.buffer c.requires.below some (sym s.cells.table.ok.0 ∙ s.cells.room) (sym s.cells.stamps.ok.0 ∙ s.cells.stamped) c.requires.uncommitted c.requires.unstored s.unused)

pub invariant_of-self-clause-marks : goal.invariant_of-self-clause-marks
invariant_of-self-clause-marks g c =
    let s = c.args.self.now in
    let e = c.retire.ensures in
    let some : 0 < s.cells.words = omega (arith, s.cells.some_words) in
    rw (e.table, e.marks, e.words) (marks-cleared g.L.Layout.reaches g.L.Layout.lawful g.L.Layout.present g.L.Layout.stays s.shape s.cells.table.items s.cells.stamps.items g.row.OFFSET_BITS s.cells.buffers s.cells.words
    s.last s.root s.lawful c.args.buffer c.requires.below some (sym s.cells.table.ok.0 ∙ s.cells.room) (sym s.cells.stamps.ok.0 ∙ s.cells.stamped) c.requires.uncommitted c.requires.unstored s.cells.marks.items
    (sym s.cells.marks.ok.0 ∙ s.cells.marked) s.generation s.first s.marks)

pub invariant_of-self-clause-lawful : goal.invariant_of-self-clause-lawful
invariant_of-self-clause-lawful g c =
    let s = c.args.self.now in
    let e = c.retire.ensures in
    let some : 0 < s.cells.words = omega (arith, s.cells.some_words) in
    rw (e.table, e.buffers, e.words) (lawful-cleared g.L.Layout.reaches g.L.Layout.lawful g.L.Layout.present g.L.Layout.stays s.shape s.cells.table.items s.cells.stamps.items g.row.OFFSET_BITS s.cells.buffers
    s.cells.words s.last s.root s.lawful c.args.buffer c.requires.below some (sym s.cells.table.ok.0 ∙ s.cells.room) (sym s.cells.stamps.ok.0 ∙ s.cells.stamped) c.requires.uncommitted c.requires.unstored)

pub returns-clause-knows : goal.returns-clause-knows
returns-clause-knows g c =
    let s = c.args.self.now in
    let e = c.retire.ensures in
    let some : 0 < s.cells.words = omega (arith, s.cells.some_words) in
    rw (e.table, e.stamps, e.marks, e.buffers, e.words) (view-cleared g.L.Layout.reaches g.L.Layout.lawful g.L.Layout.present g.L.Layout.stays s.shape s.cells.table.items s.cells.stamps.items g.row.OFFSET_BITS
    s.cells.buffers s.cells.words s.last s.root s.lawful c.args.buffer c.requires.below some (sym s.cells.table.ok.0 ∙ s.cells.room)
    (sym s.cells.stamps.ok.0 ∙ s.cells.stamped) c.requires.uncommitted c.requires.unstored s.cells.marks.items (sym s.cells.marks.ok.0 ∙ s.cells.marked) s.generation s.first)

pub returns-clause-records : goal.returns-clause-records
returns-clause-records g c =
    let s = c.args.self.now in
    let e = c.retire.ensures in
    let some : 0 < s.cells.words = omega (arith, s.cells.some_words) in
    rw (e.table, e.stamps, e.buffers, e.words) (λ k q. records-cleared g.L.Layout.reaches g.L.Layout.lawful g.L.Layout.present g.L.Layout.stays s.shape s.cells.table.items s.cells.stamps.items g.row.OFFSET_BITS
    s.cells.buffers s.cells.words s.last s.root s.lawful c.args.buffer c.requires.below some (sym s.cells.table.ok.0 ∙ s.cells.room)
    (sym s.cells.stamps.ok.0 ∙ s.cells.stamped) c.requires.uncommitted c.requires.unstored q k)
