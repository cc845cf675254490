use Rattle.std.proofs.Common.{◌+◌, ap, sym, ◌∙◌, arith}
use Rattle.arena_api.specs.Calls.{padded}
use Rattle.mem_work.specs.ProofsForMemory.{active_width-by}
use Rattle.arena_api.proofs.Padded.{length-padded}
use Rattle.mem_work.proofs.Puts.{view-put, records-put, lawful-put, stored-put}
use Rattle.mem_work.specs.Marks.{mark_at, with_marks}
use Rattle.mem_work.proofs.Marked.{mark-word}
use Rattle.mem_work.proofs.Ranges.{width-range, stamps-range, unused-range}
use Rattle.mem_work.proofs.memory.MemWorkWork.put.Goals as goal

pub invariant_of-self-clause-stamped : goal.invariant_of-self-clause-stamped
invariant_of-self-clause-stamped g c =
    let s = c.args.self.now in
    rw (c.put.ensures.stamps, c.next_stamp.ensures)
    (stamps-range s.cells.table.items g.row.OFFSET_BITS s.cells.buffers s.cells.words c.args.entry c.args.width (sym (active_width-by _ _) ∙ c.requires.width) c.requires.entry (padded c.args.words.now c.args.width)
    (length-padded c.args.words.now c.args.width c.requires.fits) (sym s.cells.table.ok.0 ∙ s.cells.room) s.cells.stamps.items (s.last + 1) (sym s.cells.stamps.ok.0 ∙ s.cells.stamped) s.stamped)

pub invariant_of-self-clause-unused : goal.invariant_of-self-clause-unused
invariant_of-self-clause-unused g c =
    let s = c.args.self.now in
    let e = c.put.ensures in
    rw (e.table, e.stamps, e.buffers, e.words, c.next_stamp.ensures)
    (unused-range s.cells.table.items g.row.OFFSET_BITS s.cells.buffers s.cells.words c.args.entry c.args.width (sym (active_width-by _ _) ∙ c.requires.width) c.requires.entry (padded c.args.words.now c.args.width)
    (length-padded c.args.words.now c.args.width c.requires.fits) (sym s.cells.table.ok.0 ∙ s.cells.room)
    s.cells.stamps.items (s.last + 1) (sym s.cells.stamps.ok.0 ∙ s.cells.stamped) (s.last + 1) s.unused)

pub invariant_of-self-clause-lawful : goal.invariant_of-self-clause-lawful
invariant_of-self-clause-lawful g c =
    let s = c.args.self.now in
    let e = c.put.ensures in
    rw (e.table, e.buffers, e.words)
    (lawful-put g.L.Layout.reaches g.L.Layout.lawful g.L.Layout.present g.L.Layout.stays s.shape s.cells.table.items s.cells.stamps.items g.row.OFFSET_BITS s.cells.buffers s.cells.words s.last s.root s.lawful
    c.args.entry c.args.width (sym (active_width-by _ _) ∙ c.requires.width) c.requires.entry (padded c.args.words.now c.args.width) (length-padded c.args.words.now c.args.width c.requires.fits)
    (sym s.cells.table.ok.0 ∙ s.cells.room) (sym s.cells.stamps.ok.0 ∙ s.cells.stamped)
    (c.requires.unkept s.last (record { from = omega arith; to = omega arith })))

pub returns-clause-records : goal.returns-clause-records
returns-clause-records g c =
    let s = c.args.self.now in
    let e = c.put.ensures in
    rw (e.table, e.stamps, e.buffers, e.words, c.next_stamp.ensures)
    (λ k q. records-put g.L.Layout.reaches g.L.Layout.lawful g.L.Layout.present g.L.Layout.stays s.shape s.cells.table.items s.cells.stamps.items g.row.OFFSET_BITS s.cells.buffers s.cells.words s.last s.root s.lawful
    c.args.entry c.args.width (sym (active_width-by _ _) ∙ c.requires.width) c.requires.entry (padded c.args.words.now c.args.width) (length-padded c.args.words.now c.args.width c.requires.fits)
    (sym s.cells.table.ok.0 ∙ s.cells.room) (sym s.cells.stamps.ok.0 ∙ s.cells.stamped)
    (c.requires.unkept s.last (record { from = omega arith; to = omega arith })) q k)

pub returns-clause-knows : goal.returns-clause-knows
returns-clause-knows g c =
    let s = c.args.self.now in
    let e = c.put.ensures in
    rw (e.table, e.stamps, e.marks, e.buffers, e.words, c.next_stamp.ensures)
    (ap (λ v. with_marks v s.cells.marks.items s.generation s.first)
    (view-put g.L.Layout.reaches g.L.Layout.lawful g.L.Layout.present g.L.Layout.stays s.shape s.cells.table.items s.cells.stamps.items g.row.OFFSET_BITS s.cells.buffers s.cells.words s.last s.root s.lawful
    c.args.entry c.args.width (sym (active_width-by _ _) ∙ c.requires.width) c.requires.entry (padded c.args.words.now c.args.width) (length-padded c.args.words.now c.args.width c.requires.fits)
    (sym s.cells.table.ok.0 ∙ s.cells.room) (sym s.cells.stamps.ok.0 ∙ s.cells.stamped)
    (c.requires.unkept s.last (record { from = omega arith; to = omega arith }))))

pub invariant_of-self-clause-marks : goal.invariant_of-self-clause-marks
invariant_of-self-clause-marks g c =
    let s = c.args.self.now in
    let e = c.put.ensures in
    rw (e.table, e.marks, e.words)
    (λ b. mark-word s.generation s.first s.last _ _ (mark_at s.cells.marks.items b)
    (width-range s.cells.table.items g.row.OFFSET_BITS s.cells.buffers s.cells.words c.args.entry c.args.width (sym (active_width-by _ _) ∙ c.requires.width) c.requires.entry (padded c.args.words.now c.args.width)
    (length-padded c.args.words.now c.args.width c.requires.fits) (sym s.cells.table.ok.0 ∙ s.cells.room) b) (s.marks b))

pub returns-clause-apart : goal.returns-clause-apart
returns-clause-apart g c q i ne =
    let s = c.args.self.now in
    let e = c.put.ensures in
    rw (e.table, e.stamps, e.buffers, e.words, c.next_stamp.ensures)
    (stored-put g.L.Layout.reaches g.L.Layout.lawful g.L.Layout.present g.L.Layout.stays s.shape s.cells.table.items s.cells.stamps.items g.row.OFFSET_BITS s.cells.buffers s.cells.words s.last s.root s.lawful
    c.args.entry c.args.width (sym (active_width-by _ _) ∙ c.requires.width) c.requires.entry (padded c.args.words.now c.args.width) (length-padded c.args.words.now c.args.width c.requires.fits)
    (sym s.cells.table.ok.0 ∙ s.cells.room) (sym s.cells.stamps.ok.0 ∙ s.cells.stamped)
    (c.requires.unkept s.last (record { from = omega arith; to = omega arith })) q i ne)
