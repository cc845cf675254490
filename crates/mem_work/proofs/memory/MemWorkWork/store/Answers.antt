use Rattle.std.proofs.Common.{ap, sym, ◌∙◌, arith}
use Rattle.mem_work.proofs.Views.{view-store, records-store, lawful-store, stamps-store, unused-store}
use Rattle.mem_work.specs.Marks.{mark_at, with_marks}
use Rattle.mem_work.proofs.Standing.{width-store}
use Rattle.mem_work.proofs.Marked.{mark-word}
use Rattle.mem_work.proofs.WidthLemmas.{entry-by, inside-by}
use Rattle.mem_work.proofs.memory.MemWorkWork.store.Goals as goal

pub invariant_of-self-clause-stamped : goal.invariant_of-self-clause-stamped
invariant_of-self-clause-stamped g c =
    let s = c.args.self.now in
    rw (c.store.ensures.stamps, c.next_stamp.ensures)
    (stamps-store g.L.Layout.reaches g.L.Layout.lawful g.L.Layout.present g.L.Layout.stays s.shape s.cells.table.items s.cells.stamps.items g.row.OFFSET_BITS s.cells.buffers s.cells.words s.last s.root s.lawful
    c.args.entry c.args.i (entry-by _ _ _ _ _ _ c.requires.word.entry) (inside-by _ _ _ c.requires.word.inside) (sym s.cells.stamps.ok.0 ∙ s.cells.stamped) s.stamped)

pub invariant_of-self-clause-unused : goal.invariant_of-self-clause-unused
invariant_of-self-clause-unused g c =
    let s = c.args.self.now in
    let e = c.store.ensures in
    rw (e.table, e.stamps, e.buffers, e.words, c.next_stamp.ensures)
    (unused-store g.L.Layout.reaches g.L.Layout.lawful g.L.Layout.present g.L.Layout.stays s.shape s.cells.table.items s.cells.stamps.items g.row.OFFSET_BITS s.cells.buffers s.cells.words s.last s.root s.lawful
    c.args.entry c.args.i (entry-by _ _ _ _ _ _ c.requires.word.entry) (inside-by _ _ _ c.requires.word.inside) (sym s.cells.stamps.ok.0 ∙ s.cells.stamped) c.args.word s.unused)

pub invariant_of-self-clause-lawful : goal.invariant_of-self-clause-lawful
invariant_of-self-clause-lawful g c =
    let s = c.args.self.now in
    let e = c.store.ensures in
    rw (e.table, e.buffers, e.words)
    (lawful-store g.L.Layout.reaches g.L.Layout.lawful g.L.Layout.present g.L.Layout.stays s.shape s.cells.table.items s.cells.stamps.items g.row.OFFSET_BITS s.cells.buffers s.cells.words s.last s.root s.lawful
    c.args.entry c.args.i c.args.word (entry-by _ _ _ _ _ _ c.requires.word.entry) (inside-by _ _ _ c.requires.word.inside)
    (c.requires.unkept s.last (record { from = omega arith; to = omega arith })))

pub returns-clause-knows : goal.returns-clause-knows
returns-clause-knows g c =
    let s = c.args.self.now in
    let e = c.store.ensures in
    rw (e.table, e.stamps, e.marks, e.buffers, e.words, c.next_stamp.ensures)
    (ap (λ v. with_marks v s.cells.marks.items s.generation s.first)
    (view-store g.L.Layout.reaches g.L.Layout.lawful g.L.Layout.present g.L.Layout.stays s.shape s.cells.table.items s.cells.stamps.items g.row.OFFSET_BITS s.cells.buffers s.cells.words s.last s.root s.lawful
    c.args.entry c.args.i c.args.word (entry-by _ _ _ _ _ _ c.requires.word.entry) (inside-by _ _ _ c.requires.word.inside)
    (c.requires.unkept s.last (record { from = omega arith; to = omega arith })) (sym s.cells.table.ok.0 ∙ s.cells.room) (sym s.cells.stamps.ok.0 ∙ s.cells.stamped)))

pub returns-clause-others : goal.returns-clause-others
returns-clause-others g c q ne =
    let s = c.args.self.now in
    let e = c.store.ensures in
    rw (e.table, e.stamps, e.buffers, e.words, c.next_stamp.ensures)
    (records-store g.L.Layout.reaches g.L.Layout.lawful g.L.Layout.present g.L.Layout.stays s.shape s.cells.table.items s.cells.stamps.items g.row.OFFSET_BITS s.cells.buffers s.cells.words s.last s.root s.lawful
    c.args.entry c.args.i c.args.word (entry-by _ _ _ _ _ _ c.requires.word.entry) (inside-by _ _ _ c.requires.word.inside)
    (c.requires.unkept s.last (record { from = omega arith; to = omega arith })) (sym s.cells.stamps.ok.0 ∙ s.cells.stamped) q ne)

pub invariant_of-self-clause-marks : goal.invariant_of-self-clause-marks
invariant_of-self-clause-marks g c =
    let s = c.args.self.now in
    let e = c.store.ensures in
    rw (e.table, e.marks, e.words)
    (λ b. mark-word s.generation s.first s.last _ _ (mark_at s.cells.marks.items b)
    (width-store s.cells.table.items g.row.OFFSET_BITS s.cells.buffers s.cells.words c.args.entry c.args.i (entry-by _ _ _ _ _ _ c.requires.word.entry) (inside-by _ _ _ c.requires.word.inside) c.args.word b) (s.marks b))
