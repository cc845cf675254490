use Rattle.std.proofs.Common.{sym, ◌∙◌, arith}
use Rattle.mem_work.proofs.Views.{record-word}
use Rattle.mem_work.proofs.memory.MemWorkFrozen.word.Goals as goal

pub word-requires : goal.word-requires
word-requires g c =
    let s = c.args.self.now in
    let at = record-word g.L.Layout.reaches g.L.Layout.lawful g.L.Layout.present g.L.Layout.stays s.shape s.cells.table.items s.cells.stamps.items g.row.OFFSET_BITS s.cells.buffers s.cells.words s.last s.root s.lawful
    c.args.entry c.args.i c.requires in
    (omega arith, (omega arith, (at.0, at.1)))

pub returns-clause-value : goal.returns-clause-value
returns-clause-value g c =
    let s = c.args.self.now in
    c.word.ensures
    ∙ sym (record-word g.L.Layout.reaches g.L.Layout.lawful g.L.Layout.present g.L.Layout.stays s.shape s.cells.table.items s.cells.stamps.items g.row.OFFSET_BITS s.cells.buffers s.cells.words s.last s.root s.lawful
    c.args.entry c.args.i c.requires).2
