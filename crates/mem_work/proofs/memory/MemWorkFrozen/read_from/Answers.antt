use Rattle.std.proofs.Common.{length, sym, ◌∙◌, arith}
use Rattle.list_lemmas.proofs.Tests.{above_zero_from_test}
use Rattle.mem_work.proofs.Views.{record-words}
use Rattle.mem_work.proofs.memory.MemWorkFrozen.read_from.Goals as goal

pub read-requires : goal.read-requires
read-requires g c =
    let s = c.args.self.now in
    let some = above_zero_from_test (length c.args.into.now) c.is_empty.result c.is_empty.ensures c.if-not-is_empty.true in
    let at = record-words g.L.Layout.reaches g.L.Layout.lawful g.L.Layout.present g.L.Layout.stays s.shape s.cells.table.items s.cells.stamps.items g.row.OFFSET_BITS s.cells.buffers s.cells.words s.last s.root s.lawful
    (sym s.cells.table.ok.0 ∙ s.cells.room) c.args.entry c.args.first (length c.args.into.now) some c.requires.there in
    (omega arith, (omega arith, (at.0, (at.1, some))))

pub returns-then-not-is_empty-clause-words : goal.returns-then-not-is_empty-clause-words
returns-then-not-is_empty-clause-words g c =
    let s = c.args.self.now in
    let some = above_zero_from_test (length c.args.into.now) c.is_empty.result c.is_empty.ensures c.if-not-is_empty.true in
    let at = record-words g.L.Layout.reaches g.L.Layout.lawful g.L.Layout.present g.L.Layout.stays s.shape s.cells.table.items s.cells.stamps.items g.row.OFFSET_BITS s.cells.buffers s.cells.words s.last s.root s.lawful
    (sym s.cells.table.ok.0 ∙ s.cells.room) c.args.entry c.args.first (length c.args.into.now) some c.requires.there in
    c.read.ensures ∙ at.2
