use Rattle.mem_work.proofs.Chosen.{words-at}
use Rattle.mem_work.proofs.cells.Cells.words_of.Goals as goal

pub returns : goal.returns
returns g c =
    let s = c.args.self.now in
    words-at s.table.items c.deref.result.now g.row.OFFSET_BITS s.buffers s.words c.args.entry c.buffer-buffer.result c.offset.result c.width-width.result c.deref.ensures.value
    c.buffer-buffer.ensures.value c.offset.ensures.value c.width-width.ensures c.requires
