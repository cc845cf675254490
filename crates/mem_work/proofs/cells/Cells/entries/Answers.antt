use Rattle.std.proofs.Common.{◌∙◌}
use Rattle.entry_ref.proofs.Steps.{all-before}
use Rattle.mem_work.specs.Entries.{chosen}
use Rattle.mem_work.proofs.Chosen.{none-outside}
use Rattle.mem_work.proofs.cells.Cells.entries.Goals as goal

pub returns : goal.returns
returns g c q =
    let s = c.args.self.now in
    c.loop-buffer.invariant q
    ∙ all-before g.row.OFFSET_BITS (chosen c.args.since s.table.items s.stamps.items g.row.OFFSET_BITS s.buffers s.words) c.loop-buffer.buffer 0 q
    (none-outside c.args.since s.table.items s.stamps.items g.row.OFFSET_BITS s.buffers s.words q c.loop-buffer.buffer c.loop-buffer-test.false)
