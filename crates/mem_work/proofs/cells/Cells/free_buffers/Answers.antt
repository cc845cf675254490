use Rattle.std.proofs.Common.{arith}
use Rattle.mem_work.specs.Cells.{buffer_in}
use Rattle.mem_work.specs.Marks.{marked_buffers}
use Rattle.arena_api.proofs.Free.{free_count-le}
use Rattle.mem_work.proofs.cells.Cells.free_buffers.Goals as goal

pub overflow_add-count : goal.overflow_add-count
overflow_add-count g c =
    let s = c.args.self.now in
    omega (arith, free_count-le (marked_buffers s.marks.items (buffer_in s.table.items s.words)) c.loop-buffer.buffer, c.loop-buffer.invariant)
