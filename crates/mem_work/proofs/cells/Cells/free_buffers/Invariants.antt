use Rattle.std.proofs.Common.{◌≡◌}
use Rattle.arena_api.specs.Works.{free_count}
use Rattle.mem_work.specs.Cells.{buffer_in}
use Rattle.mem_work.specs.Marks.{marked_buffers}
use Rattle.mem_work.proofs.cells.Cells.free_buffers.Given as goal

abbrev pub invariant-loop-buffer : goal.invariant-loop-buffer
invariant-loop-buffer g l = l.count ≡ free_count (marked_buffers l.self.marks.items (buffer_in l.self.table.items l.self.words)) l.buffer
