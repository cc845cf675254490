use Rattle.std.proofs.Common.{◌≡◌, ℕ, ◌<◌, false}
use Rattle.arena_api.specs.Works.{is_free, free_count}
use Rattle.mem_work.specs.Cells.{buffer_in}
use Rattle.mem_work.specs.Marks.{marked_buffers}
use Rattle.mem_work.proofs.cells.Cells.hand_out.Given as goal

abbrev pub invariant-loop-buffer : goal.invariant-loop-buffer
invariant-loop-buffer g l =
    let buffers = marked_buffers l.self.marks.items (buffer_in l.self.table.items l.self.words) in
    record {
      none : free_count buffers l.buffer ≡ 0;
      taken : (a : ℕ) → a < l.buffer → is_free (buffers a) ≡ false;
      same : l.self ≡ l.fn.self;
    }
