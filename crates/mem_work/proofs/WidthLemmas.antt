-- The width of an active buffer in memory is its first word.
use Rattle.std.proofs.Common.{ℕ, ◌<◌, subst}
use Rattle.entry_ref.specs.Places.{IsEntry}
use Rattle.arena_api.specs.Works.{active_width}
use Rattle.mem_work.specs.Cells.{buffer_by}
use Rattle.mem_work.specs.Marks.{marked}
use Rattle.mem_work.specs.declared.marks.Mark.{Mark}
use Rattle.mem_work.specs.ProofsForMemory.{active_width-by}

pub entry-by : (m : Mark) (bits buffers words width r : ℕ) → IsEntry bits buffers words (active_width (marked m (buffer_by width))) r → IsEntry bits buffers words width r
entry-by m bits buffers words width r e = subst (λ w. IsEntry bits buffers words w r) (active_width-by m width) e

pub inside-by : (m : Mark) (width i : ℕ) → i < active_width (marked m (buffer_by width)) → i < width
inside-by m width i h = subst (λ w. i < w) (active_width-by m width) h
