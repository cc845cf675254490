use Rattle.std.proofs.Common.{◌≡◌, ◌+◌, false, sym, ap, ◌∙◌, arith, below_more, cond}
use Rattle.arena_api.specs.Works.{is_free, free_count}
use Rattle.mem_work.specs.Cells.{buffer_in}
use Rattle.mem_work.specs.Marks.{marked_buffers}
use Rattle.arena_api.proofs.Free.{free_count-more, free_count-some}
use Rattle.mem_work.proofs.cells.Cells.hand_out.Goals as goal

pub returns-then-is_free-clause-none : goal.returns-then-is_free-clause-none
returns-then-is_free-clause-none g c =
    let s = c.loop-buffer.self in
    let count = ap (λ w. w.buffers) c.loop-buffer.invariant.same in
    let some = free_count-some (marked_buffers s.marks.items (buffer_in s.table.items s.words)) s.buffers c.loop-buffer.buffer (omega (arith, count)) (sym c.is_free.ensures ∙ c.if-is_free.true) in
    let same = ap (λ w. free_count (marked_buffers w.marks.items (buffer_in w.table.items w.words)) w.buffers) c.loop-buffer.invariant.same in
    (λ e. absurd (cc), λ e. absurd (omega (arith, some, same, e)))

pub loop-buffer-preserved : goal.loop-buffer-preserved
loop-buffer-preserved g c =
    let s = c.loop-buffer.self in
    let buffers = marked_buffers s.marks.items (buffer_in s.table.items s.words) in
    let taken : is_free (buffers c.loop-buffer.buffer) ≡ false = sym c.is_free.ensures ∙ c.if-is_free.false in
    record {
      none = free_count-more _ _ ∙ ap (λ t. free_count buffers c.loop-buffer.buffer + cond t 1 0) taken ∙ omega (arith, c.loop-buffer.invariant.none);
      taken = below_more _ _ c.loop-buffer.invariant.taken taken;
      same = c.loop-buffer.invariant.same;
    }
