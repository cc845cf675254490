use Rattle.std.proofs.Common.{sym, ◌∙◌, arith}
use Rattle.arena_api.proofs.Free.{free_count-some}
use Rattle.word_arena.specs.Knows.{buffers_by}
use Rattle.word_arena.proofs.buffers.lowest_free.Goals as goal

pub returns-then-is_free-clause-none : goal.returns-then-is_free-clause-none
returns-then-is_free-clause-none c =
    let lt = c.loop-buffer-test.true in
    let some = free_count-some (buffers_by c.args.buffers.now) c.args.count c.loop-buffer.buffer lt (sym c.is_free.ensures ∙ c.if-is_free.true) in
    (λ e. absurd (cc), λ e. absurd (omega (arith, some, e)))
