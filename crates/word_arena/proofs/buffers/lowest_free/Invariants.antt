use Rattle.std.proofs.Common.{◌≡◌, ℕ, ◌<◌, false}
use Rattle.arena_api.specs.Works.{is_free, free_count}
use Rattle.word_arena.specs.Knows.{buffers_by}
use Rattle.word_arena.proofs.buffers.lowest_free.Given as goal

abbrev pub invariant-loop-buffer : goal.invariant-loop-buffer
invariant-loop-buffer l = record {
  none : free_count (buffers_by l.fn.buffers) l.buffer ≡ 0;
  taken : (a : ℕ) → a < l.buffer → is_free (buffers_by l.fn.buffers a) ≡ false;
}
