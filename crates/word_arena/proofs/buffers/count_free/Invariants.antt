use Rattle.std.proofs.Common.{◌≡◌, ◌≤◌}
use Rattle.arena_api.specs.Works.{free_count}
use Rattle.word_arena.specs.Knows.{buffers_by}
use Rattle.word_arena.proofs.buffers.count_free.Given as goal

abbrev pub invariant-loop-buffer : goal.invariant-loop-buffer
invariant-loop-buffer l = record {
  free : l.free ≡ free_count (buffers_by l.fn.buffers) l.buffer;
  few : l.free ≤ l.buffer;
}
