use Rattle.std.proofs.Common.{◌≡◌}
use Rattle.gen_core.specs.Views.{oldest_of}
use Rattle.word_arena.specs.Ruled.{writer_of}
use Rattle.word_arena.specs.WriterSteps.{FreesBelow}
use Rattle.word_arena.proofs.writer.Writer.free_unused.Given as goal

abbrev pub invariant-loop-buffer : goal.invariant-loop-buffer
invariant-loop-buffer g l = record {
  table : l.self.place.table_id ≡ l.fn.self.place.table_id;
  count : l.count ≡ (writer_of l.fn.self.place.me.0).sizes.buffers;
  oldest : l.oldest.generation ≡ (oldest_of (writer_of l.fn.self.place.me.0).queue).generation;
  frees : FreesBelow l.oldest.generation l.buffer (writer_of l.fn.self.place.me.0) (writer_of l.self.place.me.0);
}
