use Rattle.std.proofs.Common.{◌≡◌, length}
use Rattle.word_arena.specs.Ruled.{writer_of}
use Rattle.word_arena.specs.WriterSteps.{ClosesSome}
use Rattle.word_arena.proofs.writer.Writer.close_unused.Given as goal

abbrev pub invariant-loop-self : goal.invariant-loop-self
invariant-loop-self g l = record {
  table : l.self.place.table_id ≡ l.fn.self.place.table_id;
  closes : ClosesSome (writer_of l.fn.self.place.me.0) (writer_of l.self.place.me.0);
}

abbrev pub decreases-loop-self : goal.decreases-loop-self
decreases-loop-self g l = length l.self.holds
