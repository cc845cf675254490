use Rattle.word_arena.specs.Ruled.{writer_of}
use Rattle.word_arena.specs.Knows.{view_of}
use Rattle.test_arena.specs.Pasts.{IsOfPast}
use Rattle.test_arena.proofs.parties.write_all.Given as goal

abbrev pub invariant-loop-step : goal.invariant-loop-step
invariant-loop-step l = record { past : IsOfPast (view_of l.writer.place.table_id (writer_of l.writer.place.me.0)) l.past }
