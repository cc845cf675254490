use Rattle.arena_api.specs.Calls.{IsFresh}
use Rattle.word_arena.specs.Knows.{view_of}
use Rattle.word_arena.specs.Ruled.{writer_of}
use Rattle.test_arena.proofs.parties.readers_of.Given as goal

abbrev pub invariant-loop-number : goal.invariant-loop-number
invariant-loop-number l = record { fresh : IsFresh (view_of l.writer.place.table_id (writer_of l.writer.place.me.0)) }
