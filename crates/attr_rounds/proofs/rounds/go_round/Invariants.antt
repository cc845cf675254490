use Rattle.std.proofs.Common.{◌≡◌, length}
use Rattle.word_arena.specs.Ruled.{reader_of}
use Rattle.attr_rounds.specs.Posts.{view_at, table_at}
use Rattle.attr_rounds.specs.Rounds.{MakesRounds}
use Rattle.attr_rounds.proofs.rounds.go_round.Given as goal

abbrev pub invariant-loop : goal.invariant-loop
invariant-loop g l = record {
  rounds : MakesRounds g.Q.Question.operations (g.Q.Question.answers l.fn.question) g.L.Layout.lawful (reader_of l.fn.reader.place.me.0) (view_at l.post) l.rounds.items;
  count : length l.rounds.items ≡ l.counter;
  table : table_at l.post ≡ l.fn.reader.place.table_id;
}
