use Rattle.std.proofs.Common.{◌≡◌, ◌+◌, ◌-◌, ◌≤◌}
use Rattle.word_arena.specs.Ruled.{reader_of}
use Rattle.word_arena.proofs.Guards.{AllMissed}
use Rattle.word_arena.proofs.reader.Reader.guard.Given as goal

abbrev pub invariant-loop-guard : goal.invariant-loop-guard
invariant-loop-guard g l = record {
  table : l.reader.place.table_id ≡ l.fn.self.place.table_id;
  seen : (reader_of l.reader.place.me.0).seen ≡ (reader_of l.fn.self.place.me.0).seen;
  saw : (reader_of l.reader.place.me.0).saw ≡ (reader_of l.fn.self.place.me.0).saw;
  same_sizes : (reader_of l.reader.place.me.0).sizes ≡ (reader_of l.fn.self.place.me.0).sizes;
  same_number : (reader_of l.reader.place.me.0).number ≡ (reader_of l.fn.self.place.me.0).number;
  limit : (reader_of l.reader.place.me.0).sizes.generation_limit ≡ (reader_of l.fn.self.place.me.0).sizes.generation_limit;
  rises : (reader_of l.fn.self.place.me.0).least ≤ (reader_of l.reader.place.me.0).least;
  ticked : l.fn.tries ≤ l.tries;
  missed : AllMissed (reader_of l.fn.self.place.me.0) (reader_of l.reader.place.me.0) (l.tries - l.fn.tries);
  within : l.tries ≤ l.fn.tries + (reader_of l.reader.place.me.0).sizes.generation_limit;
}

-- at most one try for each generation up to the limit
abbrev pub decreases-loop-guard : goal.decreases-loop-guard
decreases-loop-guard g l = (reader_of l.reader.place.me.0).sizes.generation_limit + 1 - (reader_of l.reader.place.me.0).least
