use Rattle.std.proofs.Common.{◌≡◌, ◌+◌, ◌-◌, ◌≤◌}
use Rattle.word_arena.specs.Ruled.{reader_of}
use Rattle.attr_c.proofs.guarding.guarded.Given as goal

abbrev pub invariant-loop-guard : goal.invariant-loop-guard
invariant-loop-guard g l = record {
  table : l.reader.place.table_id ≡ l.fn.reader.place.table_id;
  seen : (reader_of l.reader.place.me.0).seen ≡ (reader_of l.fn.reader.place.me.0).seen;
  saw : (reader_of l.reader.place.me.0).saw ≡ (reader_of l.fn.reader.place.me.0).saw;
  same_sizes : (reader_of l.reader.place.me.0).sizes ≡ (reader_of l.fn.reader.place.me.0).sizes;
  same_number : (reader_of l.reader.place.me.0).number ≡ (reader_of l.fn.reader.place.me.0).number;
  rises : (reader_of l.fn.reader.place.me.0).least ≤ (reader_of l.reader.place.me.0).least;
}

-- at most one try for each generation up to the limit
abbrev pub decreases-loop-guard : goal.decreases-loop-guard
decreases-loop-guard g l = (reader_of l.reader.place.me.0).sizes.generation_limit + 1 - (reader_of l.reader.place.me.0).least
