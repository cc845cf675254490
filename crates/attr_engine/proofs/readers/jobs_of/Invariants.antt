use Rattle.std.proofs.Common.{◌≡◌, ◌+◌, length}
use Rattle.std.specs.Prelude.{All}
use Rattle.word_arena.specs.Ruled.{reader_of, writer_of}
use Rattle.attr_engine.specs.Steps.{AllFrom, KeepsWriter, IsReader}
use Rattle.attr_engine.proofs.readers.jobs_of.Given as goal

abbrev pub invariant-loop-i : goal.invariant-loop-i
invariant-loop-i g l = record {
  count : length l.jobs.items ≡ l.i;
  jobs : All (λ job. IsReader (writer_of l.fn.writer.place.me.0) l.fn.writer.place.table_id (reader_of job.reader.place.me.0) job.reader.place.table_id
      × (job.count ≡ l.fn.rounds) × (job.question.now ≡ l.fn.question)) l.jobs.items;
  numbers : AllFrom (λ number job. (reader_of job.reader.place.me.0).number ≡ number) (writer_of l.fn.writer.place.me.0).made l.jobs.items;
  taken : (writer_of l.writer.place.me.0).taken ≡ (writer_of l.fn.writer.place.me.0).taken;
  keeps : KeepsWriter (writer_of l.fn.writer.place.me.0) (writer_of l.writer.place.me.0);
  made : (writer_of l.writer.place.me.0).made ≡ (writer_of l.fn.writer.place.me.0).made + l.i;
  table : l.writer.place.table_id ≡ l.fn.writer.place.table_id;
}
