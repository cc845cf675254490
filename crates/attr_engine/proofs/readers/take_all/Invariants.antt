use Rattle.std.proofs.Common.{◌≡◌, ◌++◌, List, map}
use Rattle.std.specs.Prelude.{IfOk, IsOkAnd}
use Rattle.std.specs.Vec.Iter.{into_iter_items}
use Rattle.std.specs.List.{AllByRecursion, AllZip}
use Rattle.word_arena.specs.Ruled.{reader_of, writer_of}
use Rattle.gen_core.specs.declared.views.Event.{Event}
use Rattle.gen_core.specs.Reads.{reads_of}
use Rattle.attr_engine.specs.Rounds.{commits_of}
use Rattle.attr_types.specs.Scores.{ask_tree}
use Rattle.attr_engine.specs.Steps.{AllRead, KeepsTaken, KeepsWriter, IsReading, IsTakenFrom}
use Rattle.attr_engine.proofs.readers.take_all.Given as goal

abbrev pub invariant-loop-reading : goal.invariant-loop-reading
invariant-loop-reading g l =
    let w = writer_of l.fn.writer.place.me.0 in
    let asks = map ask_tree l.fn.question.asks.now in
    record {
      fit : AllByRecursion (λ reading. IfOk reading (λ r. IsReading l.fn.question.counted asks w.sizes.shape l.fn.writer.place.table_id
          (reader_of r.reader.place.me.0) r.reader.place.table_id r.rounds.items)) (into_iter_items l.reading-iterator);
      all : l.yielded ++ into_iter_items l.reading-iterator ≡ l.fn.readings.items;
      zip : AllZip (λ reading taken. IsOkAnd reading (λ r. IsTakenFrom l.fn.question.counted asks w.sizes.shape w.commits r.rounds.items taken.items)) l.yielded l.rounds.items;
      reads : (events : List Event) → AllRead events (writer_of l.writer.place.me.0)
          → AllZip (λ reading taken. IsOkAnd reading (λ r. commits_of taken.items ≡ reads_of (reader_of r.reader.place.me.0).number events)) l.yielded l.rounds.items;
      taken : KeepsTaken w (writer_of l.writer.place.me.0);
      made : (writer_of l.writer.place.me.0).made ≡ w.made;
      keeps : KeepsWriter w (writer_of l.writer.place.me.0);
      table : l.writer.place.table_id ≡ l.fn.writer.place.table_id;
    }
