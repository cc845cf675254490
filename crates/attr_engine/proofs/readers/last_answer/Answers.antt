use Rattle.std.proofs.Common.{◌≡◌, ◌∙◌, length, ap, sym, subst}
use Rattle.gen_core.specs.declared.views.Sizes.{Sizes}
use Rattle.gen_core.specs.declared.views.WriterView.{WriterView}
use Rattle.word_arena.specs.Ruled.{reader_of, writer_of}
use Rattle.word_arena.specs.Released.{IsWholeRun}
use Rattle.word_arena.specs.Runs.{KnowsCommits}
use Rattle.image_format.specs.Images.{attr_reaches, IsLawfulImage}
use Rattle.attr_engine.proofs.ReaderLemmas.{last_of, keeps_joined, one_of}
use Rattle.attr_engine.proofs.MemoryLemmas.{taken_by_join, taken_same}
use Rattle.attr_engine.proofs.WriterLemmas.{keeps_on}
use Rattle.attr_engine.proofs.readers.last_answer.Goals as goal

pub returns-clause-last : goal.returns-clause-last
returns-clause-last g c =
    let w = writer_of c.args.writer.now.place.me.0 in
    let v = writer_of c.reader_in-reader.new.writer.place.me.0 in
    let v' = writer_of c.take_in-rounds.new.writer.place.me.0 in
    let reader = c.reader_in-reader.result in
    let x = c.in_ok-reading.reading in
    let taken = c.take_in-rounds.result.items in
    let one = one_of taken c.pop.new.self.items c.in-Some.round c.in-Some.ensures.items (ap length c.take_in-rounds.ensures.same ∙ c.in_ok-reading.ensures.count) in
    last_of _ _ _ w v v' c.args.writer.now.place.table_id reader.place.table_id (reader_of reader.place.me.0) (reader_of x.reader.place.me.0) x.rounds.items taken c.in-Some.round
    c.reader_in-reader.ensures.reader c.in_ok-reading.ensures.rounds c.reader_in-reader.ensures.keeps c.take_in-rounds.ensures.view c.take_in-rounds.ensures.same c.take_in-rounds.ensures.rounds one

pub returns-clause-run : goal.returns-clause-run
returns-clause-run g c =
    let v = writer_of c.reader_in-reader.new.writer.place.me.0 in
    let x = c.take_in-rounds.new.writer.place.me.0 in
    let sizes : (writer_of x).sizes ≡ v.sizes = ap (λ (y : WriterView). y.sizes) c.take_in-rounds.ensures.view in
    record {
      whole = subst (λ (z : Sizes). IsWholeRun attr_reaches IsLawfulImage z x.seen) (sym sizes) c.take_in-rounds.ensures.run;
      named = subst (λ (z : Sizes). KnowsCommits attr_reaches IsLawfulImage z x) (sym sizes) c.take_in-rounds.ensures.knows;
      reads = c.take_in-rounds.ensures.reads;
    }

pub returns-clause-taken : goal.returns-clause-taken
returns-clause-taken g c =
    let w = writer_of c.args.writer.now.place.me.0 in
    let v = writer_of c.reader_in-reader.new.writer.place.me.0 in
    let v' = writer_of c.take_in-rounds.new.writer.place.me.0 in
    λ events read.
    taken_same w v c.reader_in-reader.ensures.taken events (taken_by_join v v' (reader_of c.in_ok-reading.reading.reader.place.me.0) c.take_in-rounds.ensures.view events read)

pub returns-clause-keeps : goal.returns-clause-keeps
returns-clause-keeps g c =
    let w = writer_of c.args.writer.now.place.me.0 in
    let v = writer_of c.reader_in-reader.new.writer.place.me.0 in
    let v' = writer_of c.take_in-rounds.new.writer.place.me.0 in
    let r = reader_of c.in_ok-reading.reading.reader.place.me.0 in
    keeps_on w v v' c.reader_in-reader.ensures.keeps (keeps_joined v v' r c.take_in-rounds.ensures.view)
