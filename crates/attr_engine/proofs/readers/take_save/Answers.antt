use Rattle.std.proofs.Common.{◌∙◌, length, refl, ap}
use Rattle.word_arena.specs.Ruled.{reader_of, writer_of}
use Rattle.attr_engine.proofs.ReaderLemmas.{keeps_joined, one_of}
use Rattle.attr_engine.proofs.MemoryLemmas.{taken_by_join}
use Rattle.attr_engine.proofs.SaverLemmas.{save_in}
use Rattle.attr_engine.proofs.readers.take_save.Goals as goal

pub returns-clause-save : goal.returns-clause-save
returns-clause-save g c =
    let w = writer_of c.args.writer.now.place.me.0 in
    let v = writer_of c.take_in-rounds.new.writer.place.me.0 in
    let r = reader_of c.args.reading.reader.place.me.0 in
    let taken = c.take_in-rounds.result.items in
    let one = one_of taken c.pop.new.self.items c.in-Some.round c.in-Some.ensures.items (ap length c.take_in-rounds.ensures.same ∙ c.requires.made) in
    save_in c.args.saving.now.field.now w v r c.args.reading.rounds.items taken c.in-Some.round _ c.take_in-rounds.ensures.view c.requires.shape_is c.take_in-rounds.ensures.rounds one refl refl

pub returns-clause-taken : goal.returns-clause-taken
returns-clause-taken g c =
    taken_by_join (writer_of c.args.writer.now.place.me.0) (writer_of c.take_in-rounds.new.writer.place.me.0) (reader_of c.args.reading.reader.place.me.0) c.take_in-rounds.ensures.view

pub returns-clause-keeps : goal.returns-clause-keeps
returns-clause-keeps g c =
    keeps_joined (writer_of c.args.writer.now.place.me.0) (writer_of c.take_in-rounds.new.writer.place.me.0) (reader_of c.args.reading.reader.place.me.0) c.take_in-rounds.ensures.view
