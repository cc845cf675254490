use contract.BorrowLft.{⊑_static}
use Rattle.std.proofs.Common.{◌∙◌, ap}
use Rattle.std.proofs.lemmas.Option.{IfSome_then}
use Rattle.word_arena.specs.Ruled.{writer_of}
use Rattle.attr_engine.proofs.JobLemmas.{all_given, all_numbered}
use Rattle.attr_engine.proofs.SaverLemmas.{any_some, any_each, reader_kept, saved_by, GivesSave, IsSaver, SavedBy}
use Rattle.word_arena.specs.Ruled.{reader_of}
use Rattle.attr_engine.proofs.beside.load_beside_readers.Goals as goal

pub returns-clause-count : goal.returns-clause-count
returns-clause-count g c =
    (all_given g.row.OFFSET_BITS g.row.G.Denot (writer_of c.args.writer.place.me.0) c.args.writer.place.table_id c.args.rounds c.args.question.now
    c.in_ok-jobs.jobs.items c.in_ok-writer.readings.items c.in_ok-jobs.ensures.jobs c.in_ok-writer.ensures.others).count ∙ c.in_ok-jobs.ensures.count

pub returns-clause-readings : goal.returns-clause-readings
returns-clause-readings g c =
    (all_given g.row.OFFSET_BITS g.row.G.Denot (writer_of c.args.writer.place.me.0) c.args.writer.place.table_id c.args.rounds c.args.question.now
    c.in_ok-jobs.jobs.items c.in_ok-writer.readings.items c.in_ok-jobs.ensures.jobs c.in_ok-writer.ensures.others).each

pub returns-clause-numbers : goal.returns-clause-numbers
returns-clause-numbers g c =
    let w = writer_of c.args.writer.place.me.0 in
    all_numbered g.row.OFFSET_BITS g.row.G.Denot w c.args.writer.place.table_id c.args.rounds c.args.question.now w.made
    c.in_ok-jobs.jobs.items c.in_ok-writer.readings.items c.in_ok-jobs.ensures.numbers c.in_ok-writer.ensures.others

pub load_at-requires-lives-T-Task-2 : goal.load_at-requires-lives-T-Task-2
load_at-requires-lives-T-Task-2 g c κs within = λ a member. ⊑_static _ a (c.type_bounds.static-G a member)

pub load_at-requires-lives-T-Destruct-2 : goal.load_at-requires-lives-T-Destruct-2
load_at-requires-lives-T-Destruct-2 g c κs within = λ a member. ⊑_static _ a (c.type_bounds.static-G a member)

pub load_at-requires-lives-U-Task : goal.load_at-requires-lives-U-Task
load_at-requires-lives-U-Task g c κs within = λ a member. ⊑_static _ a (c.type_bounds.static-G a member)

pub load_at-requires-lives-U-Destruct : goal.load_at-requires-lives-U-Destruct
load_at-requires-lives-U-Destruct g c κs within = λ a member. ⊑_static _ a (c.type_bounds.static-G a member)

pub returns-clause-asked : goal.returns-clause-asked
returns-clause-asked g c = any_some _ c.saver_of-saver.result c.in_ok-writer.saving c.in_ok-writer.ensures.saver ∙ c.saver_of-saver.ensures.asked

pub returns-clause-saving : goal.returns-clause-saving
returns-clause-saving g c =
    let w = writer_of c.args.writer.place.me.0 in
    let v = writer_of c.jobs_of.new.writer.place.me.0 in
    let home = c.args.writer.place.table_id in
    let field = c.args.saving.now.field.now in
    let bits = g.row.OFFSET_BITS in
    let G = g.row.G.Denot in
    any_each (GivesSave bits G field w home) (IsSaver bits G field w home) (SavedBy bits G field w home) (saved_by bits G field w home)
    c.saver_of-saver.result c.in_ok-writer.saving c.in_ok-writer.ensures.saver
    (IfSome_then c.saver_of-saver.result c.saver_of-saver.ensures.saver
    (λ saver is. (
      reader_kept w v home c.jobs_of.new.writer.place.table_id (reader_of saver.reader.place.me.0) saver.reader.place.table_id c.in_ok-jobs.ensures.keeps c.in_ok-jobs.ensures.table is.0,
      ap (λ saving. saving.field.now) is.1,
    )))
