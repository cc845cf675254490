use contract.BorrowLft.{⊑_static}
use Rattle.std.proofs.Common.{◌∙◌, ap, arith}
use Rattle.std.proofs.lemmas.Result.{IfOk-weaker}
use Rattle.gen_core.specs.declared.views.WriterView.{WriterView}
use Rattle.word_arena.specs.Ruled.{writer_of}
use Rattle.attr_engine.proofs.ReaderLemmas.{ok_always}
use Rattle.attr_engine.proofs.JobLemmas.{all_given, all_numbered, all_read, all_read_by, all_taken, all_home}
use Rattle.attr_engine.proofs.MemoryLemmas.{taken_same}
use Rattle.attr_engine.proofs.readers.read_after.Goals as goal

pub take_all-requires : goal.take_all-requires
take_all-requires g c =
    let w = writer_of c.args.writer.now.place.me.0 in
    let v = writer_of c.jobs_of.new.writer.place.me.0 in
    let home = c.args.writer.now.place.table_id in
    let here = c.jobs_of.new.writer.place.table_id in
    let asked = c.args.question.now in
    let readings = c.in_ok-readings.readings.items in
    let given = all_given g.row.OFFSET_BITS g.row.G.Denot w home c.args.count asked c.in_ok-jobs.jobs.items readings c.in_ok-jobs.ensures.jobs c.in_ok-readings.ensures in (
      omega arith,
      (
        omega arith,
        all_read g.row.OFFSET_BITS g.row.G.Denot w home c.args.count asked v here (ap (λ (x : WriterView). x.sizes.shape) c.in_ok-jobs.ensures.keeps) c.in_ok-jobs.ensures.table
            readings given.each,
      ),
    )

pub returns-clause-count : goal.returns-clause-count
returns-clause-count g c =
    let w = writer_of c.args.writer.now.place.me.0 in
    let v = writer_of c.jobs_of.new.writer.place.me.0 in
    let home = c.args.writer.now.place.table_id in
    let here = c.jobs_of.new.writer.place.table_id in
    let asked = c.args.question.now in
    let readings = c.in_ok-readings.readings.items in
    let given = all_given g.row.OFFSET_BITS g.row.G.Denot w home c.args.count asked c.in_ok-jobs.jobs.items readings c.in_ok-jobs.ensures.jobs c.in_ok-readings.ensures in
    IfOk-weaker c.take_all.result _ _
    (λ rounds zip.
    (all_taken g.row.OFFSET_BITS g.row.G.Denot w home c.args.count asked v here (ap (λ (x : WriterView). x.sizes.shape) c.in_ok-jobs.ensures.keeps) c.in_ok-jobs.ensures.table
    readings rounds.items given.each zip).count ∙ given.count ∙ c.in_ok-jobs.ensures.count)
    c.take_all.ensures.rounds

pub returns-clause-rounds : goal.returns-clause-rounds
returns-clause-rounds g c =
    let w = writer_of c.args.writer.now.place.me.0 in
    let v = writer_of c.jobs_of.new.writer.place.me.0 in
    let home = c.args.writer.now.place.table_id in
    let here = c.jobs_of.new.writer.place.table_id in
    let asked = c.args.question.now in
    let readings = c.in_ok-readings.readings.items in
    let shape = ap (λ (x : WriterView). x.sizes.shape) c.in_ok-jobs.ensures.keeps in
    let given = all_given g.row.OFFSET_BITS g.row.G.Denot w home c.args.count asked c.in_ok-jobs.jobs.items readings c.in_ok-jobs.ensures.jobs c.in_ok-readings.ensures in
    IfOk-weaker c.take_all.result _ _
    (λ rounds zip.
    all_home g.row.OFFSET_BITS g.row.G.Denot w home c.args.count asked v here shape c.in_ok-jobs.ensures.table c.in_ok-jobs.ensures.keeps rounds.items
    (all_taken g.row.OFFSET_BITS g.row.G.Denot w home c.args.count asked v here shape c.in_ok-jobs.ensures.table readings rounds.items given.each zip).each)
    c.take_all.ensures.rounds

pub returns-clause-reads : goal.returns-clause-reads
returns-clause-reads g c =
    let w = writer_of c.args.writer.now.place.me.0 in
    let home = c.args.writer.now.place.table_id in
    let asked = c.args.question.now in
    let readings = c.in_ok-readings.readings.items in
    let numbered = all_numbered g.row.OFFSET_BITS g.row.G.Denot w home c.args.count asked w.made c.in_ok-jobs.jobs.items readings c.in_ok-jobs.ensures.numbers c.in_ok-readings.ensures in
    IfOk-weaker c.take_all.result _ _
    (λ rounds reads events read. all_read_by g.row.OFFSET_BITS g.row.G.Denot w home c.args.count asked events w.made readings rounds.items numbered (reads events read))
    c.take_all.ensures.reads

pub returns-clause-taken : goal.returns-clause-taken
returns-clause-taken g c = λ events read.
    taken_same (writer_of c.args.writer.now.place.me.0) (writer_of c.jobs_of.new.writer.place.me.0) c.in_ok-jobs.ensures.taken events (c.take_all.ensures.taken events read)

pub returns-clause-made : goal.returns-clause-made
returns-clause-made g c = ok_always c.take_all.result _ (c.take_all.ensures.made ∙ c.in_ok-jobs.ensures.made)

pub run_each-requires-lives-T-Task-2 : goal.run_each-requires-lives-T-Task-2
run_each-requires-lives-T-Task-2 g c κs within = λ a member. ⊑_static _ a (c.type_bounds.static-G a member)

pub run_each-requires-lives-T-Destruct-2 : goal.run_each-requires-lives-T-Destruct-2
run_each-requires-lives-T-Destruct-2 g c κs within = λ a member. ⊑_static _ a (c.type_bounds.static-G a member)
