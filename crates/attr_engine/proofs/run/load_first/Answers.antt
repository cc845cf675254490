use Rattle.std.proofs.Common.{◌∙◌, map, sym, ap, subst, arith}
use Rattle.std.specs.List.{AllByRecursion}
use Rattle.gen_core.specs.Views.{last_number}
use Rattle.gen_core.specs.declared.views.WriterView.{WriterView}
use Rattle.word_arena.specs.Ruled.{writer_of}
use Rattle.attr_types.specs.Scores.{ask_tree}
use Rattle.attr_engine.specs.Steps.{AreRoundsOf}
use Rattle.attr_engine.proofs.JobLemmas.{all_read, all_read_by, all_taken}
use Rattle.attr_engine.proofs.WriterLemmas.{keeps_on, loads_kept}
use Rattle.attr_engine.proofs.SaverLemmas.{done_by, save_moved}
use Rattle.std.proofs.lemmas.Option.{IfSome_then}
use Rattle.attr_engine.proofs.run.load_first.Goals as goal

pub take_all-requires : goal.take_all-requires
take_all-requires g c =
    let has = c.in_ok-beside.ensures in (
      omega arith,
      (
        omega arith,
        all_read g.row.OFFSET_BITS g.row.G.Denot (writer_of c.args.writer.place.me.0) c.args.writer.place.table_id c.args.rounds c.args.question.now
            (writer_of c.in_ok-beside.beside.writer.place.me.0) c.in_ok-beside.beside.writer.place.table_id has.loads.shape_is has.table c.in_ok-beside.beside.readings.items has.readings,
      ),
    )

pub returns-clause-loads : goal.returns-clause-loads
returns-clause-loads g c =
    loads_kept c.args.question.now.fields.now c.args.dense c.args.batch c.args.ops.now (writer_of c.args.writer.place.me.0) (writer_of c.in_ok-beside.beside.writer.place.me.0)
    (writer_of c.take_saved.new.writer.place.me.0) c.in_ok-beside.beside.loaded
    (keeps_on (writer_of c.in_ok-beside.beside.writer.place.me.0) (writer_of c.take_all.new.writer.place.me.0) (writer_of c.take_saved.new.writer.place.me.0)
    c.in_ok-first.ensures.keeps c.in_ok-saved.ensures.keeps) (c.in_ok-saved.ensures.made ∙ c.in_ok-first.ensures.made) c.in_ok-beside.ensures.loads

pub returns-clause-count : goal.returns-clause-count
returns-clause-count g c =
    let has = c.in_ok-beside.ensures in
    (all_taken g.row.OFFSET_BITS g.row.G.Denot (writer_of c.args.writer.place.me.0) c.args.writer.place.table_id c.args.rounds c.args.question.now
    (writer_of c.in_ok-beside.beside.writer.place.me.0) c.in_ok-beside.beside.writer.place.table_id has.loads.shape_is has.table c.in_ok-beside.beside.readings.items c.in_ok-first.first.items
    has.readings c.in_ok-first.ensures.rounds).count ∙ has.count

pub returns-clause-rounds : goal.returns-clause-rounds
returns-clause-rounds g c =
    let has = c.in_ok-beside.ensures in
    let w = writer_of c.args.writer.place.me.0 in
    let asks = map ask_tree c.args.question.now.asks.now in
    subst (λ (x : WriterView). AllByRecursion (λ r. AreRoundsOf c.args.question.now.counted asks x.sizes.shape (last_number w.commits) c.args.rounds x.commits r.items) c.in_ok-first.first.items)
    (sym (keeps_on (writer_of c.in_ok-beside.beside.writer.place.me.0) (writer_of c.take_all.new.writer.place.me.0) (writer_of c.take_saved.new.writer.place.me.0)
    c.in_ok-first.ensures.keeps c.in_ok-saved.ensures.keeps))
    (all_taken g.row.OFFSET_BITS g.row.G.Denot w c.args.writer.place.table_id c.args.rounds c.args.question.now
    (writer_of c.in_ok-beside.beside.writer.place.me.0) c.in_ok-beside.beside.writer.place.table_id has.loads.shape_is has.table c.in_ok-beside.beside.readings.items c.in_ok-first.first.items
    has.readings c.in_ok-first.ensures.rounds).each

pub returns-clause-reads : goal.returns-clause-reads
returns-clause-reads g c = λ events read.
    let w = writer_of c.args.writer.place.me.0 in
    all_read_by g.row.OFFSET_BITS g.row.G.Denot w c.args.writer.place.table_id c.args.rounds c.args.question.now events w.made
    c.in_ok-beside.beside.readings.items c.in_ok-first.first.items c.in_ok-beside.ensures.numbers
    (c.in_ok-first.ensures.reads events (c.in_ok-saved.ensures.taken events read))

pub take_saved-requires : goal.take_saved-requires
take_saved-requires g c =
    let has = c.in_ok-beside.ensures in
    let w = writer_of c.args.writer.place.me.0 in
    let home = c.args.writer.place.table_id in
    let t = writer_of c.take_all.new.writer.place.me.0 in
    let field = c.args.saving.now.field.now in
    let shape = ap (λ (x : WriterView). x.sizes.shape) c.in_ok-first.ensures.keeps ∙ has.loads.shape_is in (
      omega arith,
      (
        omega arith,
        IfSome_then c.in_ok-beside.beside.saving has.saving
            (done_by g.row.OFFSET_BITS g.row.G.Denot field w home t c.take_all.new.writer.place.table_id shape (c.in_ok-first.ensures.table ∙ has.table)),
      ),
    )

pub returns-clause-asked : goal.returns-clause-asked
returns-clause-asked g c = c.in_ok-saved.ensures.asked ∙ c.in_ok-beside.ensures.asked

pub returns-clause-saved : goal.returns-clause-saved
returns-clause-saved g c =
    IfSome_then c.in_ok-saved.saved c.in_ok-saved.ensures.save
    (λ save. save_moved c.args.saving.now.field.now (writer_of c.take_all.new.writer.place.me.0) (writer_of c.take_saved.new.writer.place.me.0) save c.in_ok-saved.ensures.keeps)
