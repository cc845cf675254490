use Rattle.word_arena.specs.Ruled.{writer_of}
use Rattle.attr_engine.proofs.WriterLemmas.{at_start}
use Rattle.attr_engine.proofs.beside.opened.Goals as goal

pub returns-clause-fields : goal.returns-clause-fields
returns-clause-fields g c = c.in-Ok.ensures.fields

pub returns-clause-start : goal.returns-clause-start
returns-clause-start g c =
    let made = c.in-Ok.ensures in
    at_start _ c.args.fields.now c.args.writer.place.table_id (writer_of c.args.writer.place.me.0) c.in-Ok.attribute c.image_law.ensures.empty c.requires.new
    made.work made.table made.operations made.root c.operations.ensures.commit

pub returns-clause-work : goal.returns-clause-work
returns-clause-work g c = c.in-Ok.ensures.work

pub returns-clause-nothing : goal.returns-clause-nothing
returns-clause-nothing g c = record { counts = c.in-Ok.ensures.counts }

pub returns-clause-plan : goal.returns-clause-plan
returns-clause-plan g c = c.in-Ok.ensures.plan

pub returns-clause-dense : goal.returns-clause-dense
returns-clause-dense g c = c.in-Ok.ensures.dense
