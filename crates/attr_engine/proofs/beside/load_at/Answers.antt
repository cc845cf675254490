use Rattle.std.proofs.Common.{arith}
use Rattle.word_arena.specs.Ruled.{writer_of}
use Rattle.attr_engine.proofs.WriterLemmas.{can_load, commits_left, table_stays, loads_into, made_stays}
use Rattle.attr_engine.proofs.beside.load_at.Goals as goal

pub run_loading-requires-after_bounds : goal.run_loading-requires-after_bounds
run_loading-requires-after_bounds g c κs within = (
  omega arith,
  (
    omega arith,
    (
      can_load _ c.args.fields.now c.args.batch c.args.ops.now c.in_ok-attribute.attribute c.in_ok-attribute.ensures.fields c.requires.some c.requires.few c.requires.fit c.in_ok-attribute.ensures.start,
      (
        c.requires.others,
        (
          c.requires.saver,
          commits_left _ c.args.fields.now c.args.writer.place.table_id (writer_of c.args.writer.place.me.0) c.in_ok-attribute.attribute c.args.ops.now
              c.in_ok-attribute.ensures.start c.requires.new c.in_ok-attribute.ensures.work c.requires.few,
        ),
      ),
    ),
  ),
)

pub returns-clause-table : goal.returns-clause-table
returns-clause-table g c =
    table_stays _ c.args.fields.now c.args.batch c.args.ops.now c.in_ok-attribute.attribute c.in_ok-attribute-2.attribute c.in_ok-attribute-2.loaded
    c.args.writer.place.table_id c.closed-writer.result.place.table_id (writer_of c.args.writer.place.me.0) (writer_of c.closed-writer.result.place.me.0)
    c.in_ok-attribute-2.ensures.loads c.in_ok-attribute.ensures.fields c.in_ok-attribute.ensures.work c.closed-writer.ensures.knows

pub returns-clause-loads : goal.returns-clause-loads
returns-clause-loads g c =
    loads_into _ c.args.fields.now c.args.batch c.args.ops.now c.in_ok-attribute.attribute c.in_ok-attribute-2.attribute c.in_ok-attribute-2.loaded
    c.args.writer.place.table_id c.closed-writer.result.place.table_id (writer_of c.args.writer.place.me.0) (writer_of c.closed-writer.result.place.me.0)
    c.in_ok-attribute-2.ensures.loads c.in_ok-attribute.ensures.fields c.in_ok-attribute.ensures.work c.closed-writer.ensures.knows
    c.closed-writer.ensures.shape c.requires.new c.requires.few c.closed-writer.result.stands.good.empty c.in_ok-attribute.ensures.nothing
    c.args.dense c.in_ok-attribute.ensures.dense c.in_ok-attribute.ensures.plan

pub returns-clause-made : goal.returns-clause-made
returns-clause-made g c =
    made_stays _ c.args.fields.now c.args.batch c.args.ops.now c.in_ok-attribute.attribute c.in_ok-attribute-2.attribute c.in_ok-attribute-2.loaded
    c.args.writer.place.table_id c.closed-writer.result.place.table_id (writer_of c.args.writer.place.me.0) (writer_of c.closed-writer.result.place.me.0)
    c.in_ok-attribute-2.ensures.loads c.in_ok-attribute.ensures.fields c.in_ok-attribute.ensures.work c.closed-writer.ensures.knows

pub returns-clause-others : goal.returns-clause-others
returns-clause-others g c = c.in_ok-attribute-2.ensures.others

pub returns-clause-saver : goal.returns-clause-saver
returns-clause-saver g c = c.in_ok-attribute-2.ensures.saver
