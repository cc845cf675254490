use Rattle.array_store.proofs.AddLemmas.{adds_record, adds_nothing, makes_one}
use Rattle.array_store.proofs.record.make_record.Goals as goal

pub returns-clause-adds : goal.returns-clause-adds
returns-clause-adds g c = adds_record g.row.OFFSET_BITS _ _ _ _ c.args.words.now c.class_of.result c.make.result c.class_of.ensures.class c.make.ensures.makes

pub returns-clause-refused : goal.returns-clause-refused
returns-clause-refused g c = adds_nothing g.row.OFFSET_BITS _ _ _ _ c.args.words.now c.make.result c.make.ensures.refused c.make.ensures.left

pub returns-clause-counts : goal.returns-clause-counts
returns-clause-counts g c = makes_one g.row.OFFSET_BITS _ _ _ _ c.args.words.now c.class_of.result c.make.result c.class_of.ensures.class c.make.ensures.makes c.make.ensures.refused
