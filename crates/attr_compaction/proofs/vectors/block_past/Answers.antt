use Rattle.std.proofs.Common.{◌∙◌, arith}
use Rattle.posting_store.proofs.VectorLemmas.{vector_form}
use Rattle.attr_compaction.proofs.BlockLemmas.{past_few, past_vector, vector_small}
use Rattle.attr_compaction.proofs.vectors.block_past.Goals as goal

pub number_past-block-requires : goal.number_past-block-requires
number_past-block-requires g c =
    let m = g.F.Frozen.records c.args.frozen.now in (
      omega arith,
      (
        (vector_form m c.args.list c.vector_root-root.result c.vector_root-root.ensures c.requires.list).0,
        vector_small m c.args.list c.vector_root-root.result c.requires.list c.vector_root-root.ensures,
      ),
    )

pub first_of-requires : goal.first_of-requires
first_of-requires g c =
    past_few (g.F.Frozen.records c.args.frozen.now) c.args.list c.vector_root-root.result c.requires.list c.vector_root-root.ensures c.args.doc
    c.number_past-block.result c.number_past-block.ensures.number

pub returns-clause-next : goal.returns-clause-next
returns-clause-next g c =
    c.first_of.ensures
    ∙ past_vector (g.F.Frozen.records c.args.frozen.now) c.args.list c.vector_root-root.result c.requires.list c.vector_root-root.ensures c.args.doc
    c.number_past-block.result c.number_past-block.ensures.number
