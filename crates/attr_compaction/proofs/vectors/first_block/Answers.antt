use Rattle.std.proofs.Common.{◌∙◌, arith}
use Rattle.posting_store.proofs.VectorLemmas.{vector_form}
use Rattle.attr_compaction.proofs.BlockLemmas.{first_few, first_vector, vector_small}
use Rattle.attr_compaction.proofs.vectors.first_block.Goals as goal

pub first_number-block-requires : goal.first_number-block-requires
first_number-block-requires g c =
    let m = g.F.Frozen.records c.args.frozen.now in (
      omega arith,
      (
        (vector_form m c.args.list c.vector_root-root.result c.vector_root-root.ensures c.requires.list).0,
        vector_small m c.args.list c.vector_root-root.result c.requires.list c.vector_root-root.ensures,
      ),
    )

pub first_of-requires : goal.first_of-requires
first_of-requires g c =
    first_few (g.F.Frozen.records c.args.frozen.now) c.args.list c.vector_root-root.result c.requires.list c.vector_root-root.ensures
    c.first_number-block.result c.first_number-block.ensures.number

pub returns-clause-first : goal.returns-clause-first
returns-clause-first g c =
    c.first_of.ensures
    ∙ first_vector (g.F.Frozen.records c.args.frozen.now) c.args.list c.vector_root-root.result c.requires.list c.vector_root-root.ensures
    c.first_number-block.result c.first_number-block.ensures.number
