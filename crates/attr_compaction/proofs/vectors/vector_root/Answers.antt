use Rattle.std.proofs.Common.{◌-◌, arith}
use Rattle.posting_store.proofs.VectorLemmas.{vector_there}
use Rattle.attr_compaction.proofs.vectors.vector_root.Goals as goal

pub overflow_cast-list : goal.overflow_cast-list
overflow_cast-list g c =
    let small = g.met.F.Frozen.references c.args.frozen.now (c.args.list - 8589934592)
    (vector_there (g.F.Frozen.records c.args.frozen.now) c.args.list c.requires.vector c.requires.list) in
    omega (arith, small)
