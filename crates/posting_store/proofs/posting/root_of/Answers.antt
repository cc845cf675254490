use Rattle.std.proofs.Common.{◌-◌, arith}
use Rattle.posting_store.proofs.VectorLemmas.{vector_there}
use Rattle.posting_store.proofs.posting.root_of.Goals as goal

pub overflow_cast-word : goal.overflow_cast-word
overflow_cast-word g c =
    let m = g.F.Frozen.records c.args.frozen.now in
    let below = g.met.F.Frozen.references c.args.frozen.now (c.args.list - 8589934592) (vector_there m c.args.list c.requires.vector c.requires.list) in
    omega arith
