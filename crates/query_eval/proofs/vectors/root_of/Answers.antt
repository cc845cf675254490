use Rattle.std.proofs.Common.{arith, ◌-◌}
use Rattle.query_eval.proofs.LeafListLemmas.{vector_root}
use Rattle.query_eval.proofs.vectors.root_of.Goals as goal

pub overflow_cast-list : goal.overflow_cast-list
overflow_cast-list g c =
    let m = g.F.Frozen.records c.args.frozen.now in
    let below = g.met.F.Frozen.references c.args.frozen.now (c.args.list - 8589934592) (vector_root m c.args.list c.requires.vector c.requires.word.0) in
    omega arith
