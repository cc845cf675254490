use Rattle.std.proofs.Common.{◌-◌, arith, sym, subst}
use Rattle.bit_vector.specs.Vectors.{IsVector}
use Rattle.query_eval.proofs.LeafListLemmas.{vector_root}
use Rattle.query_results.proofs.ListFormLemmas.{is_vector_at}
use Rattle.query_results.proofs.lists.count_of.Goals as goal

pub overflow_cast-list : goal.overflow_cast-list
overflow_cast-list g c =
    let m = g.F.Frozen.records c.args.frozen.now in
    let below = g.met.F.Frozen.references c.args.frozen.now (c.args.list - 8589934592) (vector_root m c.args.list c.if-list-ge-FIRST_VECTOR.true c.requires.form) in
    omega arith

pub count_in_vector-requires : goal.count_in_vector-requires
count_in_vector-requires g c =
    let m = g.F.Frozen.records c.args.frozen.now in
    (omega arith, subst (IsVector m) (sym c.from_raw.ensures) (is_vector_at m c.args.list c.if-list-ge-FIRST_VECTOR.true c.requires.form c.requires.documents))
