use Rattle.std.proofs.Common.{◌≡◌, length}
use Rattle.tree_read.specs.SearchPlaces.{IsAt, pairs_from}
use Rattle.index_model.specs.Leaves.{from}
use Rattle.query_eval.specs.Parts.{AreIndexPairs, index_of_pairs}
use Rattle.query_eval.proofs.walks.skip_before.Given as goal

abbrev pub invariant-loop-alloc : goal.invariant-loop-alloc
invariant-loop-alloc g l =
    let m = g.F.Frozen.records l.fn.frozen in
    record {
      same : l.frozen ≡ l.fn.frozen;
      at : IsAt m l.cursor;
      pairs : AreIndexPairs l.value_type m (pairs_from m l.cursor);
      part : from l.leaf (index_of_pairs l.value_type m (pairs_from m l.cursor)) ≡ from l.leaf (index_of_pairs l.value_type m (pairs_from m l.fn.cursor));
    }

abbrev pub decreases-loop-alloc : goal.decreases-loop-alloc
decreases-loop-alloc g l = length (pairs_from (g.F.Frozen.records l.fn.frozen) l.cursor)
