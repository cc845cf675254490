use Rattle.std.proofs.Common.{◌≡◌, ◌++◌, filter, length}
use Rattle.tree_read.specs.SearchPlaces.{IsAt, pairs_from}
use Rattle.index_model.specs.Leaves.{listed}
use Rattle.index_model.specs.Sets.{in_words}
use Rattle.query_eval.specs.Parts.{AreIndexPairs, index_of_pairs}
use Rattle.query_results.proofs.dictionary_order.kept_from.Given as goal

-- the documents so far, and those of the values that are left
abbrev pub invariant-loop-cursor : goal.invariant-loop-cursor
invariant-loop-cursor g l =
    let m = g.F.Frozen.records l.fn.frozen in
    record {
      same : l.frozen ≡ l.fn.frozen;
      at : IsAt m l.cursor;
      pairs : AreIndexPairs l.fn.value_type m (pairs_from m l.cursor);
      whole : l.docs.items ++ filter (in_words l.set) (listed (index_of_pairs l.fn.value_type m (pairs_from m l.cursor)))
          ≡ filter (in_words l.set) (listed (index_of_pairs l.fn.value_type m (pairs_from m l.fn.cursor)));
    }

abbrev pub decreases-loop-cursor : goal.decreases-loop-cursor
decreases-loop-cursor g l = length (pairs_from (g.F.Frozen.records l.fn.frozen) l.cursor)
