use Rattle.std.proofs.Common.{◌≡◌, ◌++◌, take}
use Rattle.tree_read.specs.SearchPlaces.{IsAt, pairs_from}
use Rattle.index_model.specs.Leaves.{run}
use Rattle.query_eval.specs.Parts.{AreIndexPairs, index_of_pairs}
use Rattle.query_results.specs.Dictionaries.{terms_of}
use Rattle.query_results.proofs.leaf_terms.terms_from.Given as goal

-- the terms so far, and as many of the others as are left
abbrev pub invariant-loop-left : goal.invariant-loop-left
invariant-loop-left g l =
    let m = g.F.Frozen.records l.fn.frozen in
    record {
      same : l.frozen ≡ l.fn.frozen;
      at : IsAt m l.cursor;
      pairs : AreIndexPairs l.value_type m (pairs_from m l.cursor);
      whole : l.terms ++ take l.left (terms_of (run l.leaf (index_of_pairs l.value_type m (pairs_from m l.cursor))))
          ≡ take l.fn.count (terms_of (run l.leaf (index_of_pairs l.value_type m (pairs_from m l.fn.cursor))));
    }

abbrev pub decreases-loop-left : goal.decreases-loop-left
decreases-loop-left g l = l.left
