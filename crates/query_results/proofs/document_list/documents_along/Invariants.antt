use Rattle.std.proofs.Common.{◌≡◌, ◌++◌, take}
use Rattle.std.specs.List.{AllByRecursion}
use Rattle.std.specs.Map.{keys_of}
use Rattle.tree_read.specs.SearchPlaces.{IsAt, pairs_from}
use Rattle.doc_vector.specs.Documents.{IsDocumentPair}
use Rattle.query_results.proofs.document_list.documents_along.Given as goal

-- the documents so far, and as many of the others as are left
abbrev pub invariant-loop-left : goal.invariant-loop-left
invariant-loop-left g l =
    let m = g.F.Frozen.records l.fn.frozen in
    record {
      same : l.frozen ≡ l.fn.frozen;
      at : IsAt m l.cursor;
      pairs : AllByRecursion IsDocumentPair (pairs_from m l.cursor);
      whole : l.docs ++ take l.left (keys_of (pairs_from m l.cursor)) ≡ take l.fn.count (keys_of (pairs_from m l.fn.cursor));
    }

abbrev pub decreases-loop-left : goal.decreases-loop-left
decreases-loop-left g l = l.left
