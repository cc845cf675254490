use Rattle.std.proofs.Common.{◌≡◌, ◌+◌, length}
use Rattle.image_format.specs.Postings.{vector_documents}
use Rattle.bit_vector.specs.Walks.{documents_from, IsVectorPlace}
use Rattle.query_results.proofs.lists.count_in_vector.Given as goal

abbrev pub invariant-loop-cursor : goal.invariant-loop-cursor
invariant-loop-cursor g l =
    let m = g.F.Frozen.records l.fn.frozen in
    record {
      same : l.frozen ≡ l.fn.frozen;
      place : IsVectorPlace m l.cursor;
      whole : l.count + length (documents_from m l.cursor) ≡ length (vector_documents m l.fn.root);
    }

abbrev pub decreases-loop-cursor : goal.decreases-loop-cursor
decreases-loop-cursor g l = length (documents_from (g.F.Frozen.records l.fn.frozen) l.cursor)
