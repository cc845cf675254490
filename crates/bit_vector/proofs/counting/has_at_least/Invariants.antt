use Rattle.std.proofs.Common.{◌≡◌, ◌+◌, length}
use Rattle.std.specs.List.{AllByRecursion}
use Rattle.tree_read.specs.SearchPlaces.{IsAt, pairs_from}
use Rattle.image_format.specs.Postings.{vector_documents, IsBlock}
use Rattle.bit_vector.specs.Vectors.{blocks_documents}
use Rattle.bit_vector.proofs.counting.has_at_least.Given as goal

abbrev pub invariant-loop-cursor : goal.invariant-loop-cursor
invariant-loop-cursor g l =
    let m = g.F.Frozen.records l.fn.frozen in
    record {
      same : l.frozen ≡ l.fn.frozen;
      at : IsAt m l.cursor;
      blocks : AllByRecursion (λ p. IsBlock p.0 (m p.1)) (pairs_from m l.cursor);
      whole : l.count + length (blocks_documents m (pairs_from m l.cursor)) ≡ length (vector_documents m l.fn.root);
    }

abbrev pub decreases-loop-cursor : goal.decreases-loop-cursor
decreases-loop-cursor g l = length (pairs_from (g.F.Frozen.records l.fn.frozen) l.cursor)
