use Rattle.std.proofs.Common.{◌≡◌, ◌+◌, ◌≤◌, ◌++◌, length, map}
use Rattle.std.specs.List.{AllByRecursion}
use Rattle.tree_read.specs.SearchPlaces.{IsAt, pairs_from}
use Rattle.tree_read.specs.Trees.{tree_pairs}
use Rattle.image_format.specs.Postings.{IsBlock}
use Rattle.bit_vector.proofs.dropping.records_of.Given as goal

abbrev pub invariant-loop-cursor : goal.invariant-loop-cursor
invariant-loop-cursor g l =
    let m = g.F.Frozen.records l.fn.frozen in
    record {
      same : l.frozen ≡ l.fn.frozen;
      at : IsAt m l.cursor;
      blocks : AllByRecursion (λ p. IsBlock p.0 (m p.1)) (pairs_from m l.cursor);
      done : l.records.items ++ map (λ p. p.1) (pairs_from m l.cursor) ≡ map (λ p. p.1) (tree_pairs m l.fn.root);
      few : length l.records.items + length (pairs_from m l.cursor) ≤ 256;
    }

abbrev pub decreases-loop-cursor : goal.decreases-loop-cursor
decreases-loop-cursor g l = length (pairs_from (g.F.Frozen.records l.fn.frozen) l.cursor)
