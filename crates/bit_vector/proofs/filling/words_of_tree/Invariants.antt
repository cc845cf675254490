use Rattle.std.proofs.Common.{◌≡◌, length}
use Rattle.tree_read.specs.SearchPlaces.{IsAt, pairs_from}
use Rattle.tree_read.specs.Trees.{tree_pairs}
use Rattle.bit_vector.proofs.FillLemmas.{keys, IsFilling}
use Rattle.bit_vector.proofs.filling.words_of_tree.Given as goal

abbrev pub invariant-loop-cursor : goal.invariant-loop-cursor
invariant-loop-cursor g l =
    let m = g.F.Frozen.records l.fn.frozen in
    record {
      same : l.frozen ≡ l.fn.frozen;
      at : IsAt m l.cursor;
      fills : IsFilling l.number l.words (pairs_from m l.cursor) (keys (tree_pairs m l.fn.root));
    }

abbrev pub decreases-loop-cursor : goal.decreases-loop-cursor
decreases-loop-cursor g l = length (pairs_from (g.F.Frozen.records l.fn.frozen) l.cursor)
