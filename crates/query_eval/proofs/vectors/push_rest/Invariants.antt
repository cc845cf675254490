use Rattle.std.proofs.Common.{◌≡◌, ◌||◌, ◌&&◌, ℕ, length}
use Rattle.std.specs.List.{AllByRecursion}
use Rattle.tree_read.specs.SearchPlaces.{IsAt, pairs_from}
use Rattle.index_model.specs.Sets.{has}
use Rattle.query_eval.specs.Blocks.{IsDocumentBlock, documents_of}
use Rattle.query_eval.specs.Lists.{all_have}
use Rattle.query_eval.proofs.vectors.push_rest.Given as goal

abbrev pub invariant-loop-frozen : goal.invariant-loop-frozen
invariant-loop-frozen g l =
    let m = g.F.Frozen.records l.fn.frozen in
    record {
      same : l.frozen ≡ l.fn.frozen;
      at : IsAt m l.cursor;
      blocks : AllByRecursion (IsDocumentBlock m) (pairs_from m l.cursor);
      whole : (doc : ℕ) → (has l.docs.items doc || (has (documents_of m (pairs_from m l.cursor)) doc && all_have m l.lists doc))
          ≡ (has l.fn.docs.items doc || (has (documents_of m (pairs_from m l.fn.cursor)) doc && all_have m l.lists doc));
    }

abbrev pub decreases-loop-frozen : goal.decreases-loop-frozen
decreases-loop-frozen g l = length (pairs_from (g.F.Frozen.records l.fn.frozen) l.cursor)
