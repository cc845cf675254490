use Rattle.std.proofs.Common.{◌≡◌, ◌||◌, ℕ, length}
use Rattle.tree_read.specs.Trees.{tree_pairs}
use Rattle.tree_read.specs.SearchPlaces.{IsAt, pairs_from}
use Rattle.index_model.specs.Gathers.{is_gathered}
use Rattle.index_model.specs.Sets.{has}
use Rattle.index_model.specs.Leaves.{listed}
use Rattle.query_eval.specs.Parts.{AreIndexPairs, index_of_pairs}
use Rattle.query_eval.proofs.walks.gather_every.Given as goal

-- what is there, and what is still to come
abbrev pub invariant-loop-alloc : goal.invariant-loop-alloc
invariant-loop-alloc g l =
    let m = g.F.Frozen.records l.fn.frozen in
    record {
      same : l.frozen ≡ l.fn.frozen;
      at : IsAt m l.cursor;
      pairs : AreIndexPairs l.fn.value_type m (pairs_from m l.cursor);
      whole : (doc : ℕ) → (is_gathered l.all doc || has (listed (index_of_pairs l.fn.value_type m (pairs_from m l.cursor))) doc)
          ≡ (is_gathered l.fn.gathered doc || has (listed (index_of_pairs l.fn.value_type m (tree_pairs m l.fn.root))) doc);
    }

abbrev pub decreases-loop-alloc : goal.decreases-loop-alloc
decreases-loop-alloc g l = length (pairs_from (g.F.Frozen.records l.fn.frozen) l.cursor)
