use Rattle.std.proofs.Common.{◌≡◌, ◌++◌, length}
use Rattle.tree_read.specs.SearchPlaces.{IsAt, pairs_from}
use Rattle.image_format.specs.Postings.{index_of}
use Rattle.index_model.specs.Sets.{in_words}
use Rattle.query_eval.specs.Parts.{AreIndexPairs, index_of_pairs}
use Rattle.query_results.specs.Dictionaries.{groups_in}
use Rattle.query_results.proofs.dictionary_groups.groups_in_set.Given as goal

-- the groups so far, and those of the values that are left
abbrev pub invariant-loop-alloc : goal.invariant-loop-alloc
invariant-loop-alloc g l =
    let m = g.F.Frozen.records l.fn.frozen in
    record {
      same : l.frozen ≡ l.fn.frozen;
      at : IsAt m l.cursor;
      pairs : AreIndexPairs l.fn.value_type m (pairs_from m l.cursor);
      whole : l.groups ++ groups_in (in_words l.set) (index_of_pairs l.fn.value_type m (pairs_from m l.cursor))
          ≡ groups_in (in_words l.set) (index_of l.fn.value_type m l.fn.root);
    }

abbrev pub decreases-loop-alloc : goal.decreases-loop-alloc
decreases-loop-alloc g l = length (pairs_from (g.F.Frozen.records l.fn.frozen) l.cursor)
