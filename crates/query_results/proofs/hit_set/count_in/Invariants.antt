use Rattle.std.proofs.Common.{◌≡◌, ◌≤◌, ◌+◌, drop, filter, length}
use Rattle.index_model.specs.Sets.{in_words}
use Rattle.query_results.proofs.hit_set.count_in.Given as goal

abbrev pub invariant-loop-doc : goal.invariant-loop-doc
invariant-loop-doc l = record {
  few : l.count ≤ l.doc-index;
  whole : l.count + length (filter (in_words l.set) (drop l.doc-index l.docs)) ≡ length (filter (in_words l.set) l.docs);
}
