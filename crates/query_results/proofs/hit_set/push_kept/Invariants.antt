use Rattle.std.proofs.Common.{◌≡◌, ◌++◌, drop, filter}
use Rattle.index_model.specs.Sets.{in_words}
use Rattle.query_results.proofs.hit_set.push_kept.Given as goal

abbrev pub invariant-loop-doc : goal.invariant-loop-doc
invariant-loop-doc l =
    l.kept.items ++ filter (in_words l.set) (drop l.doc-index l.docs) ≡ l.fn.kept.items ++ filter (in_words l.set) l.docs
