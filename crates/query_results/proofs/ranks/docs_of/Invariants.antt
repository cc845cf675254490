use Rattle.std.proofs.Common.{◌≡◌, ◌++◌, map, drop}
use Rattle.query_results.proofs.ranks.docs_of.Given as goal

abbrev pub invariant-loop-ranked : goal.invariant-loop-ranked
invariant-loop-ranked l = l.docs ++ map (λ key. key.doc) (drop l.ranked-index l.list) ≡ map (λ key. key.doc) l.fn.list
