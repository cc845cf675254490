use Rattle.std.proofs.Common.{◌≡◌, ◌++◌, map, drop}
use Rattle.attr_c.proofs.sorting.docs_of.Given as goal

abbrev pub invariant-loop-score : goal.invariant-loop-score
invariant-loop-score l = l.docs ++ map (λ s. s.doc) (drop l.score-index l.scores) ≡ map (λ s. s.doc) l.fn.scores
