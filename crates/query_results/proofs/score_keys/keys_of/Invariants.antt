use Rattle.std.proofs.Common.{◌≡◌, ◌++◌, map, drop}
use Rattle.query_results.specs.Ranks.{as_key}
use Rattle.query_results.proofs.score_keys.keys_of.Given as goal

abbrev pub invariant-loop-score : goal.invariant-loop-score
invariant-loop-score l = l.keys.items ++ map as_key (drop l.score-index l.scores) ≡ map as_key l.fn.scores
