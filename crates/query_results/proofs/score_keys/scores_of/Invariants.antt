use Rattle.std.proofs.Common.{◌≡◌, ◌++◌, map, drop}
use Rattle.query_results.specs.Ranks.{as_score}
use Rattle.query_results.proofs.score_keys.scores_of.Given as goal

abbrev pub invariant-loop-key : goal.invariant-loop-key
invariant-loop-key l = l.scores ++ map as_score (drop l.key-index l.keys) ≡ map as_score l.fn.keys
