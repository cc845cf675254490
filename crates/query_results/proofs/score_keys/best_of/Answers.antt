use Rattle.std.proofs.Common.{List, map, take, ap, ◌∙◌}
use Rattle.std.proofs.lemmas.Result.{IfOk-weaker}
use Rattle.query_results.specs.Ranks.{as_score}
use Rattle.query_results.specs.declared.score_keys.ScoreKey.{ScoreKey}
use Rattle.query_results.proofs.ScoreLemmas.{key_exact, best_part}
use Rattle.query_results.proofs.score_keys.best_of.Goals as goal

pub put_in_order-requires : goal.put_in_order-requires
put_in_order-requires c = record { exact = key_exact }

pub returns : goal.returns
returns c =
    IfOk-weaker c.scores_of.result _ _
    (λ list is.
    is ∙ ap (map as_score) (c.window.ensures ∙ ap (λ (keys : List ScoreKey). take c.args.count keys) (c.as_slice.ensures.value ∙ c.put_in_order.ensures))
    ∙ best_part c.args.scores.now c.in_ok-keys.keys.items c.args.count c.in_ok-keys.ensures)
    c.scores_of.ensures
