use Rattle.std.proofs.Common.{List, map, take, drop, ap, ◌∙◌}
use Rattle.std.proofs.lemmas.Result.{IfOk-weaker}
use Rattle.query_results.specs.declared.ranks.Ranked.{Ranked}
use Rattle.query_results.proofs.RankLemmas.{ranked_exact, ranked_part}
use Rattle.query_results.proofs.ranks.in_order_of.Goals as goal

pub put_in_order-requires : goal.put_in_order-requires
put_in_order-requires c = record { exact = ranked_exact }

pub returns : goal.returns
returns c =
    IfOk-weaker c.docs_of.result _ _
    (λ docs is direction keys made.
    is ∙ ap (map (λ (key : Ranked). key.doc)) (c.window.ensures ∙ ap (λ (list : List Ranked). take c.args.count (drop c.args.from list)) (c.as_slice.ensures.value ∙ c.put_in_order.ensures))
    ∙ ranked_part direction c.args.list.items keys c.args.from c.args.count made)
    c.docs_of.ensures
