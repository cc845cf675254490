use Rattle.std.proofs.Common.{map, take, ap, ◌∙◌}
use Rattle.std.proofs.lemmas.Result.{IfOk-weaker}
use Rattle.query_results.specs.Runs.{as_group}
use Rattle.query_results.proofs.GroupKeyLemmas.{key_exact, largest_part}
use Rattle.query_results.proofs.group_keys.largest_of.Goals as goal

pub put_in_order-requires : goal.put_in_order-requires
put_in_order-requires c = record { exact = key_exact }

pub returns : goal.returns
returns c =
    IfOk-weaker c.groups_of.result _ _
    (λ list is.
    is ∙ ap (map as_group) (c.truncate.ensures.items ∙ ap (take c.args.count) c.put_in_order.ensures)
    ∙ largest_part c.args.groups c.in_ok-keys.keys.items c.args.count c.in_ok-keys.ensures)
    c.groups_of.ensures
