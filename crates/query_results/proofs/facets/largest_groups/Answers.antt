use Rattle.std.proofs.Common.{List, take, ap, ◌∙◌}
use Rattle.std.proofs.lemmas.Result.{IfOk-weaker}
use Rattle.result_model.specs.Groups.{by_count}
use Rattle.result_model.specs.Orders.{in_order}
use Rattle.result_model.specs.declared.group.Group.{Group}
use Rattle.query_results.proofs.facets.largest_groups.Goals as goal

pub returns-clause-groups : goal.returns-clause-groups
returns-clause-groups g c =
    IfOk-weaker c.largest_of.result _ _
    (λ list is. is ∙ ap (λ (groups : List Group). take c.args.count (in_order by_count groups)) c.in_ok-groups.ensures.groups)
    c.largest_of.ensures
