use Rattle.std.proofs.Common.{take, ap, ◌∙◌}
use Rattle.query_results.proofs.facets.groups.Goals as goal

pub returns-clause-groups : goal.returns-clause-groups
returns-clause-groups g c = c.first_groups.ensures ∙ ap (take c.args.count) c.in_ok-groups.ensures.groups
