use Rattle.std.proofs.Common.{◌∙◌}
use Rattle.std.proofs.lemmas.Result.{IfOk-weaker}
use Rattle.query_results.proofs.GroupLemmas.{runs_are}
use Rattle.query_results.proofs.runs.groups_in.Goals as goal

pub returns : goal.returns
returns c =
    IfOk-weaker c.runs_of.result _ _
    (λ groups is. is ∙ runs_are c.args.values.items _ c.sort_unstable.ensures.permutation c.sort_unstable.ensures.sorted)
    c.runs_of.ensures
