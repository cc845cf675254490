use Rattle.std.proofs.Common.{ap, ◌∙◌}
use Rattle.std.proofs.lemmas.Result.{IfOk-weaker}
use Rattle.attr_types.specs.Table.{Table}
use Rattle.result_model.specs.Totals.{totals}
use Rattle.attr_c.specs.Copies.{documents_of}
use Rattle.attr_c.proofs.GuardLemmas.{guard_table}
use Rattle.attr_c.proofs.kept.Kept.totals.Goals as goal

pub returns-clause-totals : goal.returns-clause-totals
returns-clause-totals g c =
    let same = guard_table _ c.args.self.now c.self.invariant c.self.view_is c.root-root.result c.root-root.ensures in
    IfOk-weaker c.answer_totals.result _ _
    (λ found is. is ∙ ap (λ (t : Table). totals c.args.field (documents_of c.args.answer.now) t) same)
    c.answer_totals.ensures.totals
