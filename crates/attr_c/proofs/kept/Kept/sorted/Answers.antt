use Rattle.std.proofs.Common.{ap, ◌∙◌}
use Rattle.std.proofs.lemmas.Result.{IfOk-weaker}
use Rattle.attr_types.specs.Table.{Table}
use Rattle.result_model.specs.Orders.{sorted}
use Rattle.attr_c.specs.Copies.{documents_of}
use Rattle.attr_c.proofs.GuardLemmas.{guard_table}
use Rattle.attr_c.proofs.kept.Kept.sorted.Goals as goal

pub returns-clause-sorted : goal.returns-clause-sorted
returns-clause-sorted g c =
    let same = guard_table _ c.args.self.now c.self.invariant c.self.view_is c.root-root.result c.root-root.ensures in
    IfOk-weaker c.answer_sorted.result _ _
    (λ list is. is ∙ ap (λ (t : Table). sorted c.args.field c.args.direction (documents_of c.args.answer.now) c.args.first c.args.count t) same)
    c.answer_sorted.ensures.sorted
