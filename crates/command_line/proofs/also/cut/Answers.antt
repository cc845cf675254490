use Rattle.std.proofs.Common.{◌+◌, ◌∙◌, ◌==◌, ap, sym, subst, map, length, arith}
use Rattle.std.specs.List.{AllByRecursion}
use Rattle.std.proofs.lemmas.Result.{IfOk-weaker}
use Rattle.command_line.specs.Also.{EndsBefore, span}
use Rattle.command_line.proofs.PieceLemmas.{placed_end, split_span}
use Rattle.command_line.proofs.also.cut.Goals as goal

pub placed-requires : goal.placed-requires
placed-requires c =
    let texts = ap (map (λ t. t.now)) c.as_slice.ensures.value ∙ c.in_ok-texts.ensures in
    let reach = ap span texts ∙ split_span (λ byte. byte == c.args.mark) c.args.whole.text.now in
    omega (arith, reach, c.requires.small)

pub returns-clause-ends : goal.returns-clause-ends
returns-clause-ends c =
    let offset = c.args.whole.place + length c.args.whole.text.now in
    let texts = ap (map (λ t. t.now)) c.as_slice.ensures.value ∙ c.in_ok-texts.ensures in
    let reach = ap span texts ∙ split_span (λ byte. byte == c.args.mark) c.args.whole.text.now in
    IfOk-weaker c.placed.result _ _
    (λ parts is. subst (AllByRecursion (EndsBefore offset)) (sym is)
    (placed_end offset c.args.whole.place (map (λ t. t.now) c.as_slice.result.now) (omega (arith, reach)))) c.placed.ensures
