use Rattle.std.proofs.Common.{◌≡◌, ◌<◌, length, ap, sym, ◌∙◌, arith}
use Rattle.std.proofs.lemmas.List.{get_or_default}
use Rattle.hold_lists.proofs.RunLemmas.{rising-all}
use Rattle.hold_lists.specs.Runs.{nth_run}
use Rattle.hold_lists.specs.declared.Run.{Run}
use Rattle.hold_lists.proofs.first_below.Goals as goal

-- the first run of rising ones is not below, so none is
pub returns-then-rises-clause-none : goal.returns-then-rises-clause-none
returns-then-rises-clause-none c =
    let runs = c.args.runs.now.items in
    let inside : c.loop-i.i < length runs = omega (arith, c.loop-i-test.true, c.len-i-end.ensures, c.args.runs.now.ok.0) in
    let at : (nth_run runs 0).generation ≡ c.index-run.result.now.generation =
    ap (λ i. (nth_run runs i).generation) (sym (c.loop-i.invariant.first c.if-rises.true))
    ∙ ap (λ (run : Run). run.generation) (get_or_default runs c.loop-i.i _ c.index-run.result.now inside ∙ sym c.index-run.ensures) in
    rising-all runs c.args.oldest (c.requires.rising c.if-rises.true) (omega (arith, at, c.if-run-oldest.false))
