use Rattle.std.proofs.Common.{◌∙◌, sym}
use Rattle.std.proofs.lemmas.Result.{IfOk-weaker}
use Rattle.attr_report.specs.Run.{run_in}
use Rattle.attr_engine.proofs.WritingLemmas.{run_of}
use Rattle.attr_engine.proofs.engine.written_in.Goals as goal

pub returns : goal.returns
returns c =
    let run_result = c.requires.run_result in
    IfOk-weaker c.written_of.result _ _
    (λ w wrote. run_of (run_in c.args.request.now) c.args.ops.now c.args.run_result w run_result (sym run_result.asked ∙ sym c.is_some.ensures ∙ c.if-is_some.false) wrote) c.written_of.ensures
