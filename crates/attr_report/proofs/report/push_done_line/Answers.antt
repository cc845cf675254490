use Rattle.std.proofs.Common.{◌∙◌, append_assoc}
use Rattle.std.proofs.lemmas.Result.{on_ok_weaker}
use Rattle.attr_report.specs.Report.{done_line}
use Rattle.attr_report.proofs.report.push_done_line.Goals as goal

pub returns : goal.returns
unfolding done_line
returns c = on_ok_weaker c.writeln.result (λ e. e ∙ simp append_assoc) c.writeln.ensures.bytes
