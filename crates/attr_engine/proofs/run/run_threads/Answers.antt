use Rattle.attr_report.specs.Run.{run_in}
use Rattle.attr_engine.proofs.TellingLemmas.{has_history}
use Rattle.attr_engine.proofs.run.run_threads.Goals as goal

pub returns-clause-history : goal.returns-clause-history
returns-clause-history g c = has_history (run_in c.args.request.now) c.args.ops.now c.in_ok-run_result.run_result c.in_ok-run_result.ensures
