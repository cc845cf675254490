use Rattle.attr_types.proofs.TableLemmas.{step_keeps, run_keeps}
use Rattle.attr_types.proofs.laws.step_law.Goals as goal

pub returns-clause-step : goal.returns-clause-step
returns-clause-step c = step_keeps

pub returns-clause-run : goal.returns-clause-run
returns-clause-run c = run_keeps
