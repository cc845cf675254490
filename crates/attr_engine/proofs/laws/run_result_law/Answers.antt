use Rattle.attr_engine.proofs.HistoryLemmas.{in_rounds, afterwards}
use Rattle.attr_engine.proofs.MemoryLemmas.{same_rounds}
use Rattle.attr_engine.proofs.laws.run_result_law.Goals as goal

pub returns-clause-stand : goal.returns-clause-stand
returns-clause-stand c = λ run ops run_result saved is. in_rounds run ops run_result saved is

pub returns-clause-after : goal.returns-clause-after
returns-clause-after c = λ run ops run_result saved is. afterwards run ops run_result saved is

pub returns-clause-one : goal.returns-clause-one
returns-clause-one c = λ run ops loaded loaded' seat rounds others one two. same_rounds run ops loaded loaded' seat rounds others one two
