use Rattle.feed_reader.proofs.FaultLemmas.{refused_by_fault, gives_each}
use Rattle.feed_reader.proofs.laws.first_fault_law.Goals as goal

pub returns-clause-refused : goal.returns-clause-refused
returns-clause-refused c = refused_by_fault

pub returns-clause-taken : goal.returns-clause-taken
returns-clause-taken c = gives_each
