use Rattle.gen_core.proofs.ExampleSteps.{missed, renewed, closed, kept, reopened, again, stored, stored_narrow}
use Rattle.gen_core.proofs.laws.examples_law.Goals as goal

pub returns : goal.returns
returns c = record { missed = missed; renewed = renewed; closed = closed; kept = kept; reopened = reopened; again = again; stored = stored; stored_narrow = stored_narrow }
