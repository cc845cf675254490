use Rattle.attr_compaction.proofs.OrderLemmas.{phase_ascends}
use Rattle.attr_compaction.proofs.keys_laws.keys_law.Goals as goal

pub returns : goal.returns
returns c = phase_ascends
