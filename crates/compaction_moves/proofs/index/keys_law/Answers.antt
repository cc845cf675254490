use Rattle.compaction_moves.proofs.IndexKeys.{keys_are_same}
use Rattle.compaction_moves.proofs.index.keys_law.Goals as goal

pub returns : goal.returns
returns c = keys_are_same
