use Rattle.compaction_moves.proofs.MapMoved.{map_is_cleared}
use Rattle.compaction_moves.proofs.cleared_documents.map_law.Goals as goal

pub returns : goal.returns
returns g c = map_is_cleared _
