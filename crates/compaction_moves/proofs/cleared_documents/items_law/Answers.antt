use Rattle.compaction_moves.proofs.ItemsMoved.{items_are_cleared}
use Rattle.compaction_moves.proofs.cleared_documents.items_law.Goals as goal

pub returns : goal.returns
returns g c = items_are_cleared _
