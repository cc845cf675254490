use Rattle.compaction_moves.proofs.KeyMoved.{key_clears}
use Rattle.compaction_moves.proofs.ListMoved.{list_clears}
use Rattle.compaction_moves.proofs.NodeMoved.{node_clears}
use Rattle.compaction_moves.proofs.index.moved_law.Goals as goal

pub returns-clause-key : goal.returns-clause-key
returns-clause-key g c = key_clears _

pub returns-clause-list : goal.returns-clause-list
returns-clause-list g c = list_clears _

pub returns-clause-nodes : goal.returns-clause-nodes
returns-clause-nodes g c = node_clears _
