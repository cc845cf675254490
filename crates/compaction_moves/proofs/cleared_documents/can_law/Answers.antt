use Rattle.compaction_moves.proofs.DocumentsCan.{items_can, nodes_can}
use Rattle.compaction_moves.proofs.cleared_documents.can_law.Goals as goal

pub returns-clause-items : goal.returns-clause-items
returns-clause-items g c = items_can c.key_law.ensures.read c.documents_law.ensures.values _

pub returns-clause-nodes : goal.returns-clause-nodes
returns-clause-nodes g c = nodes_can c.key_law.ensures.read _
