use Rattle.compaction_moves.proofs.VisitLemmas.{all_visited, nothing_visited, visited_stays}
use Rattle.compaction_moves.proofs.LeftLemmas.{nothing_left}
use Rattle.compaction_moves.proofs.laws.cleared_law.Goals as goal

pub returns-clause-begins : goal.returns-clause-begins
returns-clause-begins c = nothing_visited

pub returns-clause-stays : goal.returns-clause-stays
returns-clause-stays c = visited_stays

pub returns-clause-ends : goal.returns-clause-ends
returns-clause-ends c = all_visited

pub returns-clause-left : goal.returns-clause-left
returns-clause-left c = nothing_left
