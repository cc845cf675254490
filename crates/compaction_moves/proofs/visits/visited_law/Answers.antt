use Rattle.compaction_moves.proofs.PlanVisits.{all_before, earlier_visited, end_visited, next_visited, none_behind, others_visited, stage_visited}
use Rattle.compaction_moves.proofs.visits.visited_law.Goals as goal

pub returns-clause-next : goal.returns-clause-next
returns-clause-next c = next_visited

pub returns-clause-end : goal.returns-clause-end
returns-clause-end c = end_visited

pub returns-clause-earlier : goal.returns-clause-earlier
returns-clause-earlier c = earlier_visited

pub returns-clause-before : goal.returns-clause-before
returns-clause-before c = all_before

pub returns-clause-behind : goal.returns-clause-behind
returns-clause-behind c = none_behind

pub returns-clause-others : goal.returns-clause-others
returns-clause-others c = others_visited

pub returns-clause-stage : goal.returns-clause-stage
returns-clause-stage c = stage_visited
