use Rattle.attr_compaction.proofs.CountLemmas.{end_no_more, next_more, none_between, same_between}
use Rattle.attr_compaction.proofs.counts_laws.count_law.Goals as goal

pub returns-clause-none : goal.returns-clause-none
returns-clause-none g = none_between

pub returns-clause-next : goal.returns-clause-next
returns-clause-next g = next_more

pub returns-clause-end : goal.returns-clause-end
returns-clause-end g = end_no_more

pub returns-clause-same : goal.returns-clause-same
returns-clause-same g = same_between
