use Rattle.std.proofs.Common.{[]}
use Rattle.index_model.proofs.MapLemmas.{lookup-first_weights}
use Rattle.index_model.proofs.MiddleLemmas.{has_both, begins_again, both_walks, between_same}
use Rattle.index_model.proofs.laws.middle_law.Goals as goal

pub returns-clause-both : goal.returns-clause-both
returns-clause-both c = has_both

pub returns-clause-again : goal.returns-clause-again
returns-clause-again c = begins_again

pub returns-clause-join : goal.returns-clause-join
returns-clause-join c = both_walks

pub returns-clause-count : goal.returns-clause-count
returns-clause-count c = between_same

pub returns-clause-weights : goal.returns-clause-weights
returns-clause-weights c = λ value items. lookup-first_weights value [] items
