use Rattle.tree_changes.proofs.MergeLemmas.{one-by-one, in-parts}
use Rattle.tree_changes.proofs.laws.merge_law.Goals as goal

pub returns-clause-one_by_one : goal.returns-clause-one_by_one
returns-clause-one_by_one c = one-by-one

pub returns-clause-parts : goal.returns-clause-parts
returns-clause-parts c = in-parts
