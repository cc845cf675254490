use Rattle.tree_changes.proofs.SpendLemmas.{lengthens-same}
use Rattle.tree_changes.proofs.layers.lengthen.Goals as goal

pub returns-then-used-eq0-clause-lengthens : goal.returns-then-used-eq0-clause-lengthens
returns-then-used-eq0-clause-lengthens g c = lengthens-same c.args.rows.now
