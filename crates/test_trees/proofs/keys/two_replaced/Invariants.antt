use Rattle.test_trees.specs.Tens.{HoldsTens}
use Rattle.test_trees.proofs.keys.two_replaced.Given as goal

abbrev pub invariant-loop-i : goal.invariant-loop-i
invariant-loop-i g l = HoldsTens (g.S.Store.ledger l.store) (g.S.Frozen.records l.store) l.root
