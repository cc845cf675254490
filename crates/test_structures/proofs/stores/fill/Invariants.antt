use Rattle.store_api.specs.Units.{MayDo}
use Rattle.test_structures.proofs.stores.fill.Given as goal

abbrev pub invariant-loop-count : goal.invariant-loop-count
invariant-loop-count g l = MayDo (g.S.Store.ledger l.fn.store) (g.S.Store.ledger l.store)
