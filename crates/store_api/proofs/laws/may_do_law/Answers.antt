use Rattle.store_api.proofs.May.{may_do-same, may_do-then}
use Rattle.store_api.proofs.laws.may_do_law.Goals as goal

pub returns : goal.returns
returns g c = record { same = λ s. may_do-same (g.S.Store.ledger s); then = λ a b d. may_do-then (g.S.Store.ledger a) (g.S.Store.ledger b) (g.S.Store.ledger d) }
