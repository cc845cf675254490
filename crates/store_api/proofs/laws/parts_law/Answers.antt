use Rattle.store_api.proofs.CommitLemmas.{whole-from, commit-owns}
use Rattle.store_api.proofs.UnitLemmas.{unit-accepts}
use Rattle.store_api.proofs.laws.parts_law.Goals as goal

pub returns : goal.returns
returns g c = record {
  whole = λ s m part rest. whole-from g.row.OFFSET_BITS (g.S.Store.ledger s) m part rest;
  commit = λ s t m part rest root answer all whole there. commit-owns g.row.OFFSET_BITS (g.S.Store.ledger s) (g.S.Store.ledger t) m part rest root answer all whole there;
  unit = λ s begun mid t k m n o parts next. unit-accepts (g.S.Store.ledger s) (g.S.Store.ledger begun) (g.S.Store.ledger mid) (g.S.Store.ledger t) k m n o parts next;
}
