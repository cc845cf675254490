use Rattle.entry_store.proofs.Stands.{stands-accepted}
use Rattle.entry_store.proofs.LedgerSteps.{accepts-unit}
use Rattle.entry_store.proofs.entry_store.EntryStoreStore.accept.Goals as goal

pub invariant_of-self : goal.invariant_of-self
invariant_of-self g c =
    let s = c.args.self.now in
    record { stands = stands-accepted g.row.OFFSET_BITS _ _ _ s.unit s.stands _ c.accept.ensures.accepts c.accept.ensures.good }

pub returns : goal.returns
returns g c =
    let s = c.args.self.now in
    accepts-unit g.row.OFFSET_BITS _ (g.W.Frozen.shape s.work) _ _ s.unit s.stands _ c.accept.ensures.accepts
