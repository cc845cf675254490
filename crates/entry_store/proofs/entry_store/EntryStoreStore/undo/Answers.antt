use Rattle.entry_store.proofs.Stands.{stands-undone}
use Rattle.entry_store.proofs.LedgerSteps.{undoes-unit}
use Rattle.entry_store.proofs.entry_store.EntryStoreStore.undo.Goals as goal

pub invariant_of-self : goal.invariant_of-self
invariant_of-self g c =
    let s = c.args.self.now in
    record { stands = stands-undone g.row.OFFSET_BITS _ _ _ s.unit s.stands _ c.undo.ensures.undoes c.undo.ensures.good }

pub returns : goal.returns
returns g c =
    let s = c.args.self.now in
    undoes-unit g.row.OFFSET_BITS _ (g.W.Frozen.shape s.work) _ _ s.unit s.stands _ c.undo.ensures.undoes
