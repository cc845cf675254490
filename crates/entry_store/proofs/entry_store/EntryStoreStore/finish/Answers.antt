use Rattle.std.proofs.Common.{ap}
use Rattle.entry_ledger.specs.Entries.{EntriesView}
use Rattle.entry_store.specs.Standing.{ledger_of, records_by_status, statuses}
use Rattle.entry_store.proofs.Sealing.{stands-finished}
use Rattle.entry_store.proofs.entry_store.EntryStoreStore.finish.Goals as goal

pub invariant_of-self : goal.invariant_of-self
invariant_of-self g c =
    let s = c.args.self.now in
    record { stands = stands-finished g.row.OFFSET_BITS _ (g.W.Frozen.shape s.work) _ _ s.unit s.stands _ c.args.buffer c.finish.ensures.finished c.finish.ensures.good }

pub returns-clause-ledger : goal.returns-clause-ledger
returns-clause-ledger g c =
    let s = c.args.self.now in
    ap (λ e. ledger_of g.row.OFFSET_BITS (g.W.Work.knows s.work) (g.W.Frozen.shape s.work) (g.W.Frozen.records s.work) e s.unit) c.finish.ensures.finished

pub returns-clause-records : goal.returns-clause-records
returns-clause-records g c =
    let s = c.args.self.now in
    ap (λ (e : EntriesView). records_by_status (statuses (g.W.Work.knows s.work).commits e) (g.W.Frozen.records s.work)) c.finish.ensures.finished
