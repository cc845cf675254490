use Rattle.std.proofs.Common.{arith}
use Rattle.entry_store.proofs.Sealing.{stands-unsealed}
use Rattle.entry_store.proofs.LedgerSteps.{unseals-buffer, unseals-records}
use Rattle.entry_store.proofs.entry_store.EntryStoreStore.unseal.Goals as goal

pub unseal-requires : goal.unseal-requires
unseal-requires g c =
    let s = c.args.self.now in
    (omega arith, (c.requires.sealed, (c.requires.unfinished, s.stands.settled c.requires.unit)))

pub invariant_of-self : goal.invariant_of-self
invariant_of-self g c =
    let s = c.args.self.now in
    record { stands = stands-unsealed g.row.OFFSET_BITS _ (g.W.Frozen.shape s.work) _ _ s.unit s.stands _ c.args.buffer c.unseal.ensures.unseals c.unseal.ensures.good c.requires.none_left }

pub returns-clause-unseals : goal.returns-clause-unseals
returns-clause-unseals g c =
    let s = c.args.self.now in
    unseals-buffer g.row.OFFSET_BITS _ (g.W.Frozen.shape s.work) _ _ s.unit s.stands _ c.args.buffer c.unseal.ensures.unseals

pub returns-clause-records : goal.returns-clause-records
returns-clause-records g c =
    let s = c.args.self.now in
    unseals-records g.row.OFFSET_BITS _ (g.W.Frozen.shape s.work) _ _ s.unit s.stands _ c.args.buffer c.unseal.ensures.unseals
