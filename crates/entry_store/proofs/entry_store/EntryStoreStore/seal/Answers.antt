use Rattle.std.proofs.Common.{arith}
use Rattle.entry_store.proofs.Sealing.{seal-may, stands-sealed}
use Rattle.entry_store.proofs.LedgerSteps.{seals-buffer, seals-records}
use Rattle.entry_store.proofs.entry_store.EntryStoreStore.seal.Goals as goal

pub seal-requires : goal.seal-requires
seal-requires g c =
    let s = c.args.self.now in
    let may = seal-may g.row.OFFSET_BITS _ (g.W.Frozen.shape s.work) _ _ s.unit s.stands c.args.buffer c.requires in
    (omega arith, (may.0, may.1))

pub invariant_of-self : goal.invariant_of-self
invariant_of-self g c =
    let s = c.args.self.now in
    record { stands = stands-sealed g.row.OFFSET_BITS _ (g.W.Frozen.shape s.work) _ _ s.unit s.stands _ c.args.buffer c.seal.ensures.seals c.seal.ensures.good }

pub returns-clause-seals : goal.returns-clause-seals
returns-clause-seals g c =
    let s = c.args.self.now in
    seals-buffer g.row.OFFSET_BITS _ (g.W.Frozen.shape s.work) _ _ s.unit s.stands _ c.args.buffer c.seal.ensures.seals

pub returns-clause-records : goal.returns-clause-records
returns-clause-records g c =
    let s = c.args.self.now in
    seals-records g.row.OFFSET_BITS _ (g.W.Frozen.shape s.work) _ _ s.unit s.stands _ c.args.buffer c.seal.ensures.seals
