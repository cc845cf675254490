use Rattle.std.proofs.Common.{◌≡◌, sym, ap, subst}
use Rattle.entry_store.specs.Standing.{Stands}
use Rattle.entry_store.proofs.StandsProp.{stands-prop}
use Rattle.entry_ledger.specs.Ledgers.{entries_of}
use Rattle.entry_store.proofs.entry_store.EntryStoreFrozen.word.Goals as goal

pub returns-clause-same : goal.returns-clause-same
returns-clause-same g c =
    let s = c.args.self.now in
    subst
    (λ (w : g.row.W.Denot).
    (st : Stands g.row.OFFSET_BITS (g.W.Work.knows w) (g.W.Frozen.records w) (entries_of g.row.OFFSET_BITS s.entries) s.unit) → record s { work = w; stands = st } ≡ s)
    (sym c.word.ensures.same)
    (λ st. ap (λ (x : Stands g.row.OFFSET_BITS (g.W.Work.knows s.work) (g.W.Frozen.records s.work) (entries_of g.row.OFFSET_BITS s.entries) s.unit). record s { stands = x })
    (stands-prop g.row.OFFSET_BITS _ _ _ _ st s.stands)) _
