use Rattle.std.proofs.Common.{◌≡◌, length, sym, ap, subst, ◌∙◌, arith}
use Rattle.entry_store.specs.Standing.{Stands, statuses}
use Rattle.entry_store.proofs.StandsProp.{stands-prop}
use Rattle.entry_ledger.specs.Ledgers.{entries_of}
use Rattle.store_api.specs.Statuses.{has_record}
use Rattle.entry_store.proofs.Reading.{read-words}
use Rattle.entry_store.proofs.entry_store.EntryStoreFrozen.read_from.Goals as goal

pub read_from-requires : goal.read_from-requires
read_from-requires g c =
    let s = c.args.self.now in
    let at = read-words (has_record (statuses (g.W.Work.knows s.work).commits (entries_of g.row.OFFSET_BITS s.entries) c.args.entry)) _ c.args.first (length c.args.into.now) c.requires.there in
    (omega arith, (at.0, (c.requires.few, c.requires.start)))

pub returns-clause-words : goal.returns-clause-words
returns-clause-words g c =
    let s = c.args.self.now in
    c.read_from.ensures.words ∙ (read-words (has_record (statuses (g.W.Work.knows s.work).commits (entries_of g.row.OFFSET_BITS s.entries) c.args.entry)) _ c.args.first (length c.args.into.now) c.requires.there).1

pub returns-clause-same : goal.returns-clause-same
returns-clause-same g c =
    let s = c.args.self.now in
    subst
    (λ (w : g.row.W.Denot).
    (st : Stands g.row.OFFSET_BITS (g.W.Work.knows w) (g.W.Frozen.records w) (entries_of g.row.OFFSET_BITS s.entries) s.unit) → record s { work = w; stands = st } ≡ s)
    (sym c.read_from.ensures.same)
    (λ st. ap (λ (x : Stands g.row.OFFSET_BITS (g.W.Work.knows s.work) (g.W.Frozen.records s.work) (entries_of g.row.OFFSET_BITS s.entries) s.unit). record s { stands = x })
    (stands-prop g.row.OFFSET_BITS _ _ _ _ st s.stands)) _
