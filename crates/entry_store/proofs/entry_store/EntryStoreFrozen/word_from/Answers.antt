use Rattle.std.proofs.Common.{◌<◌, ◌≡◌, ℕ, List, length, slice_index, sym, ap, subst, ◌∙◌, arith}
use Rattle.entry_store.specs.Standing.{Stands, statuses}
use Rattle.entry_store.proofs.StandsProp.{stands-prop}
use Rattle.entry_ledger.specs.Ledgers.{entries_of}
use Rattle.store_api.specs.Statuses.{has_record}
use Rattle.entry_store.proofs.Reading.{there-words}
use Rattle.entry_store.proofs.entry_store.EntryStoreFrozen.word_from.Goals as goal

pub word_from-requires : goal.word_from-requires
word_from-requires g c =
    let s = c.args.self.now in
    let at = there-words (has_record (statuses (g.W.Work.knows s.work).commits (entries_of g.row.OFFSET_BITS s.entries) c.args.entry)) _ c.args.i c.requires.there in
    (omega arith, (subst (λ (ws : List ℕ). c.args.i < length ws) (sym at) c.requires.there, c.requires.start))

pub returns-clause-value : goal.returns-clause-value
returns-clause-value g c =
    let s = c.args.self.now in
    c.word_from.ensures.value ∙ ap (λ (ws : List ℕ). slice_index ws c.args.i)
    (there-words (has_record (statuses (g.W.Work.knows s.work).commits (entries_of g.row.OFFSET_BITS s.entries) c.args.entry)) _ c.args.i c.requires.there)

pub returns-clause-same : goal.returns-clause-same
returns-clause-same g c =
    let s = c.args.self.now in
    subst
    (λ (w : g.row.W.Denot).
    (st : Stands g.row.OFFSET_BITS (g.W.Work.knows w) (g.W.Frozen.records w) (entries_of g.row.OFFSET_BITS s.entries) s.unit) → record s { work = w; stands = st } ≡ s)
    (sym c.word_from.ensures.same)
    (λ st. ap (λ (x : Stands g.row.OFFSET_BITS (g.W.Work.knows s.work) (g.W.Frozen.records s.work) (entries_of g.row.OFFSET_BITS s.entries) s.unit). record s { stands = x })
    (stands-prop g.row.OFFSET_BITS _ _ _ _ st s.stands)) _
