use Rattle.std.proofs.Common.{◌≡◌, arith, sym, ap, subst}
use Rattle.entry_ledger.specs.Ledgers.{entries_of}
use Rattle.entry_store.specs.Standing.{Stands}
use Rattle.entry_store.proofs.StandsProp.{stands-prop}
use Rattle.entry_store.proofs.Along.{takes-put, stands-put, put-may, some-not}
use Rattle.entry_store.proofs.entry_store.EntryStore.make_spare.Goals as goal

pub invariant_of-self : goal.invariant_of-self
invariant_of-self g c =
    let s = c.args.self.now in
    let e = c.in-Some.ensures in
    record {
      stands = stands-put g.row.OFFSET_BITS _ (g.W.Frozen.shape s.work) _ _ s.unit s.stands c.args.width c.in-Some.entry c.args.words.now e.«open» _ _ _ _ c.put.ensures.knows c.put.ensures.shape
          c.put.ensures.records e.made c.requires.fits c.requires.unit c.take.ensures.good;
    }

pub returns-in-Some-clause-some : goal.returns-in-Some-clause-some
returns-in-Some-clause-some g c = some-not c.in-Some.entry _ c.in-Some.ensures.none

pub returns-in-Some-clause-takes : goal.returns-in-Some-clause-takes
returns-in-Some-clause-takes g c =
    let s = c.args.self.now in
    let e = c.in-Some.ensures in
    takes-put g.row.OFFSET_BITS _ (g.W.Frozen.shape s.work) _ _ s.unit s.stands c.args.width c.in-Some.entry c.args.words.now e.«open» _ _ _ _ c.put.ensures.knows c.put.ensures.shape c.put.ensures.records e.made
    (some-not c.in-Some.entry _ e.none)

pub put-requires : goal.put-requires
put-requires g c =
    let s = c.args.self.now in
    let e = c.in-Some.ensures in
    let may = put-may g.row.OFFSET_BITS _ _ _ s.unit s.stands c.args.width c.in-Some.entry e.«open» in
    (omega arith, (may.0, (may.1, (c.requires.fits, may.2))))

pub returns-in-None-clause-left : goal.returns-in-None-clause-left
returns-in-None-clause-left g c =
    let s = c.args.self.now in
    subst
    (λ l. (st : Stands g.row.OFFSET_BITS (g.W.Work.knows s.work) (g.W.Frozen.records s.work) (entries_of g.row.OFFSET_BITS l) s.unit) → record s { entries = l; stands = st } ≡ s)
    (sym c.in-None.ensures.left)
    (λ st. ap (λ (x : Stands g.row.OFFSET_BITS (g.W.Work.knows s.work) (g.W.Frozen.records s.work) (entries_of g.row.OFFSET_BITS s.entries) s.unit). record s { stands = x })
    (stands-prop g.row.OFFSET_BITS _ _ _ _ st s.stands)) _
