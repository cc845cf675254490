use Rattle.std.proofs.Common.{sym, ap, subst, ◌∙◌, arith}
use Rattle.entry_ref.specs.Records.{Records}
use Rattle.store_api.specs.Calls.{GivesBack}
use Rattle.entry_ledger.specs.Ledgers.{entries_of}
use Rattle.entry_store.specs.Standing.{Stands, ledger_of, records_by_status, statuses}
use Rattle.entry_store.proofs.Stands.{stands-reclaimed, unread-reclaimed, over-from}
use Rattle.entry_store.proofs.LedgerSteps.{gives-back, records-freed, tells-oldest}
use Rattle.entry_store.proofs.Along.{along, reclaim-rises, reclaim-low, reclaimed-low}
use Rattle.entry_store.proofs.entry_store.EntryStore.reclaim.Goals as goal

pub free_below-requires : goal.free_below-requires
free_below-requires g c =
    let s = c.args.self.now in
    let rises = reclaim-rises (g.W.Work.knows s.work) (g.W.Work.knows c.reclaim-oldest.new.self) c.reclaim-oldest.result (g.met.W.Work.queue s.work) c.reclaim-oldest.ensures.holds in
    let low = reclaim-low (g.W.Work.knows s.work) (g.W.Work.knows c.reclaim-oldest.new.self) c.reclaim-oldest.result (g.met.W.Work.queue s.work) c.reclaim-oldest.ensures.holds in
    let oldest = s.stands.oldest in
    let generation = s.stands.generation in
    (omega arith, (omega arith, omega arith))

pub invariant_of-self : goal.invariant_of-self
invariant_of-self g c =
    let s = c.args.self.now in
    let p = c.reclaim-oldest.ensures in
    let v = g.W.Work.knows c.reclaim-oldest.new.self in
    record {
      stands = subst (λ (x : Records). Stands g.row.OFFSET_BITS v x (entries_of g.row.OFFSET_BITS c.free_below.new.self) s.unit) (sym p.records)
          (stands-reclaimed g.row.OFFSET_BITS _ _ _ s.unit (over-from _ _ _ _ _ s.stands) v
          (entries_of g.row.OFFSET_BITS c.free_below.new.self) c.reclaim-oldest.result p.holds p.commits p.knows c.free_below.ensures.frees
          (g.met.W.Work.order c.reclaim-oldest.new.self) (reclaimed-low g.row.OFFSET_BITS _ _ _ s.unit (over-from _ _ _ _ _ s.stands) _ c.reclaim-oldest.result (g.met.W.Work.queue s.work) p.holds)
          c.free_below.ensures.good s.stands.timely
          (unread-reclaimed g.row.OFFSET_BITS _ _ _ _ s.stands v c.reclaim-oldest.result p.holds p.knows));
    }

pub returns-clause-tells : goal.returns-clause-tells
returns-clause-tells g c =
    let s = c.args.self.now in
    let p = c.reclaim-oldest.ensures in
    tells-oldest g.row.OFFSET_BITS _ (g.W.Frozen.shape s.work) _ _ s.unit (over-from _ _ _ _ _ s.stands) (g.W.Work.knows c.reclaim-oldest.new.self)
    (entries_of g.row.OFFSET_BITS c.free_below.new.self) c.reclaim-oldest.result p.holds p.commits p.knows p.alone c.free_below.ensures.frees
    (g.met.W.Work.order c.reclaim-oldest.new.self) (reclaimed-low g.row.OFFSET_BITS _ _ _ s.unit (over-from _ _ _ _ _ s.stands) _ c.reclaim-oldest.result (g.met.W.Work.queue s.work) p.holds)

pub returns-clause-gives : goal.returns-clause-gives
returns-clause-gives g c =
    let s = c.args.self.now in
    let p = c.reclaim-oldest.ensures in
    along
    (λ i x. GivesBack (ledger_of g.row.OFFSET_BITS (g.W.Work.knows s.work) (g.W.Frozen.shape s.work) (g.W.Frozen.records s.work) (entries_of g.row.OFFSET_BITS s.entries) s.unit)
    (ledger_of g.row.OFFSET_BITS (g.W.Work.knows c.reclaim-oldest.new.self) i x (entries_of g.row.OFFSET_BITS c.free_below.new.self) s.unit)) p.shape p.records
    (gives-back g.row.OFFSET_BITS _ (g.W.Frozen.shape s.work) _ _ s.unit (over-from _ _ _ _ _ s.stands) (g.W.Work.knows c.reclaim-oldest.new.self)
    (entries_of g.row.OFFSET_BITS c.free_below.new.self) c.reclaim-oldest.result p.holds p.commits p.knows p.alone c.free_below.ensures.frees
    (g.met.W.Work.order c.reclaim-oldest.new.self) (reclaimed-low g.row.OFFSET_BITS _ _ _ s.unit (over-from _ _ _ _ _ s.stands) _ c.reclaim-oldest.result (g.met.W.Work.queue s.work) p.holds))

pub returns-clause-records : goal.returns-clause-records
returns-clause-records g c =
    let s = c.args.self.now in
    let p = c.reclaim-oldest.ensures in
    ap (λ (x : Records). records_by_status (statuses (g.W.Work.knows c.reclaim-oldest.new.self).commits (entries_of g.row.OFFSET_BITS c.free_below.new.self)) x) p.records
    ∙ records-freed g.row.OFFSET_BITS _ (g.W.Frozen.shape s.work) _ _ s.unit (over-from _ _ _ _ _ s.stands) (g.W.Work.knows c.reclaim-oldest.new.self)
    (entries_of g.row.OFFSET_BITS c.free_below.new.self) c.reclaim-oldest.result p.holds p.commits p.knows p.alone c.free_below.ensures.frees
    (g.met.W.Work.order c.reclaim-oldest.new.self) (reclaimed-low g.row.OFFSET_BITS _ _ _ s.unit (over-from _ _ _ _ _ s.stands) _ c.reclaim-oldest.result (g.met.W.Work.queue s.work) p.holds)
