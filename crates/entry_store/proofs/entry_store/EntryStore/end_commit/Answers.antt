use Rattle.std.proofs.Common.{false, sym, ap, subst, ◌∙◌, arith, refl}
use Rattle.entry_ref.specs.Records.{Records}
use Rattle.entry_ref.specs.References.{buffer_of}
use Rattle.store_api.specs.Ledgers.{is_this}
use Rattle.std.proofs.lemmas.Bool.{eq-eqb}
use Rattle.entry_ledger.specs.Ledgers.{entries_of}
use Rattle.entry_store.specs.Standing.{Stands, ledger_of}
use Rattle.entry_store.specs.Steps.{EndsCommit}
use Rattle.entry_store.specs.ProofsForStore.{store_sealed, store_finished}
use Rattle.entry_store.proofs.Ending.{tagged-1, rises-1, low-2, rises-2, stands-3, ends, records-3}
use Rattle.entry_store.proofs.entry_store.EntryStore.end_commit.Goals as goal

pub retire_finished-requires : goal.retire_finished-requires
retire_finished-requires g c =
    let s = c.args.self.now in (
      omega arith,
      (
        s.stands.good,
        (
          λ b is.
              let open_still = store_sealed g.row.OFFSET_BITS _ _ _ s.unit s.stands (g.W.Frozen.shape s.work) b (store_finished g.row.OFFSET_BITS _ _ _ s.unit s.stands b is) in
              record {
                below = open_still.below;
                active = open_still.active;
                uncommitted = λ r at. c.requires.apart r (ap (λ o. is_this o (buffer_of g.row.OFFSET_BITS r)) is ∙ eq-eqb b (buffer_of g.row.OFFSET_BITS r) (sym at));
                unstored = λ r i at. c.requires.unstored r i;
              },
          (s.stands.settled c.requires.unit, c.requires.tagged),
        ),
      ),
    )

pub follow-requires : goal.follow-requires
follow-requires g c =
    let s = c.args.self.now in
    let r = c.retire_finished.ensures in
    let st = subst (Stands g.row.OFFSET_BITS _ _ _) c.requires.unit s.stands in (
      omega arith,
      (
        r.good,
        (
          rises-1 g.row.OFFSET_BITS (g.W.Work.knows s.work) (g.W.Frozen.records s.work) (entries_of g.row.OFFSET_BITS s.entries) st c.requires.tagged (g.W.Work.knows c.retire_finished.new.work) r.knows
              (entries_of g.row.OFFSET_BITS c.retire_finished.new.entries) r.retired r.good c.advance-advance.result _ c.advance-advance.ensures.holds,
          tagged-1 g.row.OFFSET_BITS (g.W.Work.knows s.work) (g.W.Frozen.records s.work) (entries_of g.row.OFFSET_BITS s.entries) st c.requires.tagged (g.W.Work.knows c.retire_finished.new.work) r.knows
              (entries_of g.row.OFFSET_BITS c.retire_finished.new.entries) r.retired r.good,
        ),
      ),
    )

pub free_below-requires : goal.free_below-requires
free_below-requires g c =
    let s = c.args.self.now in
    let r = c.retire_finished.ensures in
    let a = c.advance-advance.ensures in
    let f = c.follow.ensures in
    let p = c.reclaim-left.ensures in
    let st = subst (Stands g.row.OFFSET_BITS _ _ _) c.requires.unit s.stands in (
      omega arith,
      (
        rises-2 g.row.OFFSET_BITS (g.W.Work.knows s.work) (g.W.Frozen.records s.work) (entries_of g.row.OFFSET_BITS s.entries) st c.requires.tagged (g.W.Work.knows c.retire_finished.new.work) r.knows
            (entries_of g.row.OFFSET_BITS c.retire_finished.new.entries) r.retired r.good
            c.advance-advance.result (g.W.Work.knows c.advance-advance.new.self) a.holds a.commits a.knows (entries_of g.row.OFFSET_BITS c.follow.new.entries) f.advanced f.good
            (g.W.Work.knows c.reclaim-left.new.self) c.reclaim-left.result p.holds p.commits p.knows (g.met.W.Work.queue c.retire_finished.new.work) (g.met.W.Work.queue c.advance-advance.new.self),
        low-2 g.row.OFFSET_BITS (g.W.Work.knows s.work) (g.W.Frozen.records s.work) (entries_of g.row.OFFSET_BITS s.entries) st c.requires.tagged (g.W.Work.knows c.retire_finished.new.work) r.knows
            (entries_of g.row.OFFSET_BITS c.retire_finished.new.entries) r.retired r.good
            c.advance-advance.result (g.W.Work.knows c.advance-advance.new.self) a.holds a.commits a.knows (entries_of g.row.OFFSET_BITS c.follow.new.entries) f.advanced f.good
            (g.W.Work.knows c.reclaim-left.new.self) c.reclaim-left.result p.holds p.commits p.knows (g.met.W.Work.queue c.retire_finished.new.work) (g.met.W.Work.queue c.advance-advance.new.self),
      ),
    )

pub invariant_of-self : goal.invariant_of-self
invariant_of-self g c =
    let s = c.args.self.now in
    let r = c.retire_finished.ensures in
    let a = c.advance-advance.ensures in
    let f = c.follow.ensures in
    let p = c.reclaim-left.ensures in
    let st = subst (Stands g.row.OFFSET_BITS _ _ _) c.requires.unit s.stands in
    record {
      stands = subst (Stands g.row.OFFSET_BITS _ _ _) (sym c.requires.unit)
          (subst (λ (x : Records). Stands g.row.OFFSET_BITS (g.W.Work.knows c.reclaim-left.new.self) x (entries_of g.row.OFFSET_BITS c.free_below.new.self) false) (sym (p.records ∙ a.records ∙ r.records))
          (stands-3 g.row.OFFSET_BITS (g.W.Work.knows s.work) (g.W.Frozen.records s.work) (entries_of g.row.OFFSET_BITS s.entries) st c.requires.tagged (g.W.Work.knows c.retire_finished.new.work) r.knows
          (entries_of g.row.OFFSET_BITS c.retire_finished.new.entries) r.retired r.good
          c.advance-advance.result (g.W.Work.knows c.advance-advance.new.self) a.holds a.commits a.knows (entries_of g.row.OFFSET_BITS c.follow.new.entries) f.advanced f.good
          (g.W.Work.knows c.reclaim-left.new.self) c.reclaim-left.result p.holds p.commits p.knows (g.met.W.Work.queue c.retire_finished.new.work) (g.met.W.Work.queue c.advance-advance.new.self)
          a.alone p.alone (entries_of g.row.OFFSET_BITS c.free_below.new.self) c.free_below.ensures.frees c.free_below.ensures.good (g.met.W.Work.order c.reclaim-left.new.self) c.requires.early));
    }

pub returns-clause-ends : goal.returns-clause-ends
returns-clause-ends g c =
    let s = c.args.self.now in
    let r = c.retire_finished.ensures in
    let a = c.advance-advance.ensures in
    let f = c.follow.ensures in
    let p = c.reclaim-left.ensures in
    let st = subst (Stands g.row.OFFSET_BITS _ _ _) c.requires.unit s.stands in
    subst
    (λ u. EndsCommit g.row.OFFSET_BITS (ledger_of g.row.OFFSET_BITS (g.W.Work.knows s.work) (g.W.Frozen.shape s.work) (g.W.Frozen.records s.work) (entries_of g.row.OFFSET_BITS s.entries) u)
    (ledger_of g.row.OFFSET_BITS (g.W.Work.knows c.reclaim-left.new.self) (g.W.Frozen.shape c.reclaim-left.new.self) (g.W.Frozen.records c.reclaim-left.new.self) (entries_of g.row.OFFSET_BITS c.free_below.new.self) u)
    (record { commit = c.args.commit; advance = c.advance-advance.result; oldest = c.reclaim-left.result }))
    (sym c.requires.unit)
    (ends g.row.OFFSET_BITS (g.W.Work.knows s.work) (g.W.Frozen.records s.work) (entries_of g.row.OFFSET_BITS s.entries) st c.requires.tagged (g.W.Work.knows c.retire_finished.new.work) r.knows
    (entries_of g.row.OFFSET_BITS c.retire_finished.new.entries) r.retired r.good
    c.advance-advance.result (g.W.Work.knows c.advance-advance.new.self) a.holds a.commits a.knows (entries_of g.row.OFFSET_BITS c.follow.new.entries) f.advanced f.good
    (g.W.Work.knows c.reclaim-left.new.self) c.reclaim-left.result p.holds p.commits p.knows (g.met.W.Work.queue c.retire_finished.new.work) (g.met.W.Work.queue c.advance-advance.new.self)
    a.alone p.alone (entries_of g.row.OFFSET_BITS c.free_below.new.self) c.free_below.ensures.frees c.free_below.ensures.good (g.met.W.Work.order c.reclaim-left.new.self) (g.W.Frozen.shape s.work)
    (g.W.Frozen.shape c.reclaim-left.new.self) c.args.commit (g.W.Frozen.records c.reclaim-left.new.self) (p.shape ∙ a.shape ∙ r.shape) (p.records ∙ a.records ∙ r.records))

pub returns-clause-records : goal.returns-clause-records
returns-clause-records g c =
    let s = c.args.self.now in
    let r = c.retire_finished.ensures in
    let a = c.advance-advance.ensures in
    let f = c.follow.ensures in
    let p = c.reclaim-left.ensures in
    let st = subst (Stands g.row.OFFSET_BITS _ _ _) c.requires.unit s.stands in
    records-3 g.row.OFFSET_BITS (g.W.Work.knows s.work) (g.W.Frozen.records s.work) (entries_of g.row.OFFSET_BITS s.entries) st c.requires.tagged (g.W.Work.knows c.retire_finished.new.work) r.knows
    (entries_of g.row.OFFSET_BITS c.retire_finished.new.entries) r.retired r.good
    c.advance-advance.result (g.W.Work.knows c.advance-advance.new.self) a.holds a.commits a.knows (entries_of g.row.OFFSET_BITS c.follow.new.entries) f.advanced f.good
    (g.W.Work.knows c.reclaim-left.new.self) c.reclaim-left.result p.holds p.commits p.knows (g.met.W.Work.queue c.retire_finished.new.work) (g.met.W.Work.queue c.advance-advance.new.self)
    a.alone p.alone (entries_of g.row.OFFSET_BITS c.free_below.new.self) c.free_below.ensures.frees c.free_below.ensures.good (g.met.W.Work.order c.reclaim-left.new.self) (g.W.Frozen.records c.reclaim-left.new.self)
    (p.records ∙ a.records ∙ r.records) c.requires.records c.requires.apart

pub returns-clause-number : goal.returns-clause-number
returns-clause-number g c = refl
