use Rattle.std.proofs.Common.{◌≡◌, arith, rules, refl, sym, ap, subst, ◌∙◌, inr}
use Rattle.store_api.proofs.May.{may_do-then}
use Rattle.store_api.specs.Calls.{GivesBack}
use Rattle.entry_ledger.specs.Ledgers.{entries_of}
use Rattle.entry_store.specs.Standing.{ledger_of, records_by_status, statuses}
use Rattle.entry_store.specs.ProofsForStore.{store_enough, store_spares}
use Rattle.entry_store.specs.Steps.{TellsOldest}
use Rattle.entry_store.proofs.Compose.{back-may, one-makes, one-may, again-makes, again-refuses, again-refused, again-after, again-left, takes-over}
use Rattle.entry_store.proofs.entry_store.EntryStore.make_again.Goals as goal

pub returns-in-Some-clause-makes : goal.returns-in-Some-clause-makes
returns-in-Some-clause-makes g c =
    one-makes g.row.OFFSET_BITS _ _ _ _ _ c.args.width c.args.words.now c.in-Some.entry (inr c.reclaim-oldest.ensures.gives) (inr c.requires.spare)
    (takes-over c.reclaim-oldest.ensures.records c.in-Some.ensures.takes)

pub returns-in-Some-clause-may : goal.returns-in-Some-clause-may
returns-in-Some-clause-may g c =
    may_do-then _ _ _ (back-may _ _ (g.met.W.Work.queue c.args.self.now.work) c.reclaim-oldest.ensures.gives)
    (one-may g.row.OFFSET_BITS _ _ _ _ c.args.width c.args.words.now c.in-Some.entry c.in-Some.ensures.takes (c.reclaim-oldest.new.self.stands.good.few_made c.args.width) refl)

pub returns-in-None-clause-makes : goal.returns-in-None-clause-makes
returns-in-None-clause-makes g c =
    let s = c.args.self.now in
    let t = c.make_spare.new.self in
    let v = c.make_opened.new.self in
    again-makes g.row.OFFSET_BITS (ledger_of g.row.OFFSET_BITS (g.W.Work.knows s.work) (g.W.Frozen.shape s.work) (g.W.Frozen.records s.work) (entries_of g.row.OFFSET_BITS s.entries) s.unit)
    (ledger_of g.row.OFFSET_BITS (g.W.Work.knows t.work) (g.W.Frozen.shape t.work) (g.W.Frozen.records t.work) (entries_of g.row.OFFSET_BITS t.entries) t.unit)
    (ledger_of g.row.OFFSET_BITS (g.W.Work.knows v.work) (g.W.Frozen.shape v.work) (g.W.Frozen.records v.work) (entries_of g.row.OFFSET_BITS v.entries) v.unit)
    (records_by_status (statuses (g.W.Work.knows s.work).commits (entries_of g.row.OFFSET_BITS s.entries)) (g.W.Frozen.records s.work))
    (records_by_status (statuses (g.W.Work.knows t.work).commits (entries_of g.row.OFFSET_BITS t.entries)) (g.W.Frozen.records t.work))
    (records_by_status (statuses (g.W.Work.knows v.work).commits (entries_of g.row.OFFSET_BITS v.entries)) (g.W.Frozen.records v.work)) c.args.width c.args.words.now
    (subst (λ x. GivesBack (ledger_of g.row.OFFSET_BITS (g.W.Work.knows s.work) (g.W.Frozen.shape s.work) (g.W.Frozen.records s.work) (entries_of g.row.OFFSET_BITS s.entries) s.unit)
    (ledger_of g.row.OFFSET_BITS (g.W.Work.knows x.work) (g.W.Frozen.shape x.work) (g.W.Frozen.records x.work) (entries_of g.row.OFFSET_BITS x.entries) x.unit))
    (sym c.in-None.ensures.left) c.reclaim-oldest.ensures.gives)
    (subst (λ x. ((ledger_of g.row.OFFSET_BITS (g.W.Work.knows x.work) (g.W.Frozen.shape x.work) (g.W.Frozen.records x.work) (entries_of g.row.OFFSET_BITS x.entries) x.unit).of_width c.args.width).spare ≡ 0)
    (sym c.in-None.ensures.left) c.in-None.ensures.none)
    (store_spares g.row.OFFSET_BITS _ _ _ t.unit t.stands (g.W.Frozen.shape t.work) c.args.width)
    (ap (λ x. (records_by_status (statuses (g.W.Work.knows x.work).commits (entries_of g.row.OFFSET_BITS x.entries)) (g.W.Frozen.records x.work))) c.in-None.ensures.left ∙ c.reclaim-oldest.ensures.records)
    c.make_opened.result c.make_opened.ensures.makes

pub returns-in-None-clause-refused : goal.returns-in-None-clause-refused
returns-in-None-clause-refused g c =
    let s = c.args.self.now in
    let t = c.make_spare.new.self in
    let v = c.make_opened.new.self in
    again-refused g.row.OFFSET_BITS (ledger_of g.row.OFFSET_BITS (g.W.Work.knows s.work) (g.W.Frozen.shape s.work) (g.W.Frozen.records s.work) (entries_of g.row.OFFSET_BITS s.entries) s.unit)
    (ledger_of g.row.OFFSET_BITS (g.W.Work.knows t.work) (g.W.Frozen.shape t.work) (g.W.Frozen.records t.work) (entries_of g.row.OFFSET_BITS t.entries) t.unit)
    (ledger_of g.row.OFFSET_BITS (g.W.Work.knows v.work) (g.W.Frozen.shape v.work) (g.W.Frozen.records v.work) (entries_of g.row.OFFSET_BITS v.entries) v.unit)
    (records_by_status (statuses (g.W.Work.knows s.work).commits (entries_of g.row.OFFSET_BITS s.entries)) (g.W.Frozen.records s.work))
    (records_by_status (statuses (g.W.Work.knows t.work).commits (entries_of g.row.OFFSET_BITS t.entries)) (g.W.Frozen.records t.work))
    (records_by_status (statuses (g.W.Work.knows v.work).commits (entries_of g.row.OFFSET_BITS v.entries)) (g.W.Frozen.records v.work)) c.args.width c.args.words.now
    (subst (λ x. GivesBack (ledger_of g.row.OFFSET_BITS (g.W.Work.knows s.work) (g.W.Frozen.shape s.work) (g.W.Frozen.records s.work) (entries_of g.row.OFFSET_BITS s.entries) s.unit)
    (ledger_of g.row.OFFSET_BITS (g.W.Work.knows x.work) (g.W.Frozen.shape x.work) (g.W.Frozen.records x.work) (entries_of g.row.OFFSET_BITS x.entries) x.unit))
    (sym c.in-None.ensures.left) c.reclaim-oldest.ensures.gives)
    (subst (λ x. ((ledger_of g.row.OFFSET_BITS (g.W.Work.knows x.work) (g.W.Frozen.shape x.work) (g.W.Frozen.records x.work) (entries_of g.row.OFFSET_BITS x.entries) x.unit).of_width c.args.width).spare ≡ 0)
    (sym c.in-None.ensures.left) c.in-None.ensures.none)
    (store_spares g.row.OFFSET_BITS _ _ _ t.unit t.stands (g.W.Frozen.shape t.work) c.args.width)
    (ap (λ x. (records_by_status (statuses (g.W.Work.knows x.work).commits (entries_of g.row.OFFSET_BITS x.entries)) (g.W.Frozen.records x.work))) c.in-None.ensures.left ∙ c.reclaim-oldest.ensures.records)
    c.make_opened.result c.make_opened.ensures.refused

pub returns-in-None-clause-after : goal.returns-in-None-clause-after
returns-in-None-clause-after g c =
    let s = c.args.self.now in
    let t = c.make_spare.new.self in
    let v = c.make_opened.new.self in
    again-after g.row.OFFSET_BITS (ledger_of g.row.OFFSET_BITS (g.W.Work.knows s.work) (g.W.Frozen.shape s.work) (g.W.Frozen.records s.work) (entries_of g.row.OFFSET_BITS s.entries) s.unit)
    (ledger_of g.row.OFFSET_BITS (g.W.Work.knows t.work) (g.W.Frozen.shape t.work) (g.W.Frozen.records t.work) (entries_of g.row.OFFSET_BITS t.entries) t.unit)
    (ledger_of g.row.OFFSET_BITS (g.W.Work.knows v.work) (g.W.Frozen.shape v.work) (g.W.Frozen.records v.work) (entries_of g.row.OFFSET_BITS v.entries) v.unit)
    (records_by_status (statuses (g.W.Work.knows s.work).commits (entries_of g.row.OFFSET_BITS s.entries)) (g.W.Frozen.records s.work))
    (records_by_status (statuses (g.W.Work.knows t.work).commits (entries_of g.row.OFFSET_BITS t.entries)) (g.W.Frozen.records t.work))
    (records_by_status (statuses (g.W.Work.knows v.work).commits (entries_of g.row.OFFSET_BITS v.entries)) (g.W.Frozen.records v.work)) c.args.width c.args.words.now
    (subst (λ x. GivesBack (ledger_of g.row.OFFSET_BITS (g.W.Work.knows s.work) (g.W.Frozen.shape s.work) (g.W.Frozen.records s.work) (entries_of g.row.OFFSET_BITS s.entries) s.unit)
    (ledger_of g.row.OFFSET_BITS (g.W.Work.knows x.work) (g.W.Frozen.shape x.work) (g.W.Frozen.records x.work) (entries_of g.row.OFFSET_BITS x.entries) x.unit))
    (sym c.in-None.ensures.left) c.reclaim-oldest.ensures.gives)
    (subst (λ x. ((ledger_of g.row.OFFSET_BITS (g.W.Work.knows x.work) (g.W.Frozen.shape x.work) (g.W.Frozen.records x.work) (entries_of g.row.OFFSET_BITS x.entries) x.unit).of_width c.args.width).spare ≡ 0)
    (sym c.in-None.ensures.left) c.in-None.ensures.none)
    (store_spares g.row.OFFSET_BITS _ _ _ t.unit t.stands (g.W.Frozen.shape t.work) c.args.width)
    (ap (λ x. (records_by_status (statuses (g.W.Work.knows x.work).commits (entries_of g.row.OFFSET_BITS x.entries)) (g.W.Frozen.records x.work))) c.in-None.ensures.left ∙ c.reclaim-oldest.ensures.records)
    c.make_opened.result c.make_opened.ensures.refused

pub returns-in-None-clause-left : goal.returns-in-None-clause-left
returns-in-None-clause-left g c =
    let s = c.args.self.now in
    let t = c.make_spare.new.self in
    let v = c.make_opened.new.self in
    again-left g.row.OFFSET_BITS (ledger_of g.row.OFFSET_BITS (g.W.Work.knows s.work) (g.W.Frozen.shape s.work) (g.W.Frozen.records s.work) (entries_of g.row.OFFSET_BITS s.entries) s.unit)
    (ledger_of g.row.OFFSET_BITS (g.W.Work.knows t.work) (g.W.Frozen.shape t.work) (g.W.Frozen.records t.work) (entries_of g.row.OFFSET_BITS t.entries) t.unit)
    (ledger_of g.row.OFFSET_BITS (g.W.Work.knows v.work) (g.W.Frozen.shape v.work) (g.W.Frozen.records v.work) (entries_of g.row.OFFSET_BITS v.entries) v.unit)
    (records_by_status (statuses (g.W.Work.knows s.work).commits (entries_of g.row.OFFSET_BITS s.entries)) (g.W.Frozen.records s.work))
    (records_by_status (statuses (g.W.Work.knows t.work).commits (entries_of g.row.OFFSET_BITS t.entries)) (g.W.Frozen.records t.work))
    (records_by_status (statuses (g.W.Work.knows v.work).commits (entries_of g.row.OFFSET_BITS v.entries)) (g.W.Frozen.records v.work)) c.args.width c.args.words.now
    (subst (λ x. GivesBack (ledger_of g.row.OFFSET_BITS (g.W.Work.knows s.work) (g.W.Frozen.shape s.work) (g.W.Frozen.records s.work) (entries_of g.row.OFFSET_BITS s.entries) s.unit)
    (ledger_of g.row.OFFSET_BITS (g.W.Work.knows x.work) (g.W.Frozen.shape x.work) (g.W.Frozen.records x.work) (entries_of g.row.OFFSET_BITS x.entries) x.unit))
    (sym c.in-None.ensures.left) c.reclaim-oldest.ensures.gives)
    (subst (λ x. ((ledger_of g.row.OFFSET_BITS (g.W.Work.knows x.work) (g.W.Frozen.shape x.work) (g.W.Frozen.records x.work) (entries_of g.row.OFFSET_BITS x.entries) x.unit).of_width c.args.width).spare ≡ 0)
    (sym c.in-None.ensures.left) c.in-None.ensures.none)
    (store_spares g.row.OFFSET_BITS _ _ _ t.unit t.stands (g.W.Frozen.shape t.work) c.args.width)
    (ap (λ x. (records_by_status (statuses (g.W.Work.knows x.work).commits (entries_of g.row.OFFSET_BITS x.entries)) (g.W.Frozen.records x.work))) c.in-None.ensures.left ∙ c.reclaim-oldest.ensures.records)
    c.make_opened.result c.make_opened.ensures.left

pub returns-in-None-clause-refuses : goal.returns-in-None-clause-refuses
returns-in-None-clause-refuses g c =
    let s = c.args.self.now in
    let t = c.make_spare.new.self in
    let v = c.make_opened.new.self in
    again-refuses g.row.OFFSET_BITS (ledger_of g.row.OFFSET_BITS (g.W.Work.knows s.work) (g.W.Frozen.shape s.work) (g.W.Frozen.records s.work) (entries_of g.row.OFFSET_BITS s.entries) s.unit)
    (ledger_of g.row.OFFSET_BITS (g.W.Work.knows t.work) (g.W.Frozen.shape t.work) (g.W.Frozen.records t.work) (entries_of g.row.OFFSET_BITS t.entries) t.unit)
    (ledger_of g.row.OFFSET_BITS (g.W.Work.knows v.work) (g.W.Frozen.shape v.work) (g.W.Frozen.records v.work) (entries_of g.row.OFFSET_BITS v.entries) v.unit)
    (records_by_status (statuses (g.W.Work.knows s.work).commits (entries_of g.row.OFFSET_BITS s.entries)) (g.W.Frozen.records s.work))
    (records_by_status (statuses (g.W.Work.knows t.work).commits (entries_of g.row.OFFSET_BITS t.entries)) (g.W.Frozen.records t.work))
    (records_by_status (statuses (g.W.Work.knows v.work).commits (entries_of g.row.OFFSET_BITS v.entries)) (g.W.Frozen.records v.work)) c.args.width c.args.words.now
    (subst (λ x. GivesBack (ledger_of g.row.OFFSET_BITS (g.W.Work.knows s.work) (g.W.Frozen.shape s.work) (g.W.Frozen.records s.work) (entries_of g.row.OFFSET_BITS s.entries) s.unit)
    (ledger_of g.row.OFFSET_BITS (g.W.Work.knows x.work) (g.W.Frozen.shape x.work) (g.W.Frozen.records x.work) (entries_of g.row.OFFSET_BITS x.entries) x.unit))
    (sym c.in-None.ensures.left) c.reclaim-oldest.ensures.gives)
    (subst (λ x. ((ledger_of g.row.OFFSET_BITS (g.W.Work.knows x.work) (g.W.Frozen.shape x.work) (g.W.Frozen.records x.work) (entries_of g.row.OFFSET_BITS x.entries) x.unit).of_width c.args.width).spare ≡ 0)
    (sym c.in-None.ensures.left) c.in-None.ensures.none)
    (store_spares g.row.OFFSET_BITS _ _ _ t.unit t.stands (g.W.Frozen.shape t.work) c.args.width)
    (ap (λ x. (records_by_status (statuses (g.W.Work.knows x.work).commits (entries_of g.row.OFFSET_BITS x.entries)) (g.W.Frozen.records x.work))) c.in-None.ensures.left ∙ c.reclaim-oldest.ensures.records)
    c.reclaim-oldest.result (subst (λ x. TellsOldest (g.W.Work.knows s.work) (g.W.Work.knows x.work) c.reclaim-oldest.result) (sym c.in-None.ensures.left) c.reclaim-oldest.ensures.tells) t.stands.unread
    (store_enough g.row.OFFSET_BITS _ _ _ t.unit t.stands c.args.width c.requires.width)
    c.make_opened.result c.make_opened.ensures.refused c.make_opened.ensures.full

pub returns-in-None-clause-may : goal.returns-in-None-clause-may
returns-in-None-clause-may g c =
    let s = c.args.self.now in
    may_do-then _ _ _ (back-may _ _ (g.met.W.Work.queue s.work) (subst (λ x. GivesBack (ledger_of g.row.OFFSET_BITS (g.W.Work.knows s.work) (g.W.Frozen.shape s.work) (g.W.Frozen.records s.work) (entries_of g.row.OFFSET_BITS s.entries) s.unit)
    (ledger_of g.row.OFFSET_BITS (g.W.Work.knows x.work) (g.W.Frozen.shape x.work) (g.W.Frozen.records x.work) (entries_of g.row.OFFSET_BITS x.entries) x.unit))
    (sym c.in-None.ensures.left) c.reclaim-oldest.ensures.gives)) c.make_opened.ensures.may

pub make_opened-requires : goal.make_opened-requires
make_opened-requires g c = (
  omega arith,
  (
    omega arith,
    (
      search rules,
      (
        c.requires.width,
        (
          c.requires.fits,
          subst (λ x. ((ledger_of g.row.OFFSET_BITS (g.W.Work.knows x.work) (g.W.Frozen.shape x.work) (g.W.Frozen.records x.work) (entries_of g.row.OFFSET_BITS x.entries) x.unit).of_width c.args.width).spare ≡ 0)
              (sym c.in-None.ensures.left) c.in-None.ensures.none,
        ),
      ),
    ),
  ),
)
