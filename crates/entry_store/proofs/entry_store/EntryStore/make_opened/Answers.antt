use Rattle.std.proofs.Common.{arith, refl}
use Rattle.store_api.proofs.May.{may_do-then}
use Rattle.entry_ledger.specs.Ledgers.{entries_of}
use Rattle.entry_store.specs.Standing.{ledger_of}
use Rattle.entry_store.proofs.Compose.{one-may, opens-may, opened-spare, takes-over, may-same}
use Rattle.entry_store.proofs.entry_store.EntryStore.make_opened.Goals as goal

pub returns-in-Some-clause-makes : goal.returns-in-Some-clause-makes
returns-in-Some-clause-makes g c =
    let t = c.open_buffer.new.self in
    record {
      opened = ledger_of g.row.OFFSET_BITS (g.W.Work.knows t.work) (g.W.Frozen.shape t.work) (g.W.Frozen.records t.work) (entries_of g.row.OFFSET_BITS t.entries) t.unit;
      opens = c.in-Ok.ensures.opens;
      takes = takes-over c.open_buffer.ensures.records c.in-Some.ensures.takes;
    }

pub returns-in-Some-clause-may : goal.returns-in-Some-clause-may
returns-in-Some-clause-may g c =
    may_do-then _ _ _ (opens-may _ _ c.args.width c.in-Ok.ensures.opens)
    (one-may g.row.OFFSET_BITS _ _ _ _ c.args.width c.args.words.now c.in-Some.entry c.in-Some.ensures.takes (c.open_buffer.new.self.stands.good.few_made c.args.width) refl)

pub unreachable-requires : goal.unreachable-requires
unreachable-requires g c =
    let limits = g.met.W.Work.limits c.args.self.now.work in
    let some = opened-spare _ _ c.args.width c.in-Ok.ensures.opens limits.some_words c.requires.width in
    let none = c.in-None.ensures.none in
    absurd (omega arith)

pub returns-in-Err-clause-may : goal.returns-in-Err-clause-may
returns-in-Err-clause-may g c = may-same c.in-Err.ensures.left
