use Rattle.std.proofs.Common.{◌≡◌, true, Some, sym, ap, subst}
use Rattle.buffer_states.specs.Buffers.{buffer_at}
use Rattle.entry_ledger.specs.Ledgers.{LedgerView, entries_of, mark_of}
use Rattle.entry_ledger.proofs.Good.{good}
use Rattle.entry_ledger.proofs.Plain.{finish-kept}
use Rattle.entry_ledger.proofs.ledger.EntryLedger.finish.Goals as goal

pub invariant_of-self : goal.invariant_of-self
unfolding entries_of
invariant_of-self g c =
    let s = c.self.inside in
    let v : LedgerView = record { shelves = s.shelves; buffers = s.buffers; last = s.last; generation = s.generation; oldest = s.oldest; finished = s.finished } in
    finish-kept g.row.OFFSET_BITS v s.held.held s.held.room s.unheld c.self.invariant c.args.buffer
    (subst (λ (u : LedgerView). (mark_of (buffer_at u.buffers c.args.buffer)).sealed ≡ true) (sym c.self.view_is) c.requires.sealed)

pub returns-clause-finished : goal.returns-clause-finished
unfolding entries_of
returns-clause-finished g c = ap (λ (u : LedgerView). record (entries_of g.row.OFFSET_BITS u) { finished = Some c.args.buffer }) c.self.view_is

pub returns-clause-good : goal.returns-clause-good
unfolding entries_of
returns-clause-good g c =
    let s = c.self.inside in
    let v : LedgerView = record { shelves = s.shelves; buffers = s.buffers; last = s.last; generation = s.generation; oldest = s.oldest; finished = s.finished } in
    good g.row.OFFSET_BITS (record v { finished = Some c.args.buffer }) s.held.held s.held.room s.unheld
    (finish-kept g.row.OFFSET_BITS v s.held.held s.held.room s.unheld c.self.invariant c.args.buffer
    (subst (λ (u : LedgerView). (mark_of (buffer_at u.buffers c.args.buffer)).sealed ≡ true) (sym c.self.view_is) c.requires.sealed))
