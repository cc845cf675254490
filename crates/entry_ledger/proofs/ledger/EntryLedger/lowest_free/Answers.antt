use Rattle.std.proofs.Common.{◌≡◌, ◌<◌, ℕ, false, subst}
use Rattle.std.specs.Option.{IfNone, IfSome}
use Rattle.buffer_states.specs.Buffers.{is_state_free}
use Rattle.entry_ledger.specs.Calls.{IsLowestFree}
use Rattle.entry_ledger.specs.Ledgers.{LedgerView, entries_of}
use Rattle.entry_ledger.proofs.Marks.{if-none, if-some, buffers-few, lowest-none, lowest-is}
use Rattle.entry_ledger.proofs.ledger.EntryLedger.lowest_free.Goals as goal

pub lowest_free-requires : goal.lowest_free-requires
lowest_free-requires g c =
    let s = c.self.inside in
    let v : LedgerView = record { shelves = s.shelves; buffers = s.buffers; last = s.last; generation = s.generation; oldest = s.oldest; finished = s.finished } in
    buffers-few g.row.OFFSET_BITS v s.held.held s.held.room s.unheld c.self.invariant

pub returns-clause-none : goal.returns-clause-none
returns-clause-none g c =
    let s = c.self.inside in
    let v : LedgerView = record { shelves = s.shelves; buffers = s.buffers; last = s.last; generation = s.generation; oldest = s.oldest; finished = s.finished } in
    subst (λ (u : LedgerView). IfNone c.lowest_free.result ((b : ℕ) → b < (entries_of g.row.OFFSET_BITS u).count → is_state_free ((entries_of g.row.OFFSET_BITS u).mark b).state ≡ false)) c.self.view_is
    (if-none c.lowest_free.result (lowest-none g.row.OFFSET_BITS v s.held.held s.held.room s.unheld c.self.invariant) c.lowest_free.ensures.none)

pub returns-clause-lowest : goal.returns-clause-lowest
returns-clause-lowest g c =
    let s = c.self.inside in
    let v : LedgerView = record { shelves = s.shelves; buffers = s.buffers; last = s.last; generation = s.generation; oldest = s.oldest; finished = s.finished } in
    subst (λ (u : LedgerView). IfSome c.lowest_free.result (IsLowestFree (entries_of g.row.OFFSET_BITS u))) c.self.view_is
    (if-some c.lowest_free.result (lowest-is g.row.OFFSET_BITS v s.held.held s.held.room s.unheld c.self.invariant) c.lowest_free.ensures.lowest)
