use Rattle.std.proofs.Common.{ℕ, subst}
use Rattle.std.specs.Option.{IfNone, IfSome}
use Rattle.entry_ledger.specs.Calls.{IsCandidate, IsVictim}
use Rattle.entry_ledger.specs.Ledgers.{LedgerView, entries_of}
use Rattle.entry_ledger.proofs.Marks.{if-none, if-some, buffers-few}
use Rattle.entry_ledger.proofs.Victims.{victim-none, victim-is}
use Rattle.entry_ledger.proofs.ledger.EntryLedger.choose_victim.Goals as goal

pub choose_victim-requires : goal.choose_victim-requires
choose_victim-requires g c =
    let s = c.self.inside in
    let v : LedgerView = record { shelves = s.shelves; buffers = s.buffers; last = s.last; generation = s.generation; oldest = s.oldest; finished = s.finished } in
    buffers-few g.row.OFFSET_BITS v s.held.held s.held.room s.unheld c.self.invariant

pub returns-clause-none : goal.returns-clause-none
returns-clause-none g c =
    let s = c.self.inside in
    let v : LedgerView = record { shelves = s.shelves; buffers = s.buffers; last = s.last; generation = s.generation; oldest = s.oldest; finished = s.finished } in
    subst (λ (u : LedgerView). IfNone c.choose_victim.result ((b : ℕ) → IsCandidate g.row.OFFSET_BITS (entries_of g.row.OFFSET_BITS u) b → ⊥)) c.self.view_is
    (if-none c.choose_victim.result (victim-none g.row.OFFSET_BITS v s.held.held s.held.room s.unheld c.self.invariant) c.choose_victim.ensures.none)

pub returns-clause-victim : goal.returns-clause-victim
returns-clause-victim g c =
    let s = c.self.inside in
    let v : LedgerView = record { shelves = s.shelves; buffers = s.buffers; last = s.last; generation = s.generation; oldest = s.oldest; finished = s.finished } in
    subst (λ (u : LedgerView). IfSome c.choose_victim.result (IsVictim g.row.OFFSET_BITS (entries_of g.row.OFFSET_BITS u))) c.self.view_is
    (if-some c.choose_victim.result (victim-is g.row.OFFSET_BITS v s.held.held s.held.room s.unheld c.self.invariant) c.choose_victim.ensures.victim)
