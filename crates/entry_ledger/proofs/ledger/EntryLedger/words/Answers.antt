use Rattle.std.proofs.Common.{subst}
use Rattle.entry_ledger.specs.Calls.{HasWords}
use Rattle.entry_ledger.specs.Ledgers.{LedgerView, entries_of}
use Rattle.entry_ledger.proofs.Marks.{buffers-few}
use Rattle.entry_ledger.proofs.Victims.{words-are}
use Rattle.entry_ledger.proofs.ledger.EntryLedger.words.Goals as goal

pub words-requires : goal.words-requires
words-requires g c =
    let s = c.self.inside in
    let v : LedgerView = record { shelves = s.shelves; buffers = s.buffers; last = s.last; generation = s.generation; oldest = s.oldest; finished = s.finished } in
    buffers-few g.row.OFFSET_BITS v s.held.held s.held.room s.unheld c.self.invariant

pub returns : goal.returns
returns g c =
    let s = c.self.inside in
    let v : LedgerView = record { shelves = s.shelves; buffers = s.buffers; last = s.last; generation = s.generation; oldest = s.oldest; finished = s.finished } in
    subst (λ (u : LedgerView). HasWords g.row.OFFSET_BITS (entries_of g.row.OFFSET_BITS u) c.words.result) c.self.view_is
    (words-are g.row.OFFSET_BITS v s.held.held s.held.room s.unheld c.self.invariant c.words.result c.words.ensures)
