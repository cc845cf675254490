use Rattle.std.proofs.Common.{ap, ◌∙◌}
use Rattle.buffer_states.specs.Buffers.{is_state_active}
use Rattle.entry_ledger.specs.Entries.{count_marks}
use Rattle.entry_ledger.specs.Ledgers.{LedgerView, entries_of}
use Rattle.entry_ledger.proofs.Marks.{buffers-few, count-states}
use Rattle.entry_ledger.proofs.ledger.EntryLedger.active.Goals as goal

pub active-requires : goal.active-requires
active-requires g c =
    let s = c.self.inside in
    let v : LedgerView = record { shelves = s.shelves; buffers = s.buffers; last = s.last; generation = s.generation; oldest = s.oldest; finished = s.finished } in
    buffers-few g.row.OFFSET_BITS v s.held.held s.held.room s.unheld c.self.invariant

pub returns : goal.returns
unfolding entries_of
returns g c =
    let s = c.self.inside in
    let v : LedgerView = record { shelves = s.shelves; buffers = s.buffers; last = s.last; generation = s.generation; oldest = s.oldest; finished = s.finished } in
    c.active.ensures ∙ count-states g.row.OFFSET_BITS v s.held.held s.held.room s.unheld c.self.invariant is_state_active
    ∙ ap (λ (u : LedgerView). count_marks is_state_active (entries_of g.row.OFFSET_BITS u).mark (entries_of g.row.OFFSET_BITS u).count) c.self.view_is
