use Rattle.std.proofs.Common.{length}
use Rattle.entry_ledger.specs.Ledgers.{entries_of}
use Rattle.entry_ledger.proofs.Emptying.{IsEmptying}
use Rattle.entry_ledger.proofs.ledger.EntryLedger.free_below.Given as goal

-- what was freed so far, freed again, is what all is then
abbrev pub invariant-loop-entry : goal.invariant-loop-entry
invariant-loop-entry g l =
    let s = l.self-inside in
    IsEmptying g.row.OFFSET_BITS l.oldest (entries_of g.row.OFFSET_BITS l.fn.self)
    (record { shelves = s.shelves; buffers = s.buffers; last = s.last; generation = s.generation; oldest = s.oldest; finished = s.finished }) s.held s.unheld

abbrev pub decreases-loop-entry : goal.decreases-loop-entry
decreases-loop-entry g l = length l.self-inside.held.held
