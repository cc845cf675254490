use Rattle.std.proofs.Common.{false}
use Rattle.entry_ledger.specs.Ledgers.{entries_of, touched_total}
use Rattle.entry_ledger.proofs.Ends.{Ending}
use Rattle.entry_ledger.proofs.ledger.EntryLedger.undo.Given as goal

-- what was settled so far, settled again, is what the unit's end makes of all
abbrev pub invariant-loop : goal.invariant-loop
invariant-loop g l = Ending false (entries_of g.row.OFFSET_BITS l.fn.self) (entries_of g.row.OFFSET_BITS l.self)

abbrev pub decreases-loop : goal.decreases-loop
decreases-loop g l = touched_total l.self
