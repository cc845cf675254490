use Rattle.std.proofs.Common.{◌≡◌, ◌≤◌, ℕ, false, sym, ap, subst}
use Rattle.entry_ledger.specs.Entries.{is_dropped_since}
use Rattle.entry_ledger.specs.Ledgers.{LedgerView, entries_of}
use Rattle.entry_ledger.proofs.Good.{good}
use Rattle.entry_ledger.proofs.Plain.{advance-kept}
use Rattle.entry_ledger.proofs.ledger.EntryLedger.advance_to.Goals as goal

pub invariant_of-self : goal.invariant_of-self
unfolding entries_of
invariant_of-self g c =
    let s = c.self.inside in
    let v : LedgerView = record { shelves = s.shelves; buffers = s.buffers; last = s.last; generation = s.generation; oldest = s.oldest; finished = s.finished } in
    advance-kept g.row.OFFSET_BITS v s.held.held s.held.room s.unheld c.self.invariant c.args.generation
    (subst (λ (u : LedgerView). u.generation ≤ c.args.generation) (sym c.self.view_is) c.requires.rises)
    (subst (λ (u : LedgerView). (r : ℕ) → is_dropped_since u.last ((entries_of g.row.OFFSET_BITS u).state r) ≡ false) (sym c.self.view_is) c.requires.tagged)

pub returns-clause-advanced : goal.returns-clause-advanced
unfolding entries_of
returns-clause-advanced g c = ap (λ (u : LedgerView). record (entries_of g.row.OFFSET_BITS u) { generation = c.args.generation }) c.self.view_is

pub returns-clause-good : goal.returns-clause-good
unfolding entries_of
returns-clause-good g c =
    let s = c.self.inside in
    let v : LedgerView = record { shelves = s.shelves; buffers = s.buffers; last = s.last; generation = s.generation; oldest = s.oldest; finished = s.finished } in
    good g.row.OFFSET_BITS (record v { generation = c.args.generation }) s.held.held s.held.room s.unheld
    (advance-kept g.row.OFFSET_BITS v s.held.held s.held.room s.unheld c.self.invariant c.args.generation
    (subst (λ (u : LedgerView). u.generation ≤ c.args.generation) (sym c.self.view_is) c.requires.rises)
    (subst (λ (u : LedgerView). (r : ℕ) → is_dropped_since u.last ((entries_of g.row.OFFSET_BITS u).state r) ≡ false) (sym c.self.view_is) c.requires.tagged))
