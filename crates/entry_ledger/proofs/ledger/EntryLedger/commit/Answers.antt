use Rattle.std.proofs.Common.{◌≡◌, ◌+◌, ℕ, true, List, map, sym, ap, subst, ◌∙◌, arith}
use Rattle.buffer_states.specs.declared.Buffer.{Buffer}
use Rattle.buffer_states.specs.Buffers.{with_dropped_held}
use Rattle.hold_lists.specs.Held.{HeldList, tagged_by}
use Rattle.entry_ledger.specs.Entries.{IsGood, is_settled_entry}
use Rattle.entry_ledger.specs.Ledgers.{LedgerView, entries_of, AreEntries}
use Rattle.entry_ledger.proofs.Good.{good}
use Rattle.entry_ledger.proofs.Commits.{commit-kept, commit-entries, held-fits}
use Rattle.entry_ledger.proofs.ledger.EntryLedger.commit.Goals as goal

pub tag-requires : goal.tag-requires
tag-requires g c = omega arith

pub hold_dropped-requires : goal.hold_dropped-requires
unfolding entries_of
hold_dropped-requires g c =
    let s = c.self.inside in
    let v : LedgerView = record { shelves = s.shelves; buffers = s.buffers; last = s.last; generation = s.generation; oldest = s.oldest; finished = s.finished } in
    held-fits g.row.OFFSET_BITS v s.held.held s.held.room s.unheld c.self.invariant c.args.number
    (subst (λ (u : LedgerView). u.last + 1 ≡ c.args.number) (sym c.self.view_is) c.requires.next)
    (subst (λ (u : LedgerView). (r : ℕ) → is_settled_entry ((entries_of g.row.OFFSET_BITS u).state r) ≡ true) (sym c.self.view_is) c.requires.settled)

pub invariant_of-self : goal.invariant_of-self
unfolding entries_of
invariant_of-self g c =
    let s = c.self.inside in
    let v : LedgerView = record { shelves = s.shelves; buffers = s.buffers; last = s.last; generation = s.generation; oldest = s.oldest; finished = s.finished } in
    subst (λ (bs : List Buffer). AreEntries g.row.OFFSET_BITS (record v { buffers = bs; last = c.args.number }) c.tag.new.self.held c.tag.new.self.room s.unheld) (sym c.hold_dropped.ensures)
    (subst (λ (h : HeldList). AreEntries g.row.OFFSET_BITS (record v { buffers = map with_dropped_held s.buffers; last = c.args.number }) h.held h.room s.unheld) (sym c.tag.ensures)
    (commit-kept g.row.OFFSET_BITS v s.held.held s.held.room s.unheld c.self.invariant c.args.number
    (subst (λ (u : LedgerView). u.last + 1 ≡ c.args.number) (sym c.self.view_is) c.requires.next)
    (subst (λ (u : LedgerView). (r : ℕ) → is_settled_entry ((entries_of g.row.OFFSET_BITS u).state r) ≡ true) (sym c.self.view_is) c.requires.settled)))

pub returns-clause-commit : goal.returns-clause-commit
unfolding entries_of
returns-clause-commit g c =
    let s = c.self.inside in
    let v : LedgerView = record { shelves = s.shelves; buffers = s.buffers; last = s.last; generation = s.generation; oldest = s.oldest; finished = s.finished } in
    ap (λ (bs : List Buffer). entries_of g.row.OFFSET_BITS (record v { buffers = bs; last = c.args.number })) c.hold_dropped.ensures
    ∙ commit-entries g.row.OFFSET_BITS v s.held.held s.held.room s.unheld c.self.invariant c.args.number
    (subst (λ (u : LedgerView). u.last + 1 ≡ c.args.number) (sym c.self.view_is) c.requires.next)
    (subst (λ (u : LedgerView). (r : ℕ) → is_settled_entry ((entries_of g.row.OFFSET_BITS u).state r) ≡ true) (sym c.self.view_is) c.requires.settled)
    ∙ ap (λ (u : LedgerView). record (entries_of g.row.OFFSET_BITS u) { last = c.args.number }) c.self.view_is

pub returns-clause-good : goal.returns-clause-good
unfolding entries_of
returns-clause-good g c =
    let s = c.self.inside in
    let v : LedgerView = record { shelves = s.shelves; buffers = s.buffers; last = s.last; generation = s.generation; oldest = s.oldest; finished = s.finished } in
    subst (λ (bs : List Buffer). IsGood g.row.OFFSET_BITS (entries_of g.row.OFFSET_BITS (record v { buffers = bs; last = c.args.number }))) (sym c.hold_dropped.ensures)
    (good g.row.OFFSET_BITS (record v { buffers = map with_dropped_held s.buffers; last = c.args.number }) (map (tagged_by s.generation c.args.number) s.held.held) s.held.room s.unheld
    (commit-kept g.row.OFFSET_BITS v s.held.held s.held.room s.unheld c.self.invariant c.args.number
    (subst (λ (u : LedgerView). u.last + 1 ≡ c.args.number) (sym c.self.view_is) c.requires.next)
    (subst (λ (u : LedgerView). (r : ℕ) → is_settled_entry ((entries_of g.row.OFFSET_BITS u).state r) ≡ true) (sym c.self.view_is) c.requires.settled)))
