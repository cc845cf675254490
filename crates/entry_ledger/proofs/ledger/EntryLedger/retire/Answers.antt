use Rattle.std.proofs.Common.{◌≡◌, ◌-◌, ℕ, true, false, None, Some, sym, ap, subst, ◌∙◌, arith}
use Rattle.buffer_states.specs.Buffers.{buffer_at}
use Rattle.entry_ledger.specs.Entries.{IsGood, is_settled_entry, is_dropped_since}
use Rattle.entry_ledger.specs.Calls.{retired_at}
use Rattle.entry_ledger.specs.Ledgers.{LedgerView, entries_of, AreEntries}
use Rattle.entry_ledger.proofs.Good.{good}
use Rattle.entry_ledger.proofs.Marks.{active-inside, active-is}
use Rattle.entry_ledger.proofs.Retires.{retire-is, retire-inside, retire-sealed, retire-unflagged, retire-unheld, retire-settled, retired_view, retire-kept, retire-retired}
use Rattle.entry_ledger.proofs.ledger.EntryLedger.retire.Goals as goal

pub unheld-requires : goal.unheld-requires
unfolding entries_of
unheld-requires g c =
    let s = c.self.inside in
    let k = c.self.invariant in
    let bits = g.row.OFFSET_BITS in
    let b = c.args.buffer in
    let v : LedgerView = record { shelves = s.shelves; buffers = s.buffers; last = s.last; generation = s.generation; oldest = s.oldest; finished = s.finished } in
    let fin : s.finished ≡ Some b = subst (λ (u : LedgerView). u.finished ≡ Some b) (sym c.self.view_is) c.requires.finished in
    retire-inside bits v s.held.held s.held.room s.unheld k b fin

pub overflow_sub-self : goal.overflow_sub-self
unfolding entries_of
overflow_sub-self g c =
    let s = c.self.inside in
    let k = c.self.invariant in
    let bits = g.row.OFFSET_BITS in
    let b = c.args.buffer in
    let v : LedgerView = record { shelves = s.shelves; buffers = s.buffers; last = s.last; generation = s.generation; oldest = s.oldest; finished = s.finished } in
    let fin : s.finished ≡ Some b = subst (λ (u : LedgerView). u.finished ≡ Some b) (sym c.self.view_is) c.requires.finished in
    (let low = retire-unheld bits v s.held.held s.held.room s.unheld k b fin in let is = c.unheld.ensures in omega (arith, low, is))

pub close-requires-clause-inside : goal.close-requires-clause-inside
unfolding entries_of
close-requires-clause-inside g c =
    let s = c.self.inside in
    let k = c.self.invariant in
    let bits = g.row.OFFSET_BITS in
    let b = c.args.buffer in
    let v : LedgerView = record { shelves = s.shelves; buffers = s.buffers; last = s.last; generation = s.generation; oldest = s.oldest; finished = s.finished } in
    let fin : s.finished ≡ Some b = subst (λ (u : LedgerView). u.finished ≡ Some b) (sym c.self.view_is) c.requires.finished in
    retire-inside bits v s.held.held s.held.room s.unheld k b fin

pub close-requires-clause-sealed : goal.close-requires-clause-sealed
unfolding entries_of
close-requires-clause-sealed g c =
    let s = c.self.inside in
    let k = c.self.invariant in
    let bits = g.row.OFFSET_BITS in
    let b = c.args.buffer in
    let v : LedgerView = record { shelves = s.shelves; buffers = s.buffers; last = s.last; generation = s.generation; oldest = s.oldest; finished = s.finished } in
    let fin : s.finished ≡ Some b = subst (λ (u : LedgerView). u.finished ≡ Some b) (sym c.self.view_is) c.requires.finished in
    retire-sealed bits v s.held.held s.held.room s.unheld k b fin

pub close-requires-clause-settled : goal.close-requires-clause-settled
unfolding entries_of
close-requires-clause-settled g c =
    let s = c.self.inside in
    let k = c.self.invariant in
    let bits = g.row.OFFSET_BITS in
    let b = c.args.buffer in
    let v : LedgerView = record { shelves = s.shelves; buffers = s.buffers; last = s.last; generation = s.generation; oldest = s.oldest; finished = s.finished } in
    let fin : s.finished ≡ Some b = subst (λ (u : LedgerView). u.finished ≡ Some b) (sym c.self.view_is) c.requires.finished in
    let settled = subst (λ (u : LedgerView). (r : ℕ) → is_settled_entry ((entries_of bits u).state r) ≡ true) (sym c.self.view_is) c.requires.settled in
    retire-settled bits v s.held.held s.held.room s.unheld k b fin settled

pub put_on_hold-requires-clause-inside : goal.put_on_hold-requires-clause-inside
unfolding entries_of
put_on_hold-requires-clause-inside g c =
    let s = c.self.inside in
    let k = c.self.invariant in
    let bits = g.row.OFFSET_BITS in
    let b = c.args.buffer in
    let v : LedgerView = record { shelves = s.shelves; buffers = s.buffers; last = s.last; generation = s.generation; oldest = s.oldest; finished = s.finished } in
    let fin : s.finished ≡ Some b = subst (λ (u : LedgerView). u.finished ≡ Some b) (sym c.self.view_is) c.requires.finished in
    active-inside s.buffers b (retire-is bits v s.held.held s.held.room s.unheld k b fin).1

pub put_on_hold-requires-clause-active : goal.put_on_hold-requires-clause-active
unfolding entries_of
put_on_hold-requires-clause-active g c =
    let s = c.self.inside in
    let k = c.self.invariant in
    let bits = g.row.OFFSET_BITS in
    let b = c.args.buffer in
    let v : LedgerView = record { shelves = s.shelves; buffers = s.buffers; last = s.last; generation = s.generation; oldest = s.oldest; finished = s.finished } in
    let fin : s.finished ≡ Some b = subst (λ (u : LedgerView). u.finished ≡ Some b) (sym c.self.view_is) c.requires.finished in
    active-is (buffer_at s.buffers b).state (retire-is bits v s.held.held s.held.room s.unheld k b fin).1

pub put_on_hold-requires-clause-unfilled : goal.put_on_hold-requires-clause-unfilled
unfolding entries_of
put_on_hold-requires-clause-unfilled g c =
    let s = c.self.inside in
    let k = c.self.invariant in
    let bits = g.row.OFFSET_BITS in
    let b = c.args.buffer in
    let v : LedgerView = record { shelves = s.shelves; buffers = s.buffers; last = s.last; generation = s.generation; oldest = s.oldest; finished = s.finished } in
    let fin : s.finished ≡ Some b = subst (λ (u : LedgerView). u.finished ≡ Some b) (sym c.self.view_is) c.requires.finished in
    retire-unflagged bits v s.held.held s.held.room s.unheld k b fin

pub invariant_of-self : goal.invariant_of-self
unfolding entries_of
invariant_of-self g c =
    let s = c.self.inside in
    let k = c.self.invariant in
    let bits = g.row.OFFSET_BITS in
    let b = c.args.buffer in
    let v : LedgerView = record { shelves = s.shelves; buffers = s.buffers; last = s.last; generation = s.generation; oldest = s.oldest; finished = s.finished } in
    let fin : s.finished ≡ Some b = subst (λ (u : LedgerView). u.finished ≡ Some b) (sym c.self.view_is) c.requires.finished in
    let tagged = subst (λ (u : LedgerView). (r : ℕ) → is_dropped_since u.last ((entries_of bits u).state r) ≡ false) (sym c.self.view_is) c.requires.tagged in
    let is : record v { shelves = c.close.new.self; buffers = c.put_on_hold.new.self; finished = None } ≡ retired_view bits v s.held.held s.held.room s.unheld k b fin =
    λ i. record v { shelves = c.close.ensures i; buffers = c.put_on_hold.ensures i; finished = None } in
    let kept = retire-kept bits v s.held.held s.held.room s.unheld k b fin tagged (s.unheld - c.unheld.result) (ap (λ n. s.unheld - n) c.unheld.ensures) in
    subst (λ (u : LedgerView). AreEntries bits u s.held.held s.held.room (s.unheld - c.unheld.result)) (sym is) kept

pub returns-clause-retired : goal.returns-clause-retired
unfolding entries_of
returns-clause-retired g c =
    let s = c.self.inside in
    let k = c.self.invariant in
    let bits = g.row.OFFSET_BITS in
    let b = c.args.buffer in
    let v : LedgerView = record { shelves = s.shelves; buffers = s.buffers; last = s.last; generation = s.generation; oldest = s.oldest; finished = s.finished } in
    let fin : s.finished ≡ Some b = subst (λ (u : LedgerView). u.finished ≡ Some b) (sym c.self.view_is) c.requires.finished in
    let is : record v { shelves = c.close.new.self; buffers = c.put_on_hold.new.self; finished = None } ≡ retired_view bits v s.held.held s.held.room s.unheld k b fin =
    λ i. record v { shelves = c.close.ensures i; buffers = c.put_on_hold.ensures i; finished = None } in
    ap (entries_of bits) is ∙ retire-retired bits v s.held.held s.held.room s.unheld k b fin ∙ ap (λ (u : LedgerView). retired_at bits (entries_of bits u) b) c.self.view_is

pub returns-clause-good : goal.returns-clause-good
unfolding entries_of
returns-clause-good g c =
    let s = c.self.inside in
    let k = c.self.invariant in
    let bits = g.row.OFFSET_BITS in
    let b = c.args.buffer in
    let v : LedgerView = record { shelves = s.shelves; buffers = s.buffers; last = s.last; generation = s.generation; oldest = s.oldest; finished = s.finished } in
    let fin : s.finished ≡ Some b = subst (λ (u : LedgerView). u.finished ≡ Some b) (sym c.self.view_is) c.requires.finished in
    let tagged = subst (λ (u : LedgerView). (r : ℕ) → is_dropped_since u.last ((entries_of bits u).state r) ≡ false) (sym c.self.view_is) c.requires.tagged in
    let is : record v { shelves = c.close.new.self; buffers = c.put_on_hold.new.self; finished = None } ≡ retired_view bits v s.held.held s.held.room s.unheld k b fin =
    λ i. record v { shelves = c.close.ensures i; buffers = c.put_on_hold.ensures i; finished = None } in
    let kept = retire-kept bits v s.held.held s.held.room s.unheld k b fin tagged (s.unheld - c.unheld.result) (ap (λ n. s.unheld - n) c.unheld.ensures) in
    subst (λ (u : LedgerView). IsGood bits (entries_of bits u)) (sym is) (good bits (retired_view bits v s.held.held s.held.room s.unheld k b fin) s.held.held s.held.room (s.unheld - c.unheld.result) kept)
