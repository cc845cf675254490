use Rattle.std.proofs.Common.{◌≡◌, ℕ, true, false, Some, sym, ap, subst, ◌∙◌}
use Rattle.buffer_states.specs.Buffers.{buffer_at}
use Rattle.entry_ledger.specs.Entries.{IsGood, is_settled_entry}
use Rattle.entry_ledger.specs.Calls.{Unseals}
use Rattle.entry_ledger.specs.Ledgers.{LedgerView, entries_of, AreEntries}
use Rattle.entry_ledger.proofs.Good.{good}
use Rattle.entry_ledger.proofs.Marks.{active-inside}
use Rattle.entry_ledger.proofs.Unseals.{unsealed_view, unseal-active, unseal-inside, unseal-opened, unseal-sealed, unseal-kept, unseal-unseals}
use Rattle.entry_ledger.proofs.ledger.EntryLedger.unseal.Goals as goal

pub unseal-requires-clause-inside : goal.unseal-requires-clause-inside
unfolding entries_of
unseal-requires-clause-inside g c =
    let s = c.self.inside in
    let k = c.self.invariant in
    let bits = g.row.OFFSET_BITS in
    let b = c.args.buffer in
    let v : LedgerView = record { shelves = s.shelves; buffers = s.buffers; last = s.last; generation = s.generation; oldest = s.oldest; finished = s.finished } in
    let sealed : (buffer_at s.buffers b).sealed ≡ true = subst (λ (u : LedgerView). (buffer_at u.buffers b).sealed ≡ true) (sym c.self.view_is) c.requires.sealed in
    let out : s.finished ≡ Some b → ⊥ = subst (λ (u : LedgerView). u.finished ≡ Some b → ⊥) (sym c.self.view_is) c.requires.unfinished in
    unseal-inside bits v s.held.held s.held.room s.unheld k b sealed out

pub unseal-requires-clause-opened : goal.unseal-requires-clause-opened
unfolding entries_of
unseal-requires-clause-opened g c =
    let s = c.self.inside in
    let k = c.self.invariant in
    let bits = g.row.OFFSET_BITS in
    let b = c.args.buffer in
    let v : LedgerView = record { shelves = s.shelves; buffers = s.buffers; last = s.last; generation = s.generation; oldest = s.oldest; finished = s.finished } in
    let sealed : (buffer_at s.buffers b).sealed ≡ true = subst (λ (u : LedgerView). (buffer_at u.buffers b).sealed ≡ true) (sym c.self.view_is) c.requires.sealed in
    let out : s.finished ≡ Some b → ⊥ = subst (λ (u : LedgerView). u.finished ≡ Some b → ⊥) (sym c.self.view_is) c.requires.unfinished in
    unseal-opened bits v s.held.held s.held.room s.unheld k b sealed out

pub unseal-requires-clause-sealed : goal.unseal-requires-clause-sealed
unfolding entries_of
unseal-requires-clause-sealed g c =
    let s = c.self.inside in
    let k = c.self.invariant in
    let bits = g.row.OFFSET_BITS in
    let b = c.args.buffer in
    let v : LedgerView = record { shelves = s.shelves; buffers = s.buffers; last = s.last; generation = s.generation; oldest = s.oldest; finished = s.finished } in
    let sealed : (buffer_at s.buffers b).sealed ≡ true = subst (λ (u : LedgerView). (buffer_at u.buffers b).sealed ≡ true) (sym c.self.view_is) c.requires.sealed in
    let out : s.finished ≡ Some b → ⊥ = subst (λ (u : LedgerView). u.finished ≡ Some b → ⊥) (sym c.self.view_is) c.requires.unfinished in
    unseal-sealed bits v s.held.held s.held.room s.unheld k b sealed out

pub unseal-requires-2 : goal.unseal-requires-2
unfolding entries_of
unseal-requires-2 g c =
    let s = c.self.inside in
    let k = c.self.invariant in
    let bits = g.row.OFFSET_BITS in
    let b = c.args.buffer in
    let v : LedgerView = record { shelves = s.shelves; buffers = s.buffers; last = s.last; generation = s.generation; oldest = s.oldest; finished = s.finished } in
    let sealed : (buffer_at s.buffers b).sealed ≡ true = subst (λ (u : LedgerView). (buffer_at u.buffers b).sealed ≡ true) (sym c.self.view_is) c.requires.sealed in
    let out : s.finished ≡ Some b → ⊥ = subst (λ (u : LedgerView). u.finished ≡ Some b → ⊥) (sym c.self.view_is) c.requires.unfinished in
    active-inside s.buffers b (unseal-active bits v s.held.held s.held.room s.unheld k b sealed out)

pub invariant_of-self : goal.invariant_of-self
unfolding entries_of
invariant_of-self g c =
    let s = c.self.inside in
    let k = c.self.invariant in
    let bits = g.row.OFFSET_BITS in
    let b = c.args.buffer in
    let v : LedgerView = record { shelves = s.shelves; buffers = s.buffers; last = s.last; generation = s.generation; oldest = s.oldest; finished = s.finished } in
    let sealed : (buffer_at s.buffers b).sealed ≡ true = subst (λ (u : LedgerView). (buffer_at u.buffers b).sealed ≡ true) (sym c.self.view_is) c.requires.sealed in
    let out : s.finished ≡ Some b → ⊥ = subst (λ (u : LedgerView). u.finished ≡ Some b → ⊥) (sym c.self.view_is) c.requires.unfinished in
    let is : record v { shelves = c.unseal.new.self; buffers = c.unseal-2.new.self } ≡ unsealed_view bits v s.held.held s.held.room s.unheld k b sealed out =
    λ i. record v { shelves = c.unseal.ensures i; buffers = c.unseal-2.ensures i } in
    subst (λ (u : LedgerView). AreEntries bits u s.held.held s.held.room s.unheld) (sym is) (unseal-kept bits v s.held.held s.held.room s.unheld k b sealed out)

pub returns-clause-unseals : goal.returns-clause-unseals
unfolding entries_of
returns-clause-unseals g c =
    let s = c.self.inside in
    let k = c.self.invariant in
    let bits = g.row.OFFSET_BITS in
    let b = c.args.buffer in
    let v : LedgerView = record { shelves = s.shelves; buffers = s.buffers; last = s.last; generation = s.generation; oldest = s.oldest; finished = s.finished } in
    let sealed : (buffer_at s.buffers b).sealed ≡ true = subst (λ (u : LedgerView). (buffer_at u.buffers b).sealed ≡ true) (sym c.self.view_is) c.requires.sealed in
    let out : s.finished ≡ Some b → ⊥ = subst (λ (u : LedgerView). u.finished ≡ Some b → ⊥) (sym c.self.view_is) c.requires.unfinished in
    let settled = subst (λ (u : LedgerView). (r : ℕ) → is_settled_entry ((entries_of bits u).state r) ≡ true) (sym c.self.view_is) c.requires.settled in
    let is : record v { shelves = c.unseal.new.self; buffers = c.unseal-2.new.self } ≡ unsealed_view bits v s.held.held s.held.room s.unheld k b sealed out =
    λ i. record v { shelves = c.unseal.ensures i; buffers = c.unseal-2.ensures i } in
    subst (λ (u : LedgerView). Unseals (entries_of bits u) (entries_of bits (record v { shelves = c.unseal.new.self; buffers = c.unseal-2.new.self })) b) c.self.view_is
    (subst (λ (u : LedgerView). Unseals (entries_of bits v) (entries_of bits u) b) (sym is) (unseal-unseals bits v s.held.held s.held.room s.unheld k b sealed out settled))

pub returns-clause-good : goal.returns-clause-good
unfolding entries_of
returns-clause-good g c =
    let s = c.self.inside in
    let k = c.self.invariant in
    let bits = g.row.OFFSET_BITS in
    let b = c.args.buffer in
    let v : LedgerView = record { shelves = s.shelves; buffers = s.buffers; last = s.last; generation = s.generation; oldest = s.oldest; finished = s.finished } in
    let sealed : (buffer_at s.buffers b).sealed ≡ true = subst (λ (u : LedgerView). (buffer_at u.buffers b).sealed ≡ true) (sym c.self.view_is) c.requires.sealed in
    let out : s.finished ≡ Some b → ⊥ = subst (λ (u : LedgerView). u.finished ≡ Some b → ⊥) (sym c.self.view_is) c.requires.unfinished in
    let is : record v { shelves = c.unseal.new.self; buffers = c.unseal-2.new.self } ≡ unsealed_view bits v s.held.held s.held.room s.unheld k b sealed out =
    λ i. record v { shelves = c.unseal.ensures i; buffers = c.unseal-2.ensures i } in
    subst (λ (u : LedgerView). IsGood bits (entries_of bits u)) (sym is)
    (good bits (unsealed_view bits v s.held.held s.held.room s.unheld k b sealed out) s.held.held s.held.room s.unheld (unseal-kept bits v s.held.held s.held.room s.unheld k b sealed out))
