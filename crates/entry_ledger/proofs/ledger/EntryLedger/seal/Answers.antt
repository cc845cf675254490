use Rattle.std.proofs.Common.{◌≡◌, true, Some, sym, ap, subst, ◌∙◌}
use Rattle.buffer_states.specs.Buffers.{buffer_at, is_state_active}
use Rattle.entry_ledger.specs.Shelves.{filled_at}
use Rattle.entry_ledger.specs.Entries.{IsGood}
use Rattle.entry_ledger.specs.Calls.{Seals}
use Rattle.entry_ledger.specs.Ledgers.{LedgerView, entries_of, AreEntries}
use Rattle.entry_ledger.proofs.Good.{good}
use Rattle.entry_ledger.proofs.Marks.{active-inside, active-is, active-shelf, unflagged}
use Rattle.entry_ledger.proofs.Seals.{sealed_view, seal-kept, seal-seals}
use Rattle.entry_ledger.proofs.ledger.EntryLedger.seal.Goals as goal

pub seal-requires-clause-inside : goal.seal-requires-clause-inside
unfolding entries_of
seal-requires-clause-inside g c =
    let s = c.self.inside in
    let k = c.self.invariant in
    let bits = g.row.OFFSET_BITS in
    let b = c.args.buffer in
    let v : LedgerView = record { shelves = s.shelves; buffers = s.buffers; last = s.last; generation = s.generation; oldest = s.oldest; finished = s.finished } in
    let active : is_state_active (buffer_at s.buffers b).state ≡ true = subst (λ (u : LedgerView). is_state_active (buffer_at u.buffers b).state ≡ true) (sym c.self.view_is) c.requires.active in
    (active-shelf bits v s.held.held s.held.room s.unheld k b active).0

pub seal-requires-clause-opened : goal.seal-requires-clause-opened
unfolding entries_of
seal-requires-clause-opened g c =
    let s = c.self.inside in
    let k = c.self.invariant in
    let bits = g.row.OFFSET_BITS in
    let b = c.args.buffer in
    let v : LedgerView = record { shelves = s.shelves; buffers = s.buffers; last = s.last; generation = s.generation; oldest = s.oldest; finished = s.finished } in
    let active : is_state_active (buffer_at s.buffers b).state ≡ true = subst (λ (u : LedgerView). is_state_active (buffer_at u.buffers b).state ≡ true) (sym c.self.view_is) c.requires.active in
    (active-shelf bits v s.held.held s.held.room s.unheld k b active).3

pub seal-requires-clause-unfilled : goal.seal-requires-clause-unfilled
unfolding entries_of
seal-requires-clause-unfilled g c =
    let s = c.self.inside in
    let k = c.self.invariant in
    let bits = g.row.OFFSET_BITS in
    let b = c.args.buffer in
    let v : LedgerView = record { shelves = s.shelves; buffers = s.buffers; last = s.last; generation = s.generation; oldest = s.oldest; finished = s.finished } in
    let active : is_state_active (buffer_at s.buffers b).state ≡ true = subst (λ (u : LedgerView). is_state_active (buffer_at u.buffers b).state ≡ true) (sym c.self.view_is) c.requires.active in
    let out : filled_at s.shelves.filled (buffer_at s.buffers b).width ≡ Some b → ⊥ =
    subst (λ (u : LedgerView). filled_at u.shelves.filled (buffer_at u.buffers b).width ≡ Some b → ⊥) (sym c.self.view_is) c.requires.unfilled in
    λ is. out (ap (filled_at s.shelves.filled) (sym (active-shelf bits v s.held.held s.held.room s.unheld k b active).1) ∙ is)

pub seal-requires-2-clause-inside : goal.seal-requires-2-clause-inside
unfolding entries_of
seal-requires-2-clause-inside g c =
    let s = c.self.inside in
    let k = c.self.invariant in
    let bits = g.row.OFFSET_BITS in
    let b = c.args.buffer in
    let v : LedgerView = record { shelves = s.shelves; buffers = s.buffers; last = s.last; generation = s.generation; oldest = s.oldest; finished = s.finished } in
    let active : is_state_active (buffer_at s.buffers b).state ≡ true = subst (λ (u : LedgerView). is_state_active (buffer_at u.buffers b).state ≡ true) (sym c.self.view_is) c.requires.active in
    active-inside s.buffers b active

pub seal-requires-2-clause-active : goal.seal-requires-2-clause-active
unfolding entries_of
seal-requires-2-clause-active g c =
    let s = c.self.inside in
    let k = c.self.invariant in
    let bits = g.row.OFFSET_BITS in
    let b = c.args.buffer in
    let v : LedgerView = record { shelves = s.shelves; buffers = s.buffers; last = s.last; generation = s.generation; oldest = s.oldest; finished = s.finished } in
    let active : is_state_active (buffer_at s.buffers b).state ≡ true = subst (λ (u : LedgerView). is_state_active (buffer_at u.buffers b).state ≡ true) (sym c.self.view_is) c.requires.active in
    active-is (buffer_at s.buffers b).state active

pub seal-requires-2-clause-unfilled : goal.seal-requires-2-clause-unfilled
unfolding entries_of
seal-requires-2-clause-unfilled g c =
    let s = c.self.inside in
    let k = c.self.invariant in
    let bits = g.row.OFFSET_BITS in
    let b = c.args.buffer in
    let v : LedgerView = record { shelves = s.shelves; buffers = s.buffers; last = s.last; generation = s.generation; oldest = s.oldest; finished = s.finished } in
    let out : filled_at s.shelves.filled (buffer_at s.buffers b).width ≡ Some b → ⊥ =
    subst (λ (u : LedgerView). filled_at u.shelves.filled (buffer_at u.buffers b).width ≡ Some b → ⊥) (sym c.self.view_is) c.requires.unfilled in
    unflagged s.shelves.filled b (buffer_at s.buffers b) (k.flagged b) out

pub invariant_of-self : goal.invariant_of-self
unfolding entries_of
invariant_of-self g c =
    let s = c.self.inside in
    let k = c.self.invariant in
    let bits = g.row.OFFSET_BITS in
    let b = c.args.buffer in
    let v : LedgerView = record { shelves = s.shelves; buffers = s.buffers; last = s.last; generation = s.generation; oldest = s.oldest; finished = s.finished } in
    let active : is_state_active (buffer_at s.buffers b).state ≡ true = subst (λ (u : LedgerView). is_state_active (buffer_at u.buffers b).state ≡ true) (sym c.self.view_is) c.requires.active in
    let out : filled_at s.shelves.filled (buffer_at s.buffers b).width ≡ Some b → ⊥ =
    subst (λ (u : LedgerView). filled_at u.shelves.filled (buffer_at u.buffers b).width ≡ Some b → ⊥) (sym c.self.view_is) c.requires.unfilled in
    let is : record v { shelves = c.seal.new.self; buffers = c.seal-2.new.self } ≡ sealed_view bits v s.held.held s.held.room s.unheld k b active out =
    λ i. record v { shelves = c.seal.ensures i; buffers = c.seal-2.ensures i } in
    subst (λ (u : LedgerView). AreEntries bits u s.held.held s.held.room s.unheld) (sym is) (seal-kept bits v s.held.held s.held.room s.unheld k b active out)

pub returns-clause-seals : goal.returns-clause-seals
unfolding entries_of
returns-clause-seals g c =
    let s = c.self.inside in
    let k = c.self.invariant in
    let bits = g.row.OFFSET_BITS in
    let b = c.args.buffer in
    let v : LedgerView = record { shelves = s.shelves; buffers = s.buffers; last = s.last; generation = s.generation; oldest = s.oldest; finished = s.finished } in
    let active : is_state_active (buffer_at s.buffers b).state ≡ true = subst (λ (u : LedgerView). is_state_active (buffer_at u.buffers b).state ≡ true) (sym c.self.view_is) c.requires.active in
    let out : filled_at s.shelves.filled (buffer_at s.buffers b).width ≡ Some b → ⊥ =
    subst (λ (u : LedgerView). filled_at u.shelves.filled (buffer_at u.buffers b).width ≡ Some b → ⊥) (sym c.self.view_is) c.requires.unfilled in
    let is : record v { shelves = c.seal.new.self; buffers = c.seal-2.new.self } ≡ sealed_view bits v s.held.held s.held.room s.unheld k b active out =
    λ i. record v { shelves = c.seal.ensures i; buffers = c.seal-2.ensures i } in
    subst (λ (u : LedgerView). Seals (entries_of bits u) (entries_of bits (record v { shelves = c.seal.new.self; buffers = c.seal-2.new.self })) b) c.self.view_is
    (subst (λ (u : LedgerView). Seals (entries_of bits v) (entries_of bits u) b) (sym is) (seal-seals bits v s.held.held s.held.room s.unheld k b active out))

pub returns-clause-good : goal.returns-clause-good
unfolding entries_of
returns-clause-good g c =
    let s = c.self.inside in
    let k = c.self.invariant in
    let bits = g.row.OFFSET_BITS in
    let b = c.args.buffer in
    let v : LedgerView = record { shelves = s.shelves; buffers = s.buffers; last = s.last; generation = s.generation; oldest = s.oldest; finished = s.finished } in
    let active : is_state_active (buffer_at s.buffers b).state ≡ true = subst (λ (u : LedgerView). is_state_active (buffer_at u.buffers b).state ≡ true) (sym c.self.view_is) c.requires.active in
    let out : filled_at s.shelves.filled (buffer_at s.buffers b).width ≡ Some b → ⊥ =
    subst (λ (u : LedgerView). filled_at u.shelves.filled (buffer_at u.buffers b).width ≡ Some b → ⊥) (sym c.self.view_is) c.requires.unfilled in
    let is : record v { shelves = c.seal.new.self; buffers = c.seal-2.new.self } ≡ sealed_view bits v s.held.held s.held.room s.unheld k b active out =
    λ i. record v { shelves = c.seal.ensures i; buffers = c.seal-2.ensures i } in
    subst (λ (u : LedgerView). IsGood bits (entries_of bits u)) (sym is)
    (good bits (sealed_view bits v s.held.held s.held.room s.unheld k b active out) s.held.held s.held.room s.unheld (seal-kept bits v s.held.held s.held.room s.unheld k b active out))
