use Rattle.std.proofs.Common.{◌≡◌, true, false, List, refl, sym, ap, subst, ◌∙◌, arith}
use Rattle.buffer_states.specs.declared.Buffer.{Buffer}
use Rattle.buffer_states.specs.Buffers.{buffer_at}
use Rattle.entry_ledger.specs.Shelves.{ShelvesView, spare_of_width}
use Rattle.entry_ledger.specs.Entries.{IsGood}
use Rattle.entry_ledger.specs.Calls.{CanTake, made_at}
use Rattle.entry_ledger.specs.Ledgers.{LedgerView, entries_of, taken_buffer, AreEntries}
use Rattle.entry_ledger.proofs.Good.{good}
use Rattle.entry_ledger.proofs.Taking.{can-take, take-entries, take-kept, take-low, counted-take, taken-mark, taken-flag, next-fits, again-fits, offset-low, offset-small}
use Rattle.entry_ledger.proofs.ledger.EntryLedger.take.Goals as goal

pub take-requires : goal.take-requires
take-requires g c = c.requires

pub invariant_of-self : goal.invariant_of-self
invariant_of-self g c =
    let s = c.self.inside in
    let v : LedgerView = record { shelves = s.shelves; buffers = s.buffers; last = s.last; generation = s.generation; oldest = s.oldest; finished = s.finished } in
    subst (λ (u : ShelvesView). AreEntries g.row.OFFSET_BITS (record v { shelves = u }) s.held.held s.held.room s.unheld) (sym c.in_err-taken.ensures.left) c.self.invariant

pub returns-in_err-taken-clause-none : goal.returns-in_err-taken-clause-none
unfolding entries_of
returns-in_err-taken-clause-none g c =
    let there : spare_of_width c.args.self.now.shelves.shelves c.args.width ≡ 0 =
    subst (λ (u : LedgerView). spare_of_width u.shelves.shelves c.args.width ≡ 0) c.self.view_is (c.in_err-taken.ensures.none.0 refl) in
    rw c.from_residual.ensures (λ _. there, λ _. refl)

pub returns-in_err-taken-clause-left : goal.returns-in_err-taken-clause-left
returns-in_err-taken-clause-left g c =
    let s = c.self.inside in
    let v : LedgerView = record { shelves = s.shelves; buffers = s.buffers; last = s.last; generation = s.generation; oldest = s.oldest; finished = s.finished } in
    rw c.from_residual.ensures (ap (λ (u : ShelvesView). record v { shelves = u }) c.in_err-taken.ensures.left ∙ c.self.view_is)

pub returns-in_err-taken-clause-open : goal.returns-in_err-taken-clause-open
returns-in_err-taken-clause-open g c = rw c.from_residual.ensures tt

pub returns-in_err-taken-clause-made : goal.returns-in_err-taken-clause-made
returns-in_err-taken-clause-made g c = rw c.from_residual.ensures tt

pub returns-in_err-taken-clause-good : goal.returns-in_err-taken-clause-good
returns-in_err-taken-clause-good g c =
    let s = c.self.inside in
    let v : LedgerView = record { shelves = s.shelves; buffers = s.buffers; last = s.last; generation = s.generation; oldest = s.oldest; finished = s.finished } in
    subst (λ (u : ShelvesView). IsGood g.row.OFFSET_BITS (entries_of g.row.OFFSET_BITS (record v { shelves = u }))) (sym c.in_err-taken.ensures.left)
    (good g.row.OFFSET_BITS v s.held.held s.held.room s.unheld c.self.invariant)

pub count_take-requires-clause-inside : goal.count_take-requires-clause-inside
count_take-requires-clause-inside g c =
    let k = c.self.invariant in
    omega (arith, c.in_ok-taken.ensures.takes.below, k.count)

pub count_take-requires-clause-next : goal.count_take-requires-clause-next
count_take-requires-clause-next g c again =
    let s = c.self.inside in
    let v : LedgerView = record { shelves = s.shelves; buffers = s.buffers; last = s.last; generation = s.generation; oldest = s.oldest; finished = s.finished } in
    next-fits g.row.OFFSET_BITS v s.held.held s.held.room s.unheld c.self.invariant c.take.new.self c.args.width c.requires c.in_ok-taken.taken c.in_ok-taken.ensures.takes again

pub count_take-requires-clause-free : goal.count_take-requires-clause-free
count_take-requires-clause-free g c again =
    let s = c.self.inside in
    let v : LedgerView = record { shelves = s.shelves; buffers = s.buffers; last = s.last; generation = s.generation; oldest = s.oldest; finished = s.finished } in
    again-fits g.row.OFFSET_BITS v s.held.held s.held.room s.unheld c.self.invariant c.take.new.self c.args.width c.requires c.in_ok-taken.taken c.in_ok-taken.ensures.takes again

pub overflow_add-taken : goal.overflow_add-taken
overflow_add-taken g c =
    let s = c.self.inside in
    let v : LedgerView = record { shelves = s.shelves; buffers = s.buffers; last = s.last; generation = s.generation; oldest = s.oldest; finished = s.finished } in
    omega (arith, offset-small g.row.OFFSET_BITS v s.held.held s.held.room s.unheld c.self.invariant c.take.new.self c.args.width c.requires c.in_ok-taken.taken c.in_ok-taken.ensures.takes)

pub new-requires : goal.new-requires
new-requires g c =
    let s = c.self.inside in
    let v : LedgerView = record { shelves = s.shelves; buffers = s.buffers; last = s.last; generation = s.generation; oldest = s.oldest; finished = s.finished } in (
      omega arith,
      (
        offset-low g.row.OFFSET_BITS v s.held.held s.held.room s.unheld c.self.invariant c.take.new.self c.args.width c.requires c.in_ok-taken.taken c.in_ok-taken.ensures.takes,
        take-low g.row.OFFSET_BITS v s.held.held s.held.room s.unheld c.self.invariant c.take.new.self c.args.width c.requires c.in_ok-taken.taken c.in_ok-taken.ensures.takes,
      ),
    )

pub invariant_of-self-2 : goal.invariant_of-self-2
invariant_of-self-2 g c =
    let s = c.self.inside in
    let t = c.in_ok-taken.taken in
    let v : LedgerView = record { shelves = s.shelves; buffers = s.buffers; last = s.last; generation = s.generation; oldest = s.oldest; finished = s.finished } in
    subst (λ (bs : List Buffer). AreEntries g.row.OFFSET_BITS (record v { shelves = c.take.new.self; buffers = bs }) s.held.held s.held.room s.unheld) (sym c.count_take.ensures)
    (take-kept g.row.OFFSET_BITS v s.held.held s.held.room s.unheld c.self.invariant c.take.new.self c.args.width c.requires t c.in_ok-taken.ensures.takes
    (taken_buffer t.again (buffer_at s.buffers t.buffer)) (taken-mark t.again (buffer_at s.buffers t.buffer)) (taken-flag t.again (buffer_at s.buffers t.buffer))
    (counted-take g.row.OFFSET_BITS v s.held.held s.held.room s.unheld c.self.invariant c.take.new.self c.args.width c.requires t c.in_ok-taken.ensures.takes))

pub returns-clause-none : goal.returns-clause-none
unfolding entries_of
returns-clause-none g c =
    subst (λ (u : LedgerView). (true ≡ false → spare_of_width u.shelves.shelves c.args.width ≡ 0) × (spare_of_width u.shelves.shelves c.args.width ≡ 0 → true ≡ false)) c.self.view_is
    c.in_ok-taken.ensures.none

pub returns-clause-open : goal.returns-clause-open
returns-clause-open g c =
    let s = c.self.inside in
    let t = c.in_ok-taken.taken in
    let v : LedgerView = record { shelves = s.shelves; buffers = s.buffers; last = s.last; generation = s.generation; oldest = s.oldest; finished = s.finished } in
    subst (λ (u : LedgerView). CanTake g.row.OFFSET_BITS (entries_of g.row.OFFSET_BITS u) c.args.width c.new.result) c.self.view_is
    (subst (λ r. CanTake g.row.OFFSET_BITS (entries_of g.row.OFFSET_BITS v) c.args.width r) (sym c.new.ensures)
    (can-take g.row.OFFSET_BITS v s.held.held s.held.room s.unheld c.self.invariant c.take.new.self c.args.width c.requires t c.in_ok-taken.ensures.takes))

pub returns-clause-made : goal.returns-clause-made
unfolding entries_of
returns-clause-made g c =
    let s = c.self.inside in
    let t = c.in_ok-taken.taken in
    let v : LedgerView = record { shelves = s.shelves; buffers = s.buffers; last = s.last; generation = s.generation; oldest = s.oldest; finished = s.finished } in
    ap (λ (bs : List Buffer). entries_of g.row.OFFSET_BITS (record v { shelves = c.take.new.self; buffers = bs })) c.count_take.ensures
    ∙ take-entries g.row.OFFSET_BITS v s.held.held s.held.room s.unheld c.self.invariant c.take.new.self c.args.width c.requires t c.in_ok-taken.ensures.takes
    (taken_buffer t.again (buffer_at s.buffers t.buffer)) (taken-mark t.again (buffer_at s.buffers t.buffer))
    ∙ ap (λ r. made_at (entries_of g.row.OFFSET_BITS v) c.args.width r) (sym c.new.ensures)
    ∙ ap (λ (u : LedgerView). made_at (entries_of g.row.OFFSET_BITS u) c.args.width c.new.result) c.self.view_is

pub returns-clause-good : goal.returns-clause-good
returns-clause-good g c =
    let s = c.self.inside in
    let t = c.in_ok-taken.taken in
    let v : LedgerView = record { shelves = s.shelves; buffers = s.buffers; last = s.last; generation = s.generation; oldest = s.oldest; finished = s.finished } in
    good g.row.OFFSET_BITS (record v { shelves = c.take.new.self; buffers = c.count_take.new.buffers }) s.held.held s.held.room s.unheld
    (subst (λ (bs : List Buffer). AreEntries g.row.OFFSET_BITS (record v { shelves = c.take.new.self; buffers = bs }) s.held.held s.held.room s.unheld) (sym c.count_take.ensures)
    (take-kept g.row.OFFSET_BITS v s.held.held s.held.room s.unheld c.self.invariant c.take.new.self c.args.width c.requires t c.in_ok-taken.ensures.takes
    (taken_buffer t.again (buffer_at s.buffers t.buffer)) (taken-mark t.again (buffer_at s.buffers t.buffer)) (taken-flag t.again (buffer_at s.buffers t.buffer))
    (counted-take g.row.OFFSET_BITS v s.held.held s.held.room s.unheld c.self.invariant c.take.new.self c.args.width c.requires t c.in_ok-taken.ensures.takes)))
