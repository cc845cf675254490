use Rattle.std.proofs.Common.{◌≡◌, ◌≤◌, ◌+◌, ◌-◌, ◌/◌, List, sym, ap, subst, ◌∙◌, arith}
use Rattle.std.proofs.lemmas.Result.{err_from_is_err_and}
use Rattle.store_api.specs.Ledgers.{capacity}
use Rattle.buffer_states.specs.declared.Buffer.{Buffer}
use Rattle.buffer_states.specs.Buffers.{buffer_at, activated}
use Rattle.entry_ledger.specs.Shelves.{ShelvesView}
use Rattle.entry_ledger.proofs.Rows.{width-bounds}
use Rattle.entry_ledger.proofs.Opening.{some-capacity}
use Rattle.hold_lists.specs.Held.{HeldEntry, HeldList}
use Rattle.entry_ledger.specs.Entries.{IsGood}
use Rattle.entry_ledger.specs.Calls.{opened_at}
use Rattle.entry_ledger.specs.Ledgers.{LedgerView, entries_of, AreEntries}
use Rattle.entry_ledger.proofs.Good.{good}
use Rattle.entry_ledger.proofs.Opens.{CanOpen, can-open, opened, free-is, free-empty, unheld-few, capacity-few, room-kept, opened-entries, open-kept}
use Rattle.entry_ledger.proofs.ledger.EntryLedger.open_buffer.Goals as goal

pub nonzero_div-room : goal.nonzero_div-room
nonzero_div-room g c =
    omega (arith, (width-bounds c.args.width c.requires.width).0)

pub overflow_sub-room : goal.overflow_sub-room
overflow_sub-room g c =
    let some = some-capacity c.self.inside.shelves.words c.args.width c.requires.width c.self.invariant.some_words in
    let is : c.words.result / c.args.width ≡ c.self.inside.shelves.words / c.args.width = ap (λ n. n / c.args.width) c.words.ensures in
    omega (arith, some, is)

pub overflow_add-self-inside : goal.overflow_add-self-inside
overflow_add-self-inside g c =
    let s = c.self.inside in
    let k = c.self.invariant in
    let bits = g.row.OFFSET_BITS in
    let v : LedgerView = record { shelves = s.shelves; buffers = s.buffers; last = s.last; generation = s.generation; oldest = s.oldest; finished = s.finished } in
    let b = c.args.buffer in
    let w = c.args.width in
    let room_is : c.words.result / w - 1 ≡ capacity s.shelves.words w = ap (λ n. n / w - 1) c.words.ensures in
    omega (arith, unheld-few bits v s.held.held s.held.room s.unheld k, capacity-few bits v s.held.held s.held.room s.unheld k w, room_is)

pub reserve-requires : goal.reserve-requires
reserve-requires g c =
    omega arith

pub invariant_of-self : goal.invariant_of-self
invariant_of-self g c =
    let s = c.self.inside in
    let k = c.self.invariant in
    let bits = g.row.OFFSET_BITS in
    let v : LedgerView = record { shelves = s.shelves; buffers = s.buffers; last = s.last; generation = s.generation; oldest = s.oldest; finished = s.finished } in
    let b = c.args.buffer in
    let w = c.args.width in
    subst (λ (h : HeldList). AreEntries bits v h.held h.room s.unheld) (sym c.in_err-reserve.ensures.err) k

pub returns-in_err-reserve-clause-ok : goal.returns-in_err-reserve-clause-ok
returns-in_err-reserve-clause-ok g c =
    let p = err_from_is_err_and c.from_residual.result c.from_residual.ensures.1 in
    rw p.1 tt

pub returns-in_err-reserve-clause-err : goal.returns-in_err-reserve-clause-err
returns-in_err-reserve-clause-err g c =
    let p = err_from_is_err_and c.from_residual.result c.from_residual.ensures.1 in
    rw p.1 (ap (entries_of g.row.OFFSET_BITS) c.self.view_is)

pub returns-in_err-reserve-clause-good : goal.returns-in_err-reserve-clause-good
returns-in_err-reserve-clause-good g c =
    let s = c.self.inside in
    let k = c.self.invariant in
    let bits = g.row.OFFSET_BITS in
    let v : LedgerView = record { shelves = s.shelves; buffers = s.buffers; last = s.last; generation = s.generation; oldest = s.oldest; finished = s.finished } in
    let b = c.args.buffer in
    let w = c.args.width in
    good bits v s.held.held s.held.room s.unheld k

pub open-requires-clause-inside : goal.open-requires-clause-inside
open-requires-clause-inside g c =
    let s = c.self.inside in
    let k = c.self.invariant in
    let bits = g.row.OFFSET_BITS in
    let v : LedgerView = record { shelves = s.shelves; buffers = s.buffers; last = s.last; generation = s.generation; oldest = s.oldest; finished = s.finished } in
    let b = c.args.buffer in
    let w = c.args.width in
    let can : CanOpen v b w = can-open bits v c.args.self.now b w c.self.view_is c.requires.inside c.requires.free c.requires.width c.requires.spare in
    can.inside

pub open-requires-clause-empty : goal.open-requires-clause-empty
open-requires-clause-empty g c =
    let s = c.self.inside in
    let k = c.self.invariant in
    let bits = g.row.OFFSET_BITS in
    let v : LedgerView = record { shelves = s.shelves; buffers = s.buffers; last = s.last; generation = s.generation; oldest = s.oldest; finished = s.finished } in
    let b = c.args.buffer in
    let w = c.args.width in
    let can : CanOpen v b w = can-open bits v c.args.self.now b w c.self.view_is c.requires.inside c.requires.free c.requires.width c.requires.spare in
    free-empty bits v s.held.held s.held.room s.unheld k b can.free

pub open-requires-clause-width : goal.open-requires-clause-width
open-requires-clause-width g c =
    c.requires.width

pub open-requires-clause-words : goal.open-requires-clause-words
open-requires-clause-words g c =
    c.self.invariant.some_words

pub open-requires-clause-spare : goal.open-requires-clause-spare
open-requires-clause-spare g c =
    let s = c.self.inside in
    let k = c.self.invariant in
    let bits = g.row.OFFSET_BITS in
    let v : LedgerView = record { shelves = s.shelves; buffers = s.buffers; last = s.last; generation = s.generation; oldest = s.oldest; finished = s.finished } in
    let b = c.args.buffer in
    let w = c.args.width in
    let can : CanOpen v b w = can-open bits v c.args.self.now b w c.self.view_is c.requires.inside c.requires.free c.requires.width c.requires.spare in
    can.spare

pub invariant_of-self-in_err-open : goal.invariant_of-self-in_err-open
invariant_of-self-in_err-open g c =
    let s = c.self.inside in
    let k = c.self.invariant in
    let bits = g.row.OFFSET_BITS in
    let v : LedgerView = record { shelves = s.shelves; buffers = s.buffers; last = s.last; generation = s.generation; oldest = s.oldest; finished = s.finished } in
    let b = c.args.buffer in
    let w = c.args.width in
    subst (λ (u : ShelvesView). AreEntries bits (record v { shelves = u }) c.reserve.new.self.held c.reserve.new.self.room s.unheld) (sym c.in_err-open.ensures.err)
    (subst (λ (h : List HeldEntry). AreEntries bits v h c.reserve.new.self.room s.unheld) (sym c.in_ok-reserve.ensures.held)
    (room-kept bits v s.held.held s.held.room s.unheld k c.reserve.new.self.room c.in_ok-reserve.ensures.room))

pub returns-in_err-open-clause-ok : goal.returns-in_err-open-clause-ok
returns-in_err-open-clause-ok g c =
    let p = err_from_is_err_and c.from_residual-in_err-open.result c.from_residual-in_err-open.ensures.1 in
    rw p.1 tt

pub returns-in_err-open-clause-err : goal.returns-in_err-open-clause-err
returns-in_err-open-clause-err g c =
    let s = c.self.inside in
    let k = c.self.invariant in
    let bits = g.row.OFFSET_BITS in
    let v : LedgerView = record { shelves = s.shelves; buffers = s.buffers; last = s.last; generation = s.generation; oldest = s.oldest; finished = s.finished } in
    let b = c.args.buffer in
    let w = c.args.width in
    let p = err_from_is_err_and c.from_residual-in_err-open.result c.from_residual-in_err-open.ensures.1 in
    rw p.1 (ap (λ (u : ShelvesView). entries_of bits (record v { shelves = u })) c.in_err-open.ensures.err ∙ ap (entries_of bits) c.self.view_is)

pub returns-in_err-open-clause-good : goal.returns-in_err-open-clause-good
returns-in_err-open-clause-good g c =
    let s = c.self.inside in
    let k = c.self.invariant in
    let bits = g.row.OFFSET_BITS in
    let v : LedgerView = record { shelves = s.shelves; buffers = s.buffers; last = s.last; generation = s.generation; oldest = s.oldest; finished = s.finished } in
    let b = c.args.buffer in
    let w = c.args.width in
    subst (λ (u : ShelvesView). IsGood bits (entries_of bits (record v { shelves = u }))) (sym c.in_err-open.ensures.err) (good bits v s.held.held s.held.room s.unheld k)

pub overflow_add-self : goal.overflow_add-self
overflow_add-self g c =
    let s = c.self.inside in
    let k = c.self.invariant in
    let bits = g.row.OFFSET_BITS in
    let v : LedgerView = record { shelves = s.shelves; buffers = s.buffers; last = s.last; generation = s.generation; oldest = s.oldest; finished = s.finished } in
    let b = c.args.buffer in
    let w = c.args.width in
    let room_is : c.words.result / w - 1 ≡ capacity s.shelves.words w = ap (λ n. n / w - 1) c.words.ensures in
    omega (arith, unheld-few bits v s.held.held s.held.room s.unheld k, capacity-few bits v s.held.held s.held.room s.unheld k w, room_is)

pub activate-requires-clause-inside : goal.activate-requires-clause-inside
activate-requires-clause-inside g c =
    let s = c.self.inside in
    let k = c.self.invariant in
    let bits = g.row.OFFSET_BITS in
    let v : LedgerView = record { shelves = s.shelves; buffers = s.buffers; last = s.last; generation = s.generation; oldest = s.oldest; finished = s.finished } in
    let b = c.args.buffer in
    let w = c.args.width in
    let can : CanOpen v b w = can-open bits v c.args.self.now b w c.self.view_is c.requires.inside c.requires.free c.requires.width c.requires.spare in
    omega (arith, can.inside, k.count)

pub activate-requires-clause-free : goal.activate-requires-clause-free
activate-requires-clause-free g c =
    let s = c.self.inside in
    let k = c.self.invariant in
    let bits = g.row.OFFSET_BITS in
    let v : LedgerView = record { shelves = s.shelves; buffers = s.buffers; last = s.last; generation = s.generation; oldest = s.oldest; finished = s.finished } in
    let b = c.args.buffer in
    let w = c.args.width in
    let can : CanOpen v b w = can-open bits v c.args.self.now b w c.self.view_is c.requires.inside c.requires.free c.requires.width c.requires.spare in
    free-is (buffer_at s.buffers b).state can.free

pub activate-requires-clause-some : goal.activate-requires-clause-some
activate-requires-clause-some g c =
    omega (arith, (width-bounds c.args.width c.requires.width).0)

pub invariant_of-self-2 : goal.invariant_of-self-2
invariant_of-self-2 g c =
    let s = c.self.inside in
    let k = c.self.invariant in
    let bits = g.row.OFFSET_BITS in
    let v : LedgerView = record { shelves = s.shelves; buffers = s.buffers; last = s.last; generation = s.generation; oldest = s.oldest; finished = s.finished } in
    let b = c.args.buffer in
    let w = c.args.width in
    let can : CanOpen v b w = can-open bits v c.args.self.now b w c.self.view_is c.requires.inside c.requires.free c.requires.width c.requires.spare in
    let room_is : c.words.result / w - 1 ≡ capacity s.shelves.words w = ap (λ n. n / w - 1) c.words.ensures in
    let fits : s.unheld + capacity s.shelves.words w ≤ c.reserve.new.self.room = subst (λ n. s.unheld + n ≤ c.reserve.new.self.room) room_is c.in_ok-reserve.ensures.ok in
    let kept : AreEntries bits (opened v b w) c.reserve.new.self.held c.reserve.new.self.room (s.unheld + capacity s.shelves.words w) =
    subst (λ (h : List HeldEntry). AreEntries bits (opened v b w) h c.reserve.new.self.room (s.unheld + capacity s.shelves.words w)) (sym c.in_ok-reserve.ensures.held)
    (open-kept bits v s.held.held s.held.room s.unheld k b w can c.reserve.new.self.room fits) in
    subst (λ n. AreEntries bits (record v { shelves = c.open.new.self; buffers = c.activate.new.self }) c.reserve.new.self.held c.reserve.new.self.room (s.unheld + n)) (sym room_is)
    (subst (λ (bs : List Buffer). AreEntries bits (record v { shelves = c.open.new.self; buffers = bs }) c.reserve.new.self.held c.reserve.new.self.room (s.unheld + capacity s.shelves.words w)) (sym c.activate.ensures)
    (subst (λ (u : ShelvesView). AreEntries bits (record v { shelves = u; buffers = activated s.buffers b w }) c.reserve.new.self.held c.reserve.new.self.room (s.unheld + capacity s.shelves.words w))
    (sym c.in_ok-open.ensures.ok) kept))

pub returns-clause-ok : goal.returns-clause-ok
unfolding entries_of
returns-clause-ok g c =
    let s = c.self.inside in
    let k = c.self.invariant in
    let bits = g.row.OFFSET_BITS in
    let v : LedgerView = record { shelves = s.shelves; buffers = s.buffers; last = s.last; generation = s.generation; oldest = s.oldest; finished = s.finished } in
    let b = c.args.buffer in
    let w = c.args.width in
    let can : CanOpen v b w = can-open bits v c.args.self.now b w c.self.view_is c.requires.inside c.requires.free c.requires.width c.requires.spare in
    ap (λ (bs : List Buffer). entries_of bits (record v { shelves = c.open.new.self; buffers = bs })) c.activate.ensures
    ∙ ap (λ (u : ShelvesView). entries_of bits (record v { shelves = u; buffers = activated s.buffers b w })) c.in_ok-open.ensures.ok
    ∙ opened-entries bits v s.held.held s.held.room s.unheld k b w can ∙ ap (λ (u : LedgerView). opened_at (entries_of bits u) b w) c.self.view_is

pub returns-clause-good : goal.returns-clause-good
returns-clause-good g c =
    let s = c.self.inside in
    let k = c.self.invariant in
    let bits = g.row.OFFSET_BITS in
    let v : LedgerView = record { shelves = s.shelves; buffers = s.buffers; last = s.last; generation = s.generation; oldest = s.oldest; finished = s.finished } in
    let b = c.args.buffer in
    let w = c.args.width in
    let can : CanOpen v b w = can-open bits v c.args.self.now b w c.self.view_is c.requires.inside c.requires.free c.requires.width c.requires.spare in
    let room_is : c.words.result / w - 1 ≡ capacity s.shelves.words w = ap (λ n. n / w - 1) c.words.ensures in
    let fits : s.unheld + capacity s.shelves.words w ≤ c.reserve.new.self.room = subst (λ n. s.unheld + n ≤ c.reserve.new.self.room) room_is c.in_ok-reserve.ensures.ok in
    let kept : AreEntries bits (opened v b w) c.reserve.new.self.held c.reserve.new.self.room (s.unheld + capacity s.shelves.words w) =
    subst (λ (h : List HeldEntry). AreEntries bits (opened v b w) h c.reserve.new.self.room (s.unheld + capacity s.shelves.words w)) (sym c.in_ok-reserve.ensures.held)
    (open-kept bits v s.held.held s.held.room s.unheld k b w can c.reserve.new.self.room fits) in
    subst (λ (bs : List Buffer). IsGood bits (entries_of bits (record v { shelves = c.open.new.self; buffers = bs }))) (sym c.activate.ensures)
    (subst (λ (u : ShelvesView). IsGood bits (entries_of bits (record v { shelves = u; buffers = activated s.buffers b w }))) (sym c.in_ok-open.ensures.ok)
    (good bits (opened v b w) c.reserve.new.self.held c.reserve.new.self.room (s.unheld + capacity s.shelves.words w) kept))
