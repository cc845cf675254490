use Rattle.std.proofs.Common.{◌≡◌, ◌+◌, ◌-◌, true, List, Some, slice_set, sym, ap, subst, ◌∙◌, arith}
use Rattle.list_lemmas.proofs.Options.{same_Some}
use Rattle.entry_ref.specs.References.{buffer_of, offset_of, packed}
use Rattle.entry_ref.proofs.Bits.{packed-same}
use Rattle.buffer_states.specs.declared.Buffer.{Buffer}
use Rattle.buffer_states.specs.Buffers.{buffer_at}
use Rattle.entry_ledger.specs.declared.state.State.{State}
use Rattle.entry_ledger.specs.States.{state_at, dropped, with_state_at}
use Rattle.entry_ledger.specs.Shelves.{ShelvesView, shelf_at, with_shelf}
use Rattle.entry_ledger.specs.Entries.{is_used_entry}
use Rattle.entry_ledger.specs.Calls.{Drops}
use Rattle.entry_ledger.specs.Ledgers.{LedgerView, entries_of, state_in, dropped_buffer, AreEntries}
use Rattle.entry_ledger.proofs.Good.{good, used-inside}
use Rattle.entry_ledger.proofs.Drops.{used-place, dead-fits, dropped-fits, drop-kept, drop-drops}
use Rattle.entry_ledger.proofs.ledger.EntryLedger.drop_entry.Goals as goal

pub buffer-buffer-requires : goal.buffer-buffer-requires
buffer-buffer-requires g c = omega arith

pub offset-requires : goal.offset-requires
offset-requires g c = omega arith

pub overflow_sub-offset : goal.overflow_sub-offset
unfolding entries_of
overflow_sub-offset g c =
    let s = c.self.inside in
    let k = c.self.invariant in
    let bits = g.row.OFFSET_BITS in
    let v : LedgerView = record { shelves = s.shelves; buffers = s.buffers; last = s.last; generation = s.generation; oldest = s.oldest; finished = s.finished } in
    let xs = s.shelves.shelves in
    let b = c.buffer-buffer.result in
    let o = c.offset.result in
    let given : is_used_entry (state_in (shelf_at xs (buffer_of bits c.args.entry)) (offset_of bits c.args.entry)) ≡ true =
    subst (λ (u : LedgerView). is_used_entry (state_in (shelf_at u.shelves.shelves (buffer_of bits c.args.entry)) (offset_of bits c.args.entry)) ≡ true) (sym c.self.view_is) c.requires.used in
    let place = used-place (shelf_at xs b) o (ap (λ n. is_used_entry (state_in (shelf_at xs n) o)) c.buffer-buffer.ensures.value
    ∙ ap (λ n. is_used_entry (state_in (shelf_at xs (buffer_of bits c.args.entry)) n)) c.offset.ensures.value ∙ given) in
    place.first

pub drop_entry-now-requires-clause-inside : goal.drop_entry-now-requires-clause-inside
unfolding entries_of
drop_entry-now-requires-clause-inside g c =
    let s = c.self.inside in
    let k = c.self.invariant in
    let bits = g.row.OFFSET_BITS in
    let v : LedgerView = record { shelves = s.shelves; buffers = s.buffers; last = s.last; generation = s.generation; oldest = s.oldest; finished = s.finished } in
    let xs = s.shelves.shelves in
    let b = c.buffer-buffer.result in
    let o = c.offset.result in
    let given : is_used_entry (state_in (shelf_at xs (buffer_of bits c.args.entry)) (offset_of bits c.args.entry)) ≡ true =
    subst (λ (u : LedgerView). is_used_entry (state_in (shelf_at u.shelves.shelves (buffer_of bits c.args.entry)) (offset_of bits c.args.entry)) ≡ true) (sym c.self.view_is) c.requires.used in
    let place = used-place (shelf_at xs b) o (ap (λ n. is_used_entry (state_in (shelf_at xs n) o)) c.buffer-buffer.ensures.value
    ∙ ap (λ n. is_used_entry (state_in (shelf_at xs (buffer_of bits c.args.entry)) n)) c.offset.ensures.value ∙ given) in
    let h = used-inside bits v s.held.held s.held.room s.unheld k b (o - 1) place.there in
    h

pub drop_entry-now-requires-clause-there : goal.drop_entry-now-requires-clause-there
unfolding entries_of
drop_entry-now-requires-clause-there g c =
    let s = c.self.inside in
    let k = c.self.invariant in
    let bits = g.row.OFFSET_BITS in
    let v : LedgerView = record { shelves = s.shelves; buffers = s.buffers; last = s.last; generation = s.generation; oldest = s.oldest; finished = s.finished } in
    let xs = s.shelves.shelves in
    let b = c.buffer-buffer.result in
    let o = c.offset.result in
    let given : is_used_entry (state_in (shelf_at xs (buffer_of bits c.args.entry)) (offset_of bits c.args.entry)) ≡ true =
    subst (λ (u : LedgerView). is_used_entry (state_in (shelf_at u.shelves.shelves (buffer_of bits c.args.entry)) (offset_of bits c.args.entry)) ≡ true) (sym c.self.view_is) c.requires.used in
    let place = used-place (shelf_at xs b) o (ap (λ n. is_used_entry (state_in (shelf_at xs n) o)) c.buffer-buffer.ensures.value
    ∙ ap (λ n. is_used_entry (state_in (shelf_at xs (buffer_of bits c.args.entry)) n)) c.offset.ensures.value ∙ given) in
    place.there

pub drop_entry-now-requires-clause-used : goal.drop_entry-now-requires-clause-used
unfolding entries_of
drop_entry-now-requires-clause-used g c =
    let s = c.self.inside in
    let k = c.self.invariant in
    let bits = g.row.OFFSET_BITS in
    let v : LedgerView = record { shelves = s.shelves; buffers = s.buffers; last = s.last; generation = s.generation; oldest = s.oldest; finished = s.finished } in
    let xs = s.shelves.shelves in
    let b = c.buffer-buffer.result in
    let o = c.offset.result in
    let given : is_used_entry (state_in (shelf_at xs (buffer_of bits c.args.entry)) (offset_of bits c.args.entry)) ≡ true =
    subst (λ (u : LedgerView). is_used_entry (state_in (shelf_at u.shelves.shelves (buffer_of bits c.args.entry)) (offset_of bits c.args.entry)) ≡ true) (sym c.self.view_is) c.requires.used in
    let place = used-place (shelf_at xs b) o (ap (λ n. is_used_entry (state_in (shelf_at xs n) o)) c.buffer-buffer.ensures.value
    ∙ ap (λ n. is_used_entry (state_in (shelf_at xs (buffer_of bits c.args.entry)) n)) c.offset.ensures.value ∙ given) in
    place.used

pub count_drop-requires-clause-inside : goal.count_drop-requires-clause-inside
unfolding entries_of
count_drop-requires-clause-inside g c =
    let s = c.self.inside in
    let k = c.self.invariant in
    let bits = g.row.OFFSET_BITS in
    let v : LedgerView = record { shelves = s.shelves; buffers = s.buffers; last = s.last; generation = s.generation; oldest = s.oldest; finished = s.finished } in
    let xs = s.shelves.shelves in
    let b = c.buffer-buffer.result in
    let o = c.offset.result in
    let given : is_used_entry (state_in (shelf_at xs (buffer_of bits c.args.entry)) (offset_of bits c.args.entry)) ≡ true =
    subst (λ (u : LedgerView). is_used_entry (state_in (shelf_at u.shelves.shelves (buffer_of bits c.args.entry)) (offset_of bits c.args.entry)) ≡ true) (sym c.self.view_is) c.requires.used in
    let place = used-place (shelf_at xs b) o (ap (λ n. is_used_entry (state_in (shelf_at xs n) o)) c.buffer-buffer.ensures.value
    ∙ ap (λ n. is_used_entry (state_in (shelf_at xs (buffer_of bits c.args.entry)) n)) c.offset.ensures.value ∙ given) in
    let h = used-inside bits v s.held.held s.held.room s.unheld k b (o - 1) place.there in
    omega (arith, h, k.count)

pub count_drop-requires-clause-dead : goal.count_drop-requires-clause-dead
unfolding entries_of
count_drop-requires-clause-dead g c =
    let s = c.self.inside in
    let k = c.self.invariant in
    let bits = g.row.OFFSET_BITS in
    let v : LedgerView = record { shelves = s.shelves; buffers = s.buffers; last = s.last; generation = s.generation; oldest = s.oldest; finished = s.finished } in
    let xs = s.shelves.shelves in
    let b = c.buffer-buffer.result in
    let o = c.offset.result in
    let given : is_used_entry (state_in (shelf_at xs (buffer_of bits c.args.entry)) (offset_of bits c.args.entry)) ≡ true =
    subst (λ (u : LedgerView). is_used_entry (state_in (shelf_at u.shelves.shelves (buffer_of bits c.args.entry)) (offset_of bits c.args.entry)) ≡ true) (sym c.self.view_is) c.requires.used in
    let place = used-place (shelf_at xs b) o (ap (λ n. is_used_entry (state_in (shelf_at xs n) o)) c.buffer-buffer.ensures.value
    ∙ ap (λ n. is_used_entry (state_in (shelf_at xs (buffer_of bits c.args.entry)) n)) c.offset.ensures.value ∙ given) in
    let h = used-inside bits v s.held.held s.held.room s.unheld k b (o - 1) place.there in
    dead-fits bits v s.held.held s.held.room s.unheld k b o h place

pub count_drop-requires-clause-dropped : goal.count_drop-requires-clause-dropped
unfolding entries_of
count_drop-requires-clause-dropped g c =
    let s = c.self.inside in
    let k = c.self.invariant in
    let bits = g.row.OFFSET_BITS in
    let v : LedgerView = record { shelves = s.shelves; buffers = s.buffers; last = s.last; generation = s.generation; oldest = s.oldest; finished = s.finished } in
    let xs = s.shelves.shelves in
    let b = c.buffer-buffer.result in
    let o = c.offset.result in
    let given : is_used_entry (state_in (shelf_at xs (buffer_of bits c.args.entry)) (offset_of bits c.args.entry)) ≡ true =
    subst (λ (u : LedgerView). is_used_entry (state_in (shelf_at u.shelves.shelves (buffer_of bits c.args.entry)) (offset_of bits c.args.entry)) ≡ true) (sym c.self.view_is) c.requires.used in
    let place = used-place (shelf_at xs b) o (ap (λ n. is_used_entry (state_in (shelf_at xs n) o)) c.buffer-buffer.ensures.value
    ∙ ap (λ n. is_used_entry (state_in (shelf_at xs (buffer_of bits c.args.entry)) n)) c.offset.ensures.value ∙ given) in
    let h = used-inside bits v s.held.held s.held.room s.unheld k b (o - 1) place.there in
    dropped-fits bits v s.held.held s.held.room s.unheld k b o h place

pub invariant_of-self : goal.invariant_of-self
unfolding entries_of
invariant_of-self g c =
    let s = c.self.inside in
    let k = c.self.invariant in
    let bits = g.row.OFFSET_BITS in
    let v : LedgerView = record { shelves = s.shelves; buffers = s.buffers; last = s.last; generation = s.generation; oldest = s.oldest; finished = s.finished } in
    let xs = s.shelves.shelves in
    let b = c.buffer-buffer.result in
    let o = c.offset.result in
    let given : is_used_entry (state_in (shelf_at xs (buffer_of bits c.args.entry)) (offset_of bits c.args.entry)) ≡ true =
    subst (λ (u : LedgerView). is_used_entry (state_in (shelf_at u.shelves.shelves (buffer_of bits c.args.entry)) (offset_of bits c.args.entry)) ≡ true) (sym c.self.view_is) c.requires.used in
    let place = used-place (shelf_at xs b) o (ap (λ n. is_used_entry (state_in (shelf_at xs n) o)) c.buffer-buffer.ensures.value
    ∙ ap (λ n. is_used_entry (state_in (shelf_at xs (buffer_of bits c.args.entry)) n)) c.offset.ensures.value ∙ given) in
    let h = used-inside bits v s.held.held s.held.room s.unheld k b (o - 1) place.there in
    let bufs : c.count_drop.new.buffers ≡ slice_set s.buffers b (dropped_buffer (dropped s.last (state_at (shelf_at xs b).states (o - 1))) (buffer_at s.buffers b)) =
    c.count_drop.ensures ∙ ap (λ (t : State). slice_set s.buffers b (dropped_buffer t (buffer_at s.buffers b))) c.drop_entry-now.ensures.now in
    subst (λ (u : ShelvesView). AreEntries bits (record v { shelves = u; buffers = c.count_drop.new.buffers }) s.held.held s.held.room s.unheld) (sym c.drop_entry-now.ensures.dropped)
    (subst (λ (bs : List Buffer). AreEntries bits (record v { shelves = with_shelf s.shelves b (with_state_at (shelf_at xs b) (o - 1) (dropped s.last (state_at (shelf_at xs b).states (o - 1)))); buffers = bs })
    s.held.held s.held.room s.unheld) (sym bufs)
    (drop-kept bits v s.held.held s.held.room s.unheld k b o h place))

pub returns-clause-good : goal.returns-clause-good
unfolding entries_of
returns-clause-good g c =
    let s = c.self.inside in
    let k = c.self.invariant in
    let bits = g.row.OFFSET_BITS in
    let v : LedgerView = record { shelves = s.shelves; buffers = s.buffers; last = s.last; generation = s.generation; oldest = s.oldest; finished = s.finished } in
    let xs = s.shelves.shelves in
    let b = c.buffer-buffer.result in
    let o = c.offset.result in
    let given : is_used_entry (state_in (shelf_at xs (buffer_of bits c.args.entry)) (offset_of bits c.args.entry)) ≡ true =
    subst (λ (u : LedgerView). is_used_entry (state_in (shelf_at u.shelves.shelves (buffer_of bits c.args.entry)) (offset_of bits c.args.entry)) ≡ true) (sym c.self.view_is) c.requires.used in
    let place = used-place (shelf_at xs b) o (ap (λ n. is_used_entry (state_in (shelf_at xs n) o)) c.buffer-buffer.ensures.value
    ∙ ap (λ n. is_used_entry (state_in (shelf_at xs (buffer_of bits c.args.entry)) n)) c.offset.ensures.value ∙ given) in
    let h = used-inside bits v s.held.held s.held.room s.unheld k b (o - 1) place.there in
    let bufs : c.count_drop.new.buffers ≡ slice_set s.buffers b (dropped_buffer (dropped s.last (state_at (shelf_at xs b).states (o - 1))) (buffer_at s.buffers b)) =
    c.count_drop.ensures ∙ ap (λ (t : State). slice_set s.buffers b (dropped_buffer t (buffer_at s.buffers b))) c.drop_entry-now.ensures.now in
    good bits (record v { shelves = c.drop_entry-now.new.self; buffers = c.count_drop.new.buffers }) s.held.held s.held.room s.unheld
    (subst (λ (u : ShelvesView). AreEntries bits (record v { shelves = u; buffers = c.count_drop.new.buffers }) s.held.held s.held.room s.unheld) (sym c.drop_entry-now.ensures.dropped)
    (subst (λ (bs : List Buffer). AreEntries bits (record v { shelves = with_shelf s.shelves b (with_state_at (shelf_at xs b) (o - 1) (dropped s.last (state_at (shelf_at xs b).states (o - 1)))); buffers = bs })
    s.held.held s.held.room s.unheld) (sym bufs)
    (drop-kept bits v s.held.held s.held.room s.unheld k b o h place)))

pub returns-clause-drops : goal.returns-clause-drops
unfolding entries_of
returns-clause-drops g c =
    let s = c.self.inside in
    let k = c.self.invariant in
    let bits = g.row.OFFSET_BITS in
    let v : LedgerView = record { shelves = s.shelves; buffers = s.buffers; last = s.last; generation = s.generation; oldest = s.oldest; finished = s.finished } in
    let xs = s.shelves.shelves in
    let b = c.buffer-buffer.result in
    let o = c.offset.result in
    let given : is_used_entry (state_in (shelf_at xs (buffer_of bits c.args.entry)) (offset_of bits c.args.entry)) ≡ true =
    subst (λ (u : LedgerView). is_used_entry (state_in (shelf_at u.shelves.shelves (buffer_of bits c.args.entry)) (offset_of bits c.args.entry)) ≡ true) (sym c.self.view_is) c.requires.used in
    let place = used-place (shelf_at xs b) o (ap (λ n. is_used_entry (state_in (shelf_at xs n) o)) c.buffer-buffer.ensures.value
    ∙ ap (λ n. is_used_entry (state_in (shelf_at xs (buffer_of bits c.args.entry)) n)) c.offset.ensures.value ∙ given) in
    let h = used-inside bits v s.held.held s.held.room s.unheld k b (o - 1) place.there in
    let bufs : c.count_drop.new.buffers ≡ slice_set s.buffers b (dropped_buffer (dropped s.last (state_at (shelf_at xs b).states (o - 1))) (buffer_at s.buffers b)) =
    c.count_drop.ensures ∙ ap (λ (t : State). slice_set s.buffers b (dropped_buffer t (buffer_at s.buffers b))) c.drop_entry-now.ensures.now in
    λ st is.
    (let r : packed bits (o - 1 + 1) b ≡ c.args.entry =
    (let next : o - 1 + 1 ≡ o = (let first = place.first in omega (arith, first)) in
    ap (λ n. packed bits n b) (next ∙ c.offset.ensures.value) ∙ ap (packed bits (offset_of bits c.args.entry)) c.buffer-buffer.ensures.value ∙ packed-same bits c.args.entry) in
    let here : state_in (shelf_at xs (buffer_of bits c.args.entry)) (offset_of bits c.args.entry) ≡ Some st =
    subst (λ (u : LedgerView). state_in (shelf_at u.shelves.shelves (buffer_of bits c.args.entry)) (offset_of bits c.args.entry) ≡ Some st) (sym c.self.view_is) is in
    let same : state_at (shelf_at xs b).states (o - 1) ≡ st =
    same_Some _ _ (sym place.is ∙ ap (λ n. state_in (shelf_at xs n) o) c.buffer-buffer.ensures.value ∙ ap (state_in (shelf_at xs (buffer_of bits c.args.entry))) c.offset.ensures.value ∙ here) in
    let base = drop-drops bits v s.held.held s.held.room s.unheld k b o h place in
    subst (λ (u : LedgerView). Drops (entries_of bits u) (entries_of bits (record v { shelves = c.drop_entry-now.new.self; buffers = c.count_drop.new.buffers })) c.args.entry st) c.self.view_is
    (subst (λ t. Drops (entries_of bits v) (entries_of bits (record v { shelves = c.drop_entry-now.new.self; buffers = c.count_drop.new.buffers })) c.args.entry t) same
    (subst (λ n. Drops (entries_of bits v) (entries_of bits (record v { shelves = c.drop_entry-now.new.self; buffers = c.count_drop.new.buffers })) n (state_at (shelf_at xs b).states (o - 1))) r
    (subst (λ (u : ShelvesView). Drops (entries_of bits v) (entries_of bits (record v { shelves = u; buffers = c.count_drop.new.buffers })) (packed bits (o - 1 + 1) b) (state_at (shelf_at xs b).states (o - 1)))
    (sym c.drop_entry-now.ensures.dropped)
    (subst (λ (bs : List Buffer). Drops (entries_of bits v) (entries_of bits
    (record v { shelves = with_shelf s.shelves b (with_state_at (shelf_at xs b) (o - 1) (dropped s.last (state_at (shelf_at xs b).states (o - 1)))); buffers = bs }))
    (packed bits (o - 1 + 1) b) (state_at (shelf_at xs b).states (o - 1))) (sym bufs) base)))))
