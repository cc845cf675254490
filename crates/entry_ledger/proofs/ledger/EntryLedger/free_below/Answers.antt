use Rattle.std.proofs.Common.{◌≡◌, List, sym, subst, arith}
use Rattle.std.specs.List.{find}
use Rattle.buffer_states.specs.declared.Buffer.{Buffer}
use Rattle.hold_lists.specs.Held.{HeldList, is_below}
use Rattle.entry_ledger.specs.Calls.{Frees}
use Rattle.entry_ledger.specs.Ledgers.{LedgerView, entries_of, AreEntries}
use Rattle.entry_ledger.proofs.Good.{good}
use Rattle.entry_ledger.proofs.Pops.{unnamed}
use Rattle.entry_ledger.proofs.Releases.{Freeing, freeing-start}
use Rattle.entry_ledger.proofs.Emptying.{IsEmptying, emptying-generation, empty-can, empty-less, empty-next}
use Rattle.entry_ledger.proofs.Frees.{freed-kept, freed-frees}
use Rattle.entry_ledger.proofs.ledger.EntryLedger.free_below.Goals as goal

pub loop-entry-init : goal.loop-entry-init
loop-entry-init g c =
    let s = c.self.inside in
    let v : LedgerView = record { shelves = s.shelves; buffers = s.buffers; last = s.last; generation = s.generation; oldest = s.oldest; finished = s.finished } in
    record {
      kept = c.self.invariant;
      far = subst (λ (u : LedgerView). Freeing c.args.oldest (entries_of g.row.OFFSET_BITS u) (entries_of g.row.OFFSET_BITS v)) c.self.view_is (freeing-start c.args.oldest (entries_of g.row.OFFSET_BITS v));
    }

pub pop_below-requires : goal.pop_below-requires
pop_below-requires g c = (omega arith, omega arith)

pub release-self-inside-requires : goal.release-self-inside-requires
release-self-inside-requires g c =
    let s = c.loop-entry.self-inside in
    let v : LedgerView = record { shelves = s.shelves; buffers = s.buffers; last = s.last; generation = s.generation; oldest = s.oldest; finished = s.finished } in
    (omega arith, empty-can g.row.OFFSET_BITS c.args.oldest (entries_of g.row.OFFSET_BITS c.args.self.now) v s.held s.unheld c.loop-entry.invariant c.in-Some.entry c.in-Some.ensures.first)

pub loop-entry-smaller : goal.loop-entry-smaller
loop-entry-smaller g c =
    let s = c.loop-entry.self-inside in
    let v : LedgerView = record { shelves = s.shelves; buffers = s.buffers; last = s.last; generation = s.generation; oldest = s.oldest; finished = s.finished } in
    empty-less g.row.OFFSET_BITS c.args.oldest (entries_of g.row.OFFSET_BITS c.args.self.now) v s.held s.unheld c.loop-entry.invariant c.in-Some.entry c.in-Some.ensures.first
    c.pop_below.new.self c.in-Some.ensures.rest

pub loop-entry-preserved : goal.loop-entry-preserved
loop-entry-preserved g c =
    let s = c.loop-entry.self-inside in
    let v : LedgerView = record { shelves = s.shelves; buffers = s.buffers; last = s.last; generation = s.generation; oldest = s.oldest; finished = s.finished } in
    empty-next g.row.OFFSET_BITS c.args.oldest (entries_of g.row.OFFSET_BITS c.args.self.now) v s.held s.unheld c.loop-entry.invariant c.in-Some.entry c.in-Some.ensures.first
    c.pop_below.new.self c.in-Some.ensures.rest c.release-self-inside.new.shelves c.release-self-inside.new.buffers c.release-self-inside.result
    c.release-self-inside.ensures.free c.release-self-inside.ensures.gone

pub invariant_of-self : goal.invariant_of-self
unfolding entries_of
invariant_of-self g c =
    let s = c.loop-entry.self-inside in
    let bits = g.row.OFFSET_BITS in
    let v : LedgerView = record { shelves = s.shelves; buffers = s.buffers; last = s.last; generation = s.generation; oldest = s.oldest; finished = s.finished } in
    let k : IsEmptying bits c.args.oldest (entries_of bits c.args.self.now) v s.held s.unheld = c.loop-entry.invariant in
    let generation : v.generation ≡ c.args.self.now.generation = emptying-generation bits c.args.oldest (entries_of bits c.args.self.now) v s.held s.unheld k in
    subst (λ (h : HeldList). AreEntries bits (record v { buffers = c.free_below.new.self; oldest = c.args.oldest }) h.held h.room s.unheld) (sym c.in_default.ensures.left)
    (subst (λ (bs : List Buffer). AreEntries bits (record v { buffers = bs; oldest = c.args.oldest }) s.held.held s.held.room s.unheld) (sym c.free_below.ensures)
    (freed-kept bits v s.held.held s.held.room s.unheld k.kept c.args.oldest (unnamed (find (is_below c.args.oldest) s.held.held) c.in_default.ensures.first)
    (let current = c.requires.current in omega (arith, current, generation))))

pub returns-clause-frees : goal.returns-clause-frees
unfolding entries_of
returns-clause-frees g c =
    let s = c.loop-entry.self-inside in
    let bits = g.row.OFFSET_BITS in
    let v : LedgerView = record { shelves = s.shelves; buffers = s.buffers; last = s.last; generation = s.generation; oldest = s.oldest; finished = s.finished } in
    let k : IsEmptying bits c.args.oldest (entries_of bits c.args.self.now) v s.held s.unheld = c.loop-entry.invariant in
    let generation : v.generation ≡ c.args.self.now.generation = emptying-generation bits c.args.oldest (entries_of bits c.args.self.now) v s.held s.unheld k in
    subst (λ (bs : List Buffer). Frees (entries_of bits c.args.self.now) (entries_of bits (record v { buffers = bs; oldest = c.args.oldest })) c.args.oldest) (sym c.free_below.ensures)
    (freed-frees bits v s.held.held s.held.room s.unheld k.kept c.args.oldest (unnamed (find (is_below c.args.oldest) s.held.held) c.in_default.ensures.first)
    (let current = c.requires.current in omega (arith, current, generation)) (entries_of bits c.args.self.now) k.far)

pub returns-clause-good : goal.returns-clause-good
unfolding entries_of
returns-clause-good g c =
    let s = c.loop-entry.self-inside in
    let bits = g.row.OFFSET_BITS in
    let v : LedgerView = record { shelves = s.shelves; buffers = s.buffers; last = s.last; generation = s.generation; oldest = s.oldest; finished = s.finished } in
    let k : IsEmptying bits c.args.oldest (entries_of bits c.args.self.now) v s.held s.unheld = c.loop-entry.invariant in
    let generation : v.generation ≡ c.args.self.now.generation = emptying-generation bits c.args.oldest (entries_of bits c.args.self.now) v s.held s.unheld k in
    good bits (record v { buffers = c.free_below.new.self; oldest = c.args.oldest }) s.held.held s.held.room s.unheld
    (subst (λ (bs : List Buffer). AreEntries bits (record v { buffers = bs; oldest = c.args.oldest }) s.held.held s.held.room s.unheld) (sym c.free_below.ensures)
    (freed-kept bits v s.held.held s.held.room s.unheld k.kept c.args.oldest (unnamed (find (is_below c.args.oldest) s.held.held) c.in_default.ensures.first)
    (let current = c.requires.current in omega (arith, current, generation))))
