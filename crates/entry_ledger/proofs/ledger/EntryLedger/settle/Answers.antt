use Rattle.std.proofs.Common.{sym, ap, subst, ◌∙◌, arith}
use Rattle.entry_ledger.specs.Shelves.{ShelvesView}
use Rattle.entry_ledger.specs.Entries.{IsGood}
use Rattle.entry_ledger.specs.Calls.{StepsEnd, IsEnded}
use Rattle.entry_ledger.specs.Ledgers.{LedgerView, entries_of, touched_total, AreEntries}
use Rattle.entry_ledger.proofs.Good.{good}
use Rattle.entry_ledger.proofs.Stepping.{settle-ended, step-inside, step-low, step-small, step-offset, step-given, step-falls, step-unheld, step-room, step-steps, step-less, step-kept}
use Rattle.entry_ledger.proofs.ledger.EntryLedger.settle.Goals as goal

pub invariant_of-self : goal.invariant_of-self
invariant_of-self g c =
    let s = c.self.inside in
    let v : LedgerView = record { shelves = s.shelves; buffers = s.buffers; last = s.last; generation = s.generation; oldest = s.oldest; finished = s.finished } in
    subst (λ (u : ShelvesView). AreEntries g.row.OFFSET_BITS (record v { shelves = u }) s.held.held s.held.room s.unheld) (sym c.in_default.ensures.left) c.self.invariant

pub returns-in_default-clause-ended : goal.returns-in_default-clause-ended
unfolding entries_of
returns-in_default-clause-ended g c e =
    let s = c.self.inside in
    let v : LedgerView = record { shelves = s.shelves; buffers = s.buffers; last = s.last; generation = s.generation; oldest = s.oldest; finished = s.finished } in
    subst (λ (u : LedgerView). IsEnded (entries_of g.row.OFFSET_BITS u)) c.self.view_is (settle-ended g.row.OFFSET_BITS v c.in_default.ensures.none)

pub returns-in_default-clause-left : goal.returns-in_default-clause-left
returns-in_default-clause-left g c e =
    let s = c.self.inside in
    let v : LedgerView = record { shelves = s.shelves; buffers = s.buffers; last = s.last; generation = s.generation; oldest = s.oldest; finished = s.finished } in
    ap (λ (u : ShelvesView). record v { shelves = u }) c.in_default.ensures.left ∙ c.self.view_is

pub returns-in_default-clause-step : goal.returns-in_default-clause-step
returns-in_default-clause-step g c e = absurd (cc)

pub returns-in_default-clause-less : goal.returns-in_default-clause-less
returns-in_default-clause-less g c e = absurd (cc)

pub returns-in_default-clause-good : goal.returns-in_default-clause-good
returns-in_default-clause-good g c =
    let s = c.self.inside in
    let v : LedgerView = record { shelves = s.shelves; buffers = s.buffers; last = s.last; generation = s.generation; oldest = s.oldest; finished = s.finished } in
    subst (λ (u : ShelvesView). IsGood g.row.OFFSET_BITS (entries_of g.row.OFFSET_BITS (record v { shelves = u }))) (sym c.in_default.ensures.left)
    (good g.row.OFFSET_BITS v s.held.held s.held.room s.unheld c.self.invariant)

pub count_settled-requires-clause-inside : goal.count_settled-requires-clause-inside
count_settled-requires-clause-inside g c =
    let s = c.self.inside in
    let v : LedgerView = record { shelves = s.shelves; buffers = s.buffers; last = s.last; generation = s.generation; oldest = s.oldest; finished = s.finished } in
    step-inside g.row.OFFSET_BITS v s.held.held s.held.room s.unheld c.self.invariant c.args.accepts c.settle.new.self c.in-Some.entry c.in-Some.ensures.settled

pub count_settled-requires-clause-given : goal.count_settled-requires-clause-given
count_settled-requires-clause-given g c =
    let s = c.self.inside in
    let v : LedgerView = record { shelves = s.shelves; buffers = s.buffers; last = s.last; generation = s.generation; oldest = s.oldest; finished = s.finished } in
    step-given g.row.OFFSET_BITS v s.held.held s.held.room s.unheld c.self.invariant c.args.accepts c.settle.new.self c.in-Some.entry c.in-Some.ensures.settled

pub count_settled-requires-clause-dead : goal.count_settled-requires-clause-dead
count_settled-requires-clause-dead g c e is =
    let s = c.self.inside in
    let v : LedgerView = record { shelves = s.shelves; buffers = s.buffers; last = s.last; generation = s.generation; oldest = s.oldest; finished = s.finished } in
    (step-falls g.row.OFFSET_BITS v s.held.held s.held.room s.unheld c.self.invariant c.args.accepts c.settle.new.self c.in-Some.entry c.in-Some.ensures.settled is).0

pub count_settled-requires-clause-dropped : goal.count_settled-requires-clause-dropped
count_settled-requires-clause-dropped g c e is =
    let s = c.self.inside in
    let v : LedgerView = record { shelves = s.shelves; buffers = s.buffers; last = s.last; generation = s.generation; oldest = s.oldest; finished = s.finished } in
    (step-falls g.row.OFFSET_BITS v s.held.held s.held.room s.unheld c.self.invariant c.args.accepts c.settle.new.self c.in-Some.entry c.in-Some.ensures.settled is).1

pub overflow_add-entry : goal.overflow_add-entry
overflow_add-entry g c =
    let s = c.self.inside in
    let v : LedgerView = record { shelves = s.shelves; buffers = s.buffers; last = s.last; generation = s.generation; oldest = s.oldest; finished = s.finished } in
    omega (arith, step-small g.row.OFFSET_BITS v s.held.held s.held.room s.unheld c.self.invariant c.args.accepts c.settle.new.self c.in-Some.entry c.in-Some.ensures.settled)

pub new-reference-requires : goal.new-reference-requires
new-reference-requires g c =
    let s = c.self.inside in
    let v : LedgerView = record { shelves = s.shelves; buffers = s.buffers; last = s.last; generation = s.generation; oldest = s.oldest; finished = s.finished } in (
      omega arith,
      (
        step-offset g.row.OFFSET_BITS v s.held.held s.held.room s.unheld c.self.invariant c.args.accepts c.settle.new.self c.in-Some.entry c.in-Some.ensures.settled,
        step-low g.row.OFFSET_BITS v s.held.held s.held.room s.unheld c.self.invariant c.args.accepts c.settle.new.self c.in-Some.entry c.in-Some.ensures.settled,
      ),
    )

pub hold-requires : goal.hold-requires
hold-requires g c =
    let s = c.self.inside in
    let v : LedgerView = record { shelves = s.shelves; buffers = s.buffers; last = s.last; generation = s.generation; oldest = s.oldest; finished = s.finished } in (
      omega arith,
      (
        omega arith,
        (
          λ e. step-room g.row.OFFSET_BITS v s.held.held s.held.room s.unheld c.self.invariant c.args.accepts c.settle.new.self c.in-Some.entry c.in-Some.ensures.settled,
          λ e. step-unheld g.row.OFFSET_BITS v s.held.held s.held.room s.unheld c.self.invariant c.args.accepts c.settle.new.self c.in-Some.entry c.in-Some.ensures.settled,
        ),
      ),
    )

pub invariant_of-self-2 : goal.invariant_of-self-2
invariant_of-self-2 g c =
    let s = c.self.inside in
    let v : LedgerView = record { shelves = s.shelves; buffers = s.buffers; last = s.last; generation = s.generation; oldest = s.oldest; finished = s.finished } in
    step-kept g.row.OFFSET_BITS v s.held.held s.held.room s.unheld c.self.invariant c.args.accepts c.settle.new.self c.in-Some.entry c.in-Some.ensures.settled
    c.count_settled.new.buffers c.count_settled.ensures c.hold.new.held c.hold.new.unheld c.new-reference.result c.is_dropped_now.result c.is_dropped_now.ensures c.new-reference.ensures
    c.hold.ensures.held c.hold.ensures.unheld

pub returns-clause-ended : goal.returns-clause-ended
returns-clause-ended g c e = absurd (cc)

pub returns-clause-left : goal.returns-clause-left
returns-clause-left g c e = absurd (cc)

pub returns-clause-step : goal.returns-clause-step
unfolding entries_of
returns-clause-step g c e =
    let s = c.self.inside in
    let v : LedgerView = record { shelves = s.shelves; buffers = s.buffers; last = s.last; generation = s.generation; oldest = s.oldest; finished = s.finished } in
    subst (λ (u : LedgerView). StepsEnd c.args.accepts (entries_of g.row.OFFSET_BITS u) (entries_of g.row.OFFSET_BITS (record v { shelves = c.settle.new.self; buffers = c.count_settled.new.buffers }))) c.self.view_is
    (step-steps g.row.OFFSET_BITS v s.held.held s.held.room s.unheld c.self.invariant c.args.accepts c.settle.new.self c.in-Some.entry c.in-Some.ensures.settled
    c.count_settled.new.buffers c.count_settled.ensures)

pub returns-clause-less : goal.returns-clause-less
returns-clause-less g c e =
    let s = c.self.inside in
    let v : LedgerView = record { shelves = s.shelves; buffers = s.buffers; last = s.last; generation = s.generation; oldest = s.oldest; finished = s.finished } in
    step-less g.row.OFFSET_BITS v s.held.held s.held.room s.unheld c.self.invariant c.args.accepts c.settle.new.self c.in-Some.entry c.in-Some.ensures.settled
    c.count_settled.new.buffers c.count_settled.ensures ∙ ap touched_total c.self.view_is

pub returns-clause-good : goal.returns-clause-good
returns-clause-good g c =
    let s = c.self.inside in
    let v : LedgerView = record { shelves = s.shelves; buffers = s.buffers; last = s.last; generation = s.generation; oldest = s.oldest; finished = s.finished } in
    good g.row.OFFSET_BITS (record v { shelves = c.settle.new.self; buffers = c.count_settled.new.buffers }) c.hold.new.held.held c.hold.new.held.room c.hold.new.unheld
    (step-kept g.row.OFFSET_BITS v s.held.held s.held.room s.unheld c.self.invariant c.args.accepts c.settle.new.self c.in-Some.entry c.in-Some.ensures.settled
    c.count_settled.new.buffers c.count_settled.ensures c.hold.new.held c.hold.new.unheld c.new-reference.result c.is_dropped_now.result c.is_dropped_now.ensures c.new-reference.ensures
    c.hold.ensures.held c.hold.ensures.unheld)
