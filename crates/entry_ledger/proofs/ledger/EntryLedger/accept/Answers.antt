use Rattle.std.proofs.Common.{◌≡◌, ◌+◌, true, sym, subst, arith}
use Rattle.entry_ledger.specs.Calls.{Accepts}
use Rattle.entry_ledger.specs.Ledgers.{LedgerView, entries_of, touched_total}
use Rattle.entry_ledger.proofs.Ends.{ending-start, ending-step, ending-accepts}
use Rattle.entry_ledger.proofs.ledger.EntryLedger.accept.Goals as goal

pub loop-init : goal.loop-init
loop-init g c = ending-start true (entries_of g.row.OFFSET_BITS c.args.self.now)

pub settle-requires : goal.settle-requires
settle-requires g c = omega arith

pub loop-smaller : goal.loop-smaller
loop-smaller g c =
    let less : touched_total c.settle.new.self + 1 ≡ touched_total c.loop.self = c.settle.ensures.less c.loop-test.true in
    omega (arith, less)

pub loop-preserved : goal.loop-preserved
loop-preserved g c =
    ending-step true (entries_of g.row.OFFSET_BITS c.args.self.now) (entries_of g.row.OFFSET_BITS c.loop.self) (entries_of g.row.OFFSET_BITS c.settle.new.self)
    c.loop.invariant (c.settle.ensures.step c.loop-test.true)

pub returns-clause-accepts : goal.returns-clause-accepts
returns-clause-accepts g c =
    subst (λ (u : LedgerView). Accepts (entries_of g.row.OFFSET_BITS c.args.self.now) (entries_of g.row.OFFSET_BITS u)) (sym (c.settle.ensures.left c.loop-test.false))
    (ending-accepts (entries_of g.row.OFFSET_BITS c.args.self.now) (entries_of g.row.OFFSET_BITS c.loop.self) c.loop.invariant (c.settle.ensures.ended c.loop-test.false))

pub returns-clause-good : goal.returns-clause-good
returns-clause-good g c = c.settle.ensures.good
