use Rattle.std.proofs.Common.{◌<◌, sym, subst, arith, true≢false}
use Rattle.entry_ledger.specs.Shelves.{ShelvesView, spare_of_width, Takes}
use Rattle.entry_ledger.proofs.shelves.Shelves.take.Goals as goal

pub returns-then-calls-clause-none : goal.returns-then-calls-clause-none
returns-then-calls-clause-none c =
    let some : 0 < spare_of_width c.args.self.now.shelves c.args.width =
    subst (λ (v : ShelvesView). 0 < spare_of_width v.shelves c.args.width) c.calls.ensures.same c.take_free-taken.ensures.some in
    (λ e. absurd (true≢false e), λ e. absurd (omega (arith, some, e)))

pub returns-then-calls-clause-takes : goal.returns-then-calls-clause-takes
returns-then-calls-clause-takes c =
    subst (λ (v : ShelvesView). Takes v c.set_link.new.self c.args.width c.take_free-taken.result) c.calls.ensures.same
    (subst (λ (u : ShelvesView). Takes c.calls.new.self u c.args.width c.take_free-taken.result) (sym c.set_link.ensures) c.take_free-taken.ensures.takes)
