use Rattle.std.proofs.Common.{ap}
use Rattle.test_trees.proofs.TensLemmas.{holds-none}
use Rattle.test_trees.proofs.keys.two_replaced.Goals as goal

pub loop-i-init : goal.loop-i-init
loop-i-init g c =
    holds-none (g.S.Store.ledger c.begin.new.self) (g.S.Frozen.records c.begin.new.self) c.from_raw-root.result
    c.from_raw-root.ensures (ap (λ l. l.unit) c.begin.ensures.ledger)
