use Rattle.std.proofs.Common.{sym, subst}
use Rattle.number_tree.specs.Maps.{HoldsTree}
use Rattle.number_tree.proofs.HoldLemmas.{holds_nothing}
use Rattle.number_tree.proofs.number_tree.NumberTree.new.Goals as goal

pub invariant_of-result : goal.invariant_of-result
invariant_of-result g c =
    subst (HoldsTree (g.S.Store.ledger c.args.store) (g.S.Frozen.records c.args.store)) (sym c.from_raw.ensures) (holds_nothing (g.S.Store.ledger c.args.store) (g.S.Frozen.records c.args.store) c.requires)
