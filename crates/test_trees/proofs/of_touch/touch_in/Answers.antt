use Rattle.std.proofs.Common.{sym, subst, arith}
use Rattle.number_tree.specs.Maps.{HoldsTree}
use Rattle.test_trees.proofs.of_touch.touch_in.Goals as goal

pub walked_in-requires : goal.walked_in-requires
walked_in-requires g c = (omega arith, c.requires.is_tree.node)

pub touch_sealed-requires : goal.touch_sealed-requires
touch_sealed-requires g c = (
  omega arith,
  subst (λ s. HoldsTree (g.S.Store.ledger s) (g.S.Frozen.records s) c.args.root) (sym c.walked_in.ensures) c.requires,
)
