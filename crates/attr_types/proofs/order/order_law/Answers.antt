use Rattle.attr_types.specs.ProofsForOrder.{value_cmp_total, value_cmp_exact}
use Rattle.attr_types.proofs.order.order_law.Goals as goal

pub returns-clause-total : goal.returns-clause-total
returns-clause-total c = value_cmp_total

pub returns-clause-exact : goal.returns-clause-exact
returns-clause-exact c = value_cmp_exact
