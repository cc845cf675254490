use Rattle.attr_types.specs.ProofsForOrder.{value_cmp_exact}
use Rattle.query_results.proofs.runs.distinct_in.Goals as goal

pub put_in_order-requires : goal.put_in_order-requires
put_in_order-requires c = record { exact = value_cmp_exact }
