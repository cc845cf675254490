use Rattle.std.proofs.Common.{◌∙◌}
use Rattle.std.proofs.lemmas.List.Filters.{dedup_is}
use Rattle.query_results.proofs.OrderLemmas.{sort_is}
use Rattle.query_results.proofs.orders.put_in_order.Goals as goal

pub returns : goal.returns
returns g c =
    dedup_is _ _ _ c.dedup.ensures.filtered
    ∙ sort_is g.met.T.Ord.total c.requires.exact g.met.T.Ord.matches_eq c.args.keys.now.items _ c.sort_unstable.ensures.permutation c.sort_unstable.ensures.sorted
