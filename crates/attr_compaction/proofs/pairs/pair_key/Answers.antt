use Rattle.std.proofs.Common.{Some, ap, arith}
use Rattle.attr_compaction.specs.declared.plan.PlanKey.TheVariants.{Pair}
use Rattle.attr_compaction.proofs.pairs.pair_key.Goals as goal

pub get-requires : goal.get-requires
get-requires g c = (omega arith, c.requires)

pub returns-clause-pair : goal.returns-clause-pair
returns-clause-pair g c = ap (λ v. Some (Pair v c.args.doc)) c.in_ok-value.ensures.value
