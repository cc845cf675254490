use Rattle.std.proofs.Common.{rules, ◌≡◌, ◌<◌, List, ap, subst, arith}
use Rattle.std.specs.Option.{option_and_then}
use Rattle.attr_types.specs.declared.items.Item.{Item}
use Rattle.attr_types.specs.declared.kind.ValueType.TheVariants.{Long}
use Rattle.attr_field.specs.Items.{has_list}
use Rattle.attr_field.proofs.ReadLemmas.{array_at, values_at, items_are}
use Rattle.result_model.specs.Totals.{long_of}
use Rattle.result_model.specs.Values.{first_value}
use Rattle.query_results.proofs.longs.first_long.Goals as goal

pub first_in_list-requires : goal.first_in_list-requires
first_in_list-requires g c =
    let m = g.F.Frozen.records c.args.frozen.now in
    let has = ap has_list c.in-Array.is in
    let some : 0 < c.args.reference = search rules in
    (omega arith, (array_at c.args.kind Long m c.args.reference has some c.requires, values_at c.args.kind Long m c.args.reference has some c.requires))

pub first_in_list-requires-in-WeightedSet : goal.first_in_list-requires-in-WeightedSet
first_in_list-requires-in-WeightedSet g c =
    let m = g.F.Frozen.records c.args.frozen.now in
    let has = ap has_list c.in-WeightedSet.is in
    let some : 0 < c.args.reference = search rules in
    (omega arith, (array_at c.args.kind Long m c.args.reference has some c.requires, values_at c.args.kind Long m c.args.reference has some c.requires))

pub returns-in-Array-clause-long : goal.returns-in-Array-clause-long
returns-in-Array-clause-long g c =
    let m = g.F.Frozen.records c.args.frozen.now in
    let has = ap has_list c.in-Array.is in
    let some : 0 < c.args.reference = search rules in
    subst (λ (xs : List Item). c.first_in_list.result ≡ option_and_then long_of (first_value xs))
    (items_are c.args.kind Long m c.args.reference has some) c.first_in_list.ensures.long

pub returns-in-WeightedSet-clause-long : goal.returns-in-WeightedSet-clause-long
returns-in-WeightedSet-clause-long g c =
    let m = g.F.Frozen.records c.args.frozen.now in
    let has = ap has_list c.in-WeightedSet.is in
    let some : 0 < c.args.reference = search rules in
    subst (λ (xs : List Item). c.first_in_list-in-WeightedSet.result ≡ option_and_then long_of (first_value xs))
    (items_are c.args.kind Long m c.args.reference has some) c.first_in_list-in-WeightedSet.ensures.long
