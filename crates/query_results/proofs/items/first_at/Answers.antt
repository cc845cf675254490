use Rattle.std.proofs.Common.{rules, ◌≡◌, ◌<◌, List, Option, ap, subst, arith}
use Rattle.std.specs.Prelude.{IfOk}
use Rattle.attr_types.specs.declared.items.Item.{Item}
use Rattle.attr_types.specs.declared.value.Value.{Value}
use Rattle.attr_field.specs.Items.{has_list}
use Rattle.attr_field.proofs.ReadLemmas.{array_at, values_at, items_are}
use Rattle.result_model.specs.Values.{first_value}
use Rattle.query_results.proofs.items.first_at.Goals as goal

pub first_in_list-requires : goal.first_in_list-requires
first_in_list-requires g c =
    let m = g.F.Frozen.records c.args.frozen.now in
    let has = ap has_list c.in-Array.is in
    let some : 0 < c.args.reference = search rules in
    (omega arith, (array_at c.args.kind c.args.value_type m c.args.reference has some c.requires, values_at c.args.kind c.args.value_type m c.args.reference has some c.requires))

pub first_in_list-requires-in-WeightedSet : goal.first_in_list-requires-in-WeightedSet
first_in_list-requires-in-WeightedSet g c =
    let m = g.F.Frozen.records c.args.frozen.now in
    let has = ap has_list c.in-WeightedSet.is in
    let some : 0 < c.args.reference = search rules in
    (omega arith, (array_at c.args.kind c.args.value_type m c.args.reference has some c.requires, values_at c.args.kind c.args.value_type m c.args.reference has some c.requires))

pub returns-in-Array-clause-value : goal.returns-in-Array-clause-value
returns-in-Array-clause-value g c =
    let m = g.F.Frozen.records c.args.frozen.now in
    let has = ap has_list c.in-Array.is in
    let some : 0 < c.args.reference = search rules in
    subst (λ (xs : List Item). IfOk c.first_in_list.result (λ (value : Option Value). value ≡ first_value xs))
    (items_are c.args.kind c.args.value_type m c.args.reference has some) c.first_in_list.ensures.value

pub returns-in-WeightedSet-clause-value : goal.returns-in-WeightedSet-clause-value
returns-in-WeightedSet-clause-value g c =
    let m = g.F.Frozen.records c.args.frozen.now in
    let has = ap has_list c.in-WeightedSet.is in
    let some : 0 < c.args.reference = search rules in
    subst (λ (xs : List Item). IfOk c.first_in_list-in-WeightedSet.result (λ (value : Option Value). value ≡ first_value xs))
    (items_are c.args.kind c.args.value_type m c.args.reference has some) c.first_in_list-in-WeightedSet.ensures.value
