use Rattle.std.proofs.Common.{rules, ◌≡◌, ◌<◌, List, ap, subst, arith}
use Rattle.std.specs.Prelude.{IfOk}
use Rattle.attr_types.specs.declared.items.Item.{Item}
use Rattle.attr_field.specs.Items.{has_list}
use Rattle.attr_field.proofs.ReadLemmas.{array_at, values_at, items_are}
use Rattle.attr_field.proofs.documents_reading.read_items.Goals as goal

pub read_list-requires : goal.read_list-requires
read_list-requires g c =
    let m = g.F.Frozen.records c.args.frozen.now in
    let has = ap has_list c.in-Array.is in
    let some : 0 < c.args.reference = search rules in
    (omega arith, (array_at c.args.kind c.args.value_type m c.args.reference has some c.requires, values_at c.args.kind c.args.value_type m c.args.reference has some c.requires))

pub read_list-requires-in-WeightedSet : goal.read_list-requires-in-WeightedSet
read_list-requires-in-WeightedSet g c =
    let m = g.F.Frozen.records c.args.frozen.now in
    let has = ap has_list c.in-WeightedSet.is in
    let some : 0 < c.args.reference = search rules in
    (omega arith, (array_at c.args.kind c.args.value_type m c.args.reference has some c.requires, values_at c.args.kind c.args.value_type m c.args.reference has some c.requires))

pub returns-in-Array-clause-items : goal.returns-in-Array-clause-items
returns-in-Array-clause-items g c =
    let m = g.F.Frozen.records c.args.frozen.now in
    let has = ap has_list c.in-Array.is in
    let some : 0 < c.args.reference = search rules in
    subst (λ (xs : List Item). IfOk c.read_list.result (λ (items : List Item). items ≡ xs)) (items_are c.args.kind c.args.value_type m c.args.reference has some) c.read_list.ensures.items

pub returns-in-WeightedSet-clause-items : goal.returns-in-WeightedSet-clause-items
returns-in-WeightedSet-clause-items g c =
    let m = g.F.Frozen.records c.args.frozen.now in
    let has = ap has_list c.in-WeightedSet.is in
    let some : 0 < c.args.reference = search rules in
    subst (λ (xs : List Item). IfOk c.read_list-in-WeightedSet.result (λ (items : List Item). items ≡ xs)) (items_are c.args.kind c.args.value_type m c.args.reference has some) c.read_list-in-WeightedSet.ensures.items
