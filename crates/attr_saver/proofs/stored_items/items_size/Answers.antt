use Rattle.std.proofs.Common.{rules, ◌<◌, ℕ, List, length, sym, ap, ◌∙◌, arith}
use Rattle.attr_saver.proofs.StoredLemmas.{array_at, values_at, has_list, one_bytes, items_bytes}
use Rattle.attr_saver.proofs.stored_items.items_size.Goals as goal

pub list_size-requires : goal.list_size-requires
list_size-requires g c =
    let m = g.F.Frozen.records c.args.frozen.now in
    let has = ap has_list c.in-Array.is in
    let some : 0 < c.args.reference = search rules in
    (omega arith, (array_at c.args.kind c.args.value_type m c.args.reference has some c.requires, values_at c.args.kind c.args.value_type m c.args.reference has some c.requires))

pub list_size-requires-in-WeightedSet : goal.list_size-requires-in-WeightedSet
list_size-requires-in-WeightedSet g c =
    let m = g.F.Frozen.records c.args.frozen.now in
    let has = ap has_list c.in-WeightedSet.is in
    let some : 0 < c.args.reference = search rules in
    (omega arith, (array_at c.args.kind c.args.value_type m c.args.reference has some c.requires, values_at c.args.kind c.args.value_type m c.args.reference has some c.requires))

pub returns-in-Single-clause-size : goal.returns-in-Single-clause-size
returns-in-Single-clause-size g c =
    let m = g.F.Frozen.records c.args.frozen.now in
    let some : 0 < c.args.reference = search rules in
    let one = rw c.raw.ensures at c.item_size.ensures.size in
    one ∙ ap (λ (xs : List ℕ). length xs) (sym (one_bytes c.args.kind c.args.value_type m c.args.reference c.in-Single.is some))

pub returns-in-Array-clause-size : goal.returns-in-Array-clause-size
returns-in-Array-clause-size g c =
    let m = g.F.Frozen.records c.args.frozen.now in
    let some : 0 < c.args.reference = search rules in
    c.list_size.ensures.size ∙ ap (λ (xs : List ℕ). length xs) (items_bytes c.args.kind c.args.value_type m c.args.reference (ap has_list c.in-Array.is) some)

pub returns-in-WeightedSet-clause-size : goal.returns-in-WeightedSet-clause-size
returns-in-WeightedSet-clause-size g c =
    let m = g.F.Frozen.records c.args.frozen.now in
    let some : 0 < c.args.reference = search rules in
    c.list_size-in-WeightedSet.ensures.size ∙ ap (λ (xs : List ℕ). length xs) (items_bytes c.args.kind c.args.value_type m c.args.reference (ap has_list c.in-WeightedSet.is) some)
