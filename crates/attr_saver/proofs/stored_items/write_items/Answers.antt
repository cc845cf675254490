use Rattle.std.proofs.Common.{rules, ◌<◌, sym, ap, arith}
use Rattle.attr_saver.proofs.StoredLemmas.{array_at, values_at, has_list, one_text, list_text}
use Rattle.attr_saver.proofs.WriteLemmas.{writes-as}
use Rattle.attr_saver.proofs.stored_items.write_items.Goals as goal

pub write_counted-requires : goal.write_counted-requires
write_counted-requires g c =
    let m = g.F.Frozen.records c.args.frozen.now in
    let has = ap has_list c.in-Array.is in
    let some : 0 < c.args.reference = search rules in
    (omega arith, (array_at c.args.kind c.args.value_type m c.args.reference has some c.requires, values_at c.args.kind c.args.value_type m c.args.reference has some c.requires))

pub write_counted-requires-in-WeightedSet : goal.write_counted-requires-in-WeightedSet
write_counted-requires-in-WeightedSet g c =
    let m = g.F.Frozen.records c.args.frozen.now in
    let has = ap has_list c.in-WeightedSet.is in
    let some : 0 < c.args.reference = search rules in
    (omega arith, (array_at c.args.kind c.args.value_type m c.args.reference has some c.requires, values_at c.args.kind c.args.value_type m c.args.reference has some c.requires))

pub returns-in-Single-clause-writes : goal.returns-in-Single-clause-writes
returns-in-Single-clause-writes g c =
    let m = g.F.Frozen.records c.args.frozen.now in
    let some : 0 < c.args.reference = search rules in
    let one = rw c.raw.ensures at c.write_one.ensures.writes in
    writes-as one (sym (one_text c.args.kind c.args.value_type m c.args.reference c.in-Single.is some))

pub returns-in-Array-clause-writes : goal.returns-in-Array-clause-writes
returns-in-Array-clause-writes g c =
    let m = g.F.Frozen.records c.args.frozen.now in
    let some : 0 < c.args.reference = search rules in
    writes-as c.write_counted.ensures.writes (sym (list_text c.args.kind c.args.value_type m c.args.reference (ap has_list c.in-Array.is) some))

pub returns-in-WeightedSet-clause-writes : goal.returns-in-WeightedSet-clause-writes
returns-in-WeightedSet-clause-writes g c =
    let m = g.F.Frozen.records c.args.frozen.now in
    let some : 0 < c.args.reference = search rules in
    writes-as c.write_counted-in-WeightedSet.ensures.writes (sym (list_text c.args.kind c.args.value_type m c.args.reference (ap has_list c.in-WeightedSet.is) some))
