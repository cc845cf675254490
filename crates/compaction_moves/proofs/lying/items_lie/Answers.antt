use Rattle.std.proofs.Common.{rules, ◌≡◌, ◌<◌, ap, ◌∙◌, sym, arith}
use Rattle.attr_field.specs.Items.{has_list}
use Rattle.attr_field.proofs.ReadLemmas.{array_at, values_at}
use Rattle.compaction_moves.proofs.LyingLemmas.{apart_none, apart_single, lies_here, list_apart, list_found}
use Rattle.compaction_moves.proofs.lying.items_lie.Goals as goal

pub list_lies-requires : goal.list_lies-requires
list_lies-requires g c =
    let m = g.F.Frozen.records c.args.frozen.now in
    let has = ap has_list c.in-Array.is in
    let some : 0 < c.args.reference = search rules in
    (omega arith, (array_at c.args.kind c.args.value_type m c.args.reference has some c.requires, values_at c.args.kind c.args.value_type m c.args.reference has some c.requires))

pub list_lies-requires-in-WeightedSet : goal.list_lies-requires-in-WeightedSet
list_lies-requires-in-WeightedSet g c =
    let m = g.F.Frozen.records c.args.frozen.now in
    let has = ap has_list c.in-WeightedSet.is in
    let some : 0 < c.args.reference = search rules in
    (omega arith, (array_at c.args.kind c.args.value_type m c.args.reference has some c.requires, values_at c.args.kind c.args.value_type m c.args.reference has some c.requires))

pub returns-then-not-valid-clause-away : goal.returns-then-not-valid-clause-away
returns-then-not-valid-clause-away g c none =
    apart_none g.row.OFFSET_BITS c.args.buffer c.args.kind c.args.value_type (g.F.Frozen.records c.args.frozen.now) c.args.reference
    (let is : c.args.reference ≡ 0 = search rules in is)

pub returns-then-buffer-clause-lies : goal.returns-then-buffer-clause-lies
returns-then-buffer-clause-lies g c told apart =
    let some : 0 < c.args.reference = search rules in
    lies_here g.row.OFFSET_BITS c.args.buffer c.args.kind c.args.value_type (g.F.Frozen.records c.args.frozen.now) c.args.reference some
    (sym c.buffer.ensures.value ∙ c.if-buffer.true) apart

pub returns-in-Single-clause-away : goal.returns-in-Single-clause-away
returns-in-Single-clause-away g c none =
    apart_single g.row.OFFSET_BITS c.args.buffer c.args.kind c.args.value_type (g.F.Frozen.records c.args.frozen.now) c.args.reference c.in-Single.is
    (λ e. let is = c.buffer.ensures.value in let other = c.if-buffer.false in absurd (omega arith))

pub returns-in-Array-clause-lies : goal.returns-in-Array-clause-lies
returns-in-Array-clause-lies g c told apart =
    let some : 0 < c.args.reference = search rules in
    list_found g.row.OFFSET_BITS c.args.buffer c.args.kind c.args.value_type (g.F.Frozen.records c.args.frozen.now) c.args.reference (ap has_list c.in-Array.is) some
    (c.list_lies.ensures.lies told) apart

pub returns-in-Array-clause-away : goal.returns-in-Array-clause-away
returns-in-Array-clause-away g c none =
    let some : 0 < c.args.reference = search rules in
    list_apart g.row.OFFSET_BITS c.args.buffer c.args.kind c.args.value_type (g.F.Frozen.records c.args.frozen.now) c.args.reference (ap has_list c.in-Array.is) some
    (λ e. let is = c.buffer.ensures.value in let other = c.if-buffer.false in absurd (omega arith)) (c.list_lies.ensures.away none)

pub returns-in-WeightedSet-clause-lies : goal.returns-in-WeightedSet-clause-lies
returns-in-WeightedSet-clause-lies g c told apart =
    let some : 0 < c.args.reference = search rules in
    list_found g.row.OFFSET_BITS c.args.buffer c.args.kind c.args.value_type (g.F.Frozen.records c.args.frozen.now) c.args.reference (ap has_list c.in-WeightedSet.is) some
    (c.list_lies-in-WeightedSet.ensures.lies told) apart

pub returns-in-WeightedSet-clause-away : goal.returns-in-WeightedSet-clause-away
returns-in-WeightedSet-clause-away g c none =
    let some : 0 < c.args.reference = search rules in
    list_apart g.row.OFFSET_BITS c.args.buffer c.args.kind c.args.value_type (g.F.Frozen.records c.args.frozen.now) c.args.reference (ap has_list c.in-WeightedSet.is) some
    (λ e. let is = c.buffer.ensures.value in let other = c.if-buffer.false in absurd (omega arith)) (c.list_lies-in-WeightedSet.ensures.away none)
