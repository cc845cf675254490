use Rattle.std.proofs.Common.{sym, subst, arith}
use Rattle.std.specs.Prelude.{IfOk}
use Rattle.compaction_moves.specs.Cleared.{trees_of_roots}
use Rattle.attr_compaction.specs.declared.plan.PlanKey.{PlanKey}
use Rattle.attr_compaction.specs.declared.plan.PlanKey.TheVariants.{Start, Value, Doc, Pair}
use Rattle.compaction_moves.specs.Steps.{Moved}
use Rattle.compaction_moves.proofs.MoveLemmas.{as_given, not_start, pair_lists}
use Rattle.compaction_moves.proofs.field_moving.move_one.Goals as goal

pub unreachable-requires : goal.unreachable-requires
unreachable-requires g c =
    let bits = g.row.OFFSET_BITS in
    let plan = c.args.plan.now in
    let a = trees_of_roots c.args.field.now c.args.roots in
    let old = g.S.Store.ledger c.args.store.now in
    let m = g.S.Frozen.records c.args.store.now in
    let phase = plan.place.stage.phase in
    let can = as_given bits plan a old m c.args.key.now c.requires.unit c.requires.begun c.requires.sealed c.requires.field c.requires.owns c.requires.refers c.requires.next
    c.requires.cleared Start c.in-Start.is in
    not_start bits plan a old m phase c.requires.phase can

pub move_by_value-requires : goal.move_by_value-requires
move_by_value-requires g c =
    let bits = g.row.OFFSET_BITS in
    let plan = c.args.plan.now in
    let a = trees_of_roots c.args.field.now c.args.roots in
    let old = g.S.Store.ledger c.args.store.now in
    let m = g.S.Frozen.records c.args.store.now in
    let phase = plan.place.stage.phase in
    let can = as_given bits plan a old m c.args.key.now c.requires.unit c.requires.begun c.requires.sealed c.requires.field c.requires.owns c.requires.refers c.requires.next
    c.requires.cleared (Value c.in-Value.value) c.in-Value.is in
    (omega arith, (c.requires.phase, can))

pub move_by_document-requires : goal.move_by_document-requires
move_by_document-requires g c =
    let bits = g.row.OFFSET_BITS in
    let plan = c.args.plan.now in
    let a = trees_of_roots c.args.field.now c.args.roots in
    let old = g.S.Store.ledger c.args.store.now in
    let m = g.S.Frozen.records c.args.store.now in
    let phase = plan.place.stage.phase in
    let can = as_given bits plan a old m c.args.key.now c.requires.unit c.requires.begun c.requires.sealed c.requires.field c.requires.owns c.requires.refers c.requires.next
    c.requires.cleared (Doc c.in-Doc.number) c.in-Doc.is in
    (omega arith, (c.requires.phase, can))

pub move_value_list-requires : goal.move_value_list-requires
move_value_list-requires g c =
    let bits = g.row.OFFSET_BITS in
    let plan = c.args.plan.now in
    let a = trees_of_roots c.args.field.now c.args.roots in
    let old = g.S.Store.ledger c.args.store.now in
    let m = g.S.Frozen.records c.args.store.now in
    let phase = plan.place.stage.phase in
    let can = as_given bits plan a old m c.args.key.now c.requires.unit c.requires.begun c.requires.sealed c.requires.field c.requires.owns c.requires.refers c.requires.next
    c.requires.cleared (Pair c.in-Pair.value c.in-Pair.doc) c.in-Pair.is in
    (omega arith, pair_lists bits plan a old m phase c.in-Pair.value c.in-Pair.doc c.requires.phase can)

pub returns-in-Value-clause-moved : goal.returns-in-Value-clause-moved
returns-in-Value-clause-moved g c =
    let bits = g.row.OFFSET_BITS in
    let plan = c.args.plan.now in
    let a = trees_of_roots c.args.field.now c.args.roots in
    let old = g.S.Store.ledger c.args.store.now in
    let new = g.S.Store.ledger c.move_by_value.new.store in
    let m = g.S.Frozen.records c.args.store.now in
    let n = g.S.Frozen.records c.move_by_value.new.store in
    subst (λ (key : PlanKey). IfOk c.move_by_value.result (λ next. Moved bits plan key old new m n a (trees_of_roots c.args.field.now next))) (sym c.in-Value.is)
    c.move_by_value.ensures.moved

pub returns-in-Value-clause-counts : goal.returns-in-Value-clause-counts
returns-in-Value-clause-counts g c = c.move_by_value.ensures.counts

pub returns-in-Value-clause-refuses : goal.returns-in-Value-clause-refuses
returns-in-Value-clause-refuses g c = c.move_by_value.ensures.refuses

pub returns-in-Value-clause-may : goal.returns-in-Value-clause-may
returns-in-Value-clause-may g c = c.move_by_value.ensures.may

pub returns-in-Doc-clause-moved : goal.returns-in-Doc-clause-moved
returns-in-Doc-clause-moved g c =
    let bits = g.row.OFFSET_BITS in
    let plan = c.args.plan.now in
    let a = trees_of_roots c.args.field.now c.args.roots in
    let old = g.S.Store.ledger c.args.store.now in
    let new = g.S.Store.ledger c.move_by_document.new.store in
    let m = g.S.Frozen.records c.args.store.now in
    let n = g.S.Frozen.records c.move_by_document.new.store in
    subst (λ (key : PlanKey). IfOk c.move_by_document.result (λ next. Moved bits plan key old new m n a (trees_of_roots c.args.field.now next))) (sym c.in-Doc.is)
    c.move_by_document.ensures.moved

pub returns-in-Doc-clause-counts : goal.returns-in-Doc-clause-counts
returns-in-Doc-clause-counts g c = c.move_by_document.ensures.counts

pub returns-in-Doc-clause-refuses : goal.returns-in-Doc-clause-refuses
returns-in-Doc-clause-refuses g c = c.move_by_document.ensures.refuses

pub returns-in-Doc-clause-may : goal.returns-in-Doc-clause-may
returns-in-Doc-clause-may g c = c.move_by_document.ensures.may

pub returns-in-Pair-clause-moved : goal.returns-in-Pair-clause-moved
returns-in-Pair-clause-moved g c =
    let bits = g.row.OFFSET_BITS in
    let plan = c.args.plan.now in
    let a = trees_of_roots c.args.field.now c.args.roots in
    let old = g.S.Store.ledger c.args.store.now in
    let new = g.S.Store.ledger c.move_value_list.new.store in
    let m = g.S.Frozen.records c.args.store.now in
    let n = g.S.Frozen.records c.move_value_list.new.store in
    subst (λ (key : PlanKey). IfOk c.move_value_list.result (λ next. Moved bits plan key old new m n a (trees_of_roots c.args.field.now next))) (sym c.in-Pair.is)
    c.move_value_list.ensures.moved

pub returns-in-Pair-clause-counts : goal.returns-in-Pair-clause-counts
returns-in-Pair-clause-counts g c = c.move_value_list.ensures.counts

pub returns-in-Pair-clause-refuses : goal.returns-in-Pair-clause-refuses
returns-in-Pair-clause-refuses g c = c.move_value_list.ensures.refuses

pub returns-in-Pair-clause-may : goal.returns-in-Pair-clause-may
returns-in-Pair-clause-may g c = c.move_value_list.ensures.may
