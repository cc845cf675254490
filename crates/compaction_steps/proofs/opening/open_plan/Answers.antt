use Rattle.std.proofs.Common.{◌≡◌, Option, sym, subst, arith}
use Rattle.std.specs.Option.{IfNone, IfSome}
use Rattle.attr_compaction.specs.Places.{PlanView}
use Rattle.attr_operations.specs.Fields.{trees_of}
use Rattle.compaction_steps.specs.Units.{IsUnderWay}
use Rattle.compaction_steps.specs.Compactions.{BeginsNone, OpensPlan}
use Rattle.compaction_steps.specs.Walks.{HasLastField}
use Rattle.compaction_steps.proofs.OpenLemmas.{opens_going}
use Rattle.compaction_steps.proofs.opening.open_plan.Goals as goal

pub begin_plan-requires : goal.begin_plan-requires
begin_plan-requires g c = (omega arith, (omega arith, (c.requires.few, (c.requires.holds, c.requires.unfinished))))

pub returns-in-Some-clause-opens : goal.returns-in-Some-clause-opens
returns-in-Some-clause-opens g c =
    let ledger = g.S.Store.ledger in
    let records = g.S.Frozen.records in
    let old = c.args.store.now in
    let fields = c.args.fields.now in
    let trees = trees_of fields c.args.roots.now in
    subst (λ (o : Option PlanView). OpensPlan g.row.OFFSET_BITS c.args.root (ledger old) (ledger old) (records old) (records old) fields trees o c.in-Some.plan) (sym c.in-Some.is)
    (opens_going g.row.OFFSET_BITS c.args.root (ledger old) (records old) fields trees c.requires.holds c.in-Some.plan
    (subst (λ (o : Option PlanView). IfSome o (IsUnderWay g.row.OFFSET_BITS c.args.root (ledger old) (records old) trees)) c.in-Some.is c.requires.under_way)
    (subst (λ (o : Option PlanView). IfSome o HasLastField) c.in-Some.is c.requires.last))

pub returns-in-None-clause-opens : goal.returns-in-None-clause-opens
returns-in-None-clause-opens g c =
    let ledger = g.S.Store.ledger in
    let records = g.S.Frozen.records in
    let old = c.args.store.now in
    let new = c.begin_plan.new.store in
    let fields = c.args.fields.now in
    let trees = trees_of fields c.args.roots.now in
    subst (λ (o : Option PlanView). IfSome c.begin_plan.result (OpensPlan g.row.OFFSET_BITS c.args.root (ledger old) (ledger new) (records old) (records new) fields trees o)) (sym c.in-None.is)
    c.begin_plan.ensures.opens

pub returns-in-None-clause-none : goal.returns-in-None-clause-none
returns-in-None-clause-none g c =
    let old = c.args.store.now in
    let new = c.begin_plan.new.store in
    subst (λ (o : Option PlanView). IfNone c.begin_plan.result (BeginsNone g.row.OFFSET_BITS (g.S.Store.ledger old) o (new ≡ old))) (sym c.in-None.is) c.begin_plan.ensures.none
