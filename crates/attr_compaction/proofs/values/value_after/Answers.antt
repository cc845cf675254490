use Rattle.std.proofs.Common.{◌≡◌, None, refl, sym, subst, arith}
use Rattle.std.specs.Prelude.{IfOk}
use Rattle.attr_compaction.specs.declared.plan.PlanKey.{PlanKey}
use Rattle.attr_compaction.specs.PhaseKeys.{key_past, value_keys, HasType}
use Rattle.attr_compaction.proofs.NextLemmas.{no_value_past_doc, no_value_past_pair}
use Rattle.attr_compaction.proofs.values.value_after.Goals as goal

pub first_value-requires : goal.first_value-requires
first_value-requires g c = (omega arith, c.requires.dictionary)

pub returns-in-Start-clause-next : goal.returns-in-Start-clause-next
returns-in-Start-clause-next g c =
    let m = g.F.Frozen.records c.args.frozen.now in
    subst (λ (k : PlanKey). IfOk c.first_value.result (λ found. found ≡ key_past k (value_keys c.args.value_type m c.args.root))) (sym c.in-Start.is) c.first_value.ensures.next

pub returns-in-Start-clause-same : goal.returns-in-Start-clause-same
returns-in-Start-clause-same g c = c.first_value.ensures.same

pub value_past-requires : goal.value_past-requires
value_past-requires g c = (omega arith, (c.requires.dictionary, subst (HasType c.args.value_type) c.in-Value.is c.requires.typed))

pub returns-in-Value-clause-next : goal.returns-in-Value-clause-next
returns-in-Value-clause-next g c =
    let m = g.F.Frozen.records c.args.frozen.now in
    subst (λ (k : PlanKey). IfOk c.value_past.result (λ found. found ≡ key_past k (value_keys c.args.value_type m c.args.root))) (sym c.in-Value.is) c.value_past.ensures.next

pub returns-in-Value-clause-same : goal.returns-in-Value-clause-same
returns-in-Value-clause-same g c = c.value_past.ensures.same

pub returns-in-Doc-clause-next : goal.returns-in-Doc-clause-next
returns-in-Doc-clause-next g c =
    let m = g.F.Frozen.records c.args.frozen.now in
    subst (λ (k : PlanKey). None ≡ key_past k (value_keys c.args.value_type m c.args.root)) (sym c.in-Doc.is) (no_value_past_doc c.args.value_type m c.args.root _)

pub returns-in-Doc-clause-same : goal.returns-in-Doc-clause-same
returns-in-Doc-clause-same g c = refl

pub returns-in-Pair-clause-next : goal.returns-in-Pair-clause-next
returns-in-Pair-clause-next g c =
    let m = g.F.Frozen.records c.args.frozen.now in
    subst (λ (k : PlanKey). None ≡ key_past k (value_keys c.args.value_type m c.args.root)) (sym c.in-Pair.is) (no_value_past_pair c.args.value_type m c.args.root _ _)

pub returns-in-Pair-clause-same : goal.returns-in-Pair-clause-same
returns-in-Pair-clause-same g c = refl
