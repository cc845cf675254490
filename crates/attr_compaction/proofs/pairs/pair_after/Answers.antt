use Rattle.std.proofs.Common.{◌≡◌, Option, is_lt, refl, sym, subst, arith}
use Rattle.std.specs.Prelude.{IfOk}
use Rattle.tree_read.specs.Trees.{tree_pairs}
use Rattle.attr_compaction.specs.Places.{key_cmp}
use Rattle.attr_compaction.specs.declared.plan.PlanKey.{PlanKey}
use Rattle.attr_compaction.specs.declared.plan.PlanKey.TheVariants.{Start, Value, Doc}
use Rattle.attr_compaction.specs.PhaseKeys.{key_past, pair_keys, HasType}
use Rattle.attr_compaction.proofs.ListLemmas.{first_passes, list_pairs}
use Rattle.attr_compaction.proofs.pairs.pair_after.Goals as goal

pub first_pair-requires : goal.first_pair-requires
first_pair-requires g c = (omega arith, c.requires.index)

pub first_pair-requires-in-Value : goal.first_pair-requires-in-Value
first_pair-requires-in-Value g c = (omega arith, c.requires.index)

pub first_pair-requires-in-Doc : goal.first_pair-requires-in-Doc
first_pair-requires-in-Doc g c = (omega arith, c.requires.index)

pub returns-in-Start-clause-next : goal.returns-in-Start-clause-next
returns-in-Start-clause-next g c =
    let m = g.F.Frozen.records c.args.frozen.now in
    let type = c.args.value_type in
    subst (λ (k : PlanKey). IfOk c.first_pair.result (λ found. found ≡ key_past k (pair_keys type m c.args.root))) (sym c.in-Start.is)
    (subst {A = Option PlanKey} (λ o. IfOk c.first_pair.result (λ found. found ≡ o))
    (first_passes type m (λ next. is_lt (key_cmp Start next)) (λ v d. refl) (tree_pairs m c.args.root) (list_pairs type m c.args.root c.requires.index)) c.first_pair.ensures.first)

pub returns-in-Start-clause-same : goal.returns-in-Start-clause-same
returns-in-Start-clause-same g c = c.first_pair.ensures.same

pub returns-in-Value-clause-next : goal.returns-in-Value-clause-next
returns-in-Value-clause-next g c =
    let m = g.F.Frozen.records c.args.frozen.now in
    let type = c.args.value_type in
    subst (λ (k : PlanKey). IfOk c.first_pair-in-Value.result (λ found. found ≡ key_past k (pair_keys type m c.args.root))) (sym c.in-Value.is)
    (subst {A = Option PlanKey} (λ o. IfOk c.first_pair-in-Value.result (λ found. found ≡ o))
    (first_passes type m (λ next. is_lt (key_cmp (Value _) next)) (λ v d. refl) (tree_pairs m c.args.root) (list_pairs type m c.args.root c.requires.index)) c.first_pair-in-Value.ensures.first)

pub returns-in-Value-clause-same : goal.returns-in-Value-clause-same
returns-in-Value-clause-same g c = c.first_pair-in-Value.ensures.same

pub returns-in-Doc-clause-next : goal.returns-in-Doc-clause-next
returns-in-Doc-clause-next g c =
    let m = g.F.Frozen.records c.args.frozen.now in
    let type = c.args.value_type in
    subst (λ (k : PlanKey). IfOk c.first_pair-in-Doc.result (λ found. found ≡ key_past k (pair_keys type m c.args.root))) (sym c.in-Doc.is)
    (subst {A = Option PlanKey} (λ o. IfOk c.first_pair-in-Doc.result (λ found. found ≡ o))
    (first_passes type m (λ next. is_lt (key_cmp (Doc _) next)) (λ v d. refl) (tree_pairs m c.args.root) (list_pairs type m c.args.root c.requires.index)) c.first_pair-in-Doc.ensures.first)

pub returns-in-Doc-clause-same : goal.returns-in-Doc-clause-same
returns-in-Doc-clause-same g c = c.first_pair-in-Doc.ensures.same

pub pair_past-requires : goal.pair_past-requires
pair_past-requires g c = (omega arith, (c.requires.index, subst (HasType c.args.value_type) c.in-Pair.is c.requires.typed))

pub returns-in-Pair-clause-next : goal.returns-in-Pair-clause-next
returns-in-Pair-clause-next g c =
    let m = g.F.Frozen.records c.args.frozen.now in
    subst (λ (k : PlanKey). IfOk c.pair_past.result (λ found. found ≡ key_past k (pair_keys c.args.value_type m c.args.root))) (sym c.in-Pair.is) c.pair_past.ensures.next

pub returns-in-Pair-clause-same : goal.returns-in-Pair-clause-same
returns-in-Pair-clause-same g c = c.pair_past.ensures.same
