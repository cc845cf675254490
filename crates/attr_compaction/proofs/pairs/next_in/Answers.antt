use Rattle.std.proofs.Common.{◌≡◌, ℕ, Some, Option, option_map, sym, ap, subst, ◌∙◌, arith}
use Rattle.std.specs.Prelude.{IfOk}
use Rattle.image_format.specs.Values.{stored_value, IsValueRecord}
use Rattle.attr_compaction.specs.declared.plan.PlanKey.{PlanKey}
use Rattle.attr_compaction.specs.declared.plan.PlanKey.TheVariants.{Pair}
use Rattle.attr_compaction.proofs.pairs.next_in.Goals as goal

pub past_in_list-requires-clause-list : goal.past_in_list-requires-clause-list
past_in_list-requires-clause-list g c = c.requires.pair_is.list_is

pub past_in_list-requires-clause-some : goal.past_in_list-requires-clause-some
past_in_list-requires-clause-some g c = c.requires.pair_is.some

pub pair_key-requires : goal.pair_key-requires
pair_key-requires g c =
    (omega arith, subst (λ f. IsValueRecord c.args.value_type (g.F.Frozen.records f c.args.key)) (sym c.past_in_list.ensures.same) c.requires.record_is)

pub returns-in-Some-clause-next : goal.returns-in-Some-clause-next
returns-in-Some-clause-next g c =
    let m = g.F.Frozen.records c.args.frozen.now in
    let type = c.args.value_type in
    let told = subst (λ f. IfOk c.pair_key.result (λ found. found ≡ Some (Pair (stored_value type (g.F.Frozen.records f) c.args.key) c.in-Some.next))) c.past_in_list.ensures.same c.pair_key.ensures.pair in
    subst {A = Option PlanKey} (λ o. IfOk c.pair_key.result (λ found. found ≡ o))
    (ap (λ (o : Option ℕ). option_map (λ (doc : ℕ). Pair (stored_value type m c.args.key) doc) o) (sym c.in-Some.is ∙ c.past_in_list.ensures.next)) told

pub returns-in-None-clause-next : goal.returns-in-None-clause-next
returns-in-None-clause-next g c =
    let m = g.F.Frozen.records c.args.frozen.now in
    ap (λ (o : Option ℕ). option_map (λ (doc : ℕ). Pair (stored_value c.args.value_type m c.args.key) doc) o) (sym c.in-None.is ∙ c.past_in_list.ensures.next)
