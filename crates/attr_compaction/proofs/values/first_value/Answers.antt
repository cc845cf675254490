use Rattle.std.proofs.Common.{◌≡◌, ℕ, sym, ap, subst, ◌∙◌, arith}
use Rattle.std.specs.List.{AllByRecursion}
use Rattle.std.specs.Prelude.{IfOk, Option}
use Rattle.tree_read.specs.SearchPlaces.{pairs_from, IsAt}
use Rattle.image_format.specs.Values.{stored_value, IsValueRecord}
use Rattle.std.specs.Option.{option_map}
use Rattle.attr_compaction.specs.declared.plan.PlanKey.{PlanKey}
use Rattle.attr_compaction.specs.declared.plan.PlanKey.TheVariants.{Value}
use Rattle.attr_compaction.specs.PhaseKeys.{first_item}
use Rattle.attr_compaction.proofs.NextLemmas.{first_value_is}
use Rattle.attr_compaction.proofs.values.first_value.Goals as goal

pub first-cursor-requires : goal.first-cursor-requires
first-cursor-requires g c = (omega arith, (omega arith, c.requires.tree_is.node))

pub value_at-requires : goal.value_at-requires
value_at-requires g c =
    let records = g.F.Frozen.records in
    let type = c.args.value_type in
    let cursor = c.first-cursor.result in
    let back = sym c.first-cursor.ensures.same in (
      omega arith,
      (
        subst (λ f. IsAt (records f) cursor) back c.first-cursor.ensures.at,
        subst (λ f. AllByRecursion (λ p. IsValueRecord type (records f p.0)) (pairs_from (records f) cursor)) back
            (subst (AllByRecursion (λ p. IsValueRecord type (records c.args.frozen.now p.0))) (sym c.first-cursor.ensures.pairs) c.requires.keys),
      ),
    )

pub returns-clause-next : goal.returns-clause-next
returns-clause-next g c =
    let records = g.F.Frozen.records in
    let type = c.args.value_type in
    let m = records c.args.frozen.now in
    let cursor = c.first-cursor.result in
    let told = subst (λ f. IfOk c.value_at.result (λ found. found ≡ option_map (λ (p : ℕ × ℕ). Value (stored_value type (records f) p.0)) (first_item (pairs_from (records f) cursor))))
    c.first-cursor.ensures.same c.value_at.ensures.value in
    subst {A = Option PlanKey} (λ o. IfOk c.value_at.result (λ found. found ≡ o))
    (ap (λ ps. option_map (λ (p : ℕ × ℕ). Value (stored_value type m p.0)) (first_item ps)) c.first-cursor.ensures.pairs ∙ first_value_is type m c.args.root) told
