use Rattle.std.proofs.Common.{◌≡◌, ℕ, sym, ap, subst, ◌∙◌, arith}
use Rattle.std.specs.List.{AllByRecursion}
use Rattle.std.specs.Prelude.{IfOk, Option}
use Rattle.tree_read.specs.SearchPlaces.{pairs_from, IsAt}
use Rattle.image_format.specs.Values.{stored_value, IsValueRecord}
use Rattle.attr_types.specs.declared.kind.ValueType.{ValueType}
use Rattle.std.specs.Option.{option_map}
use Rattle.attr_compaction.specs.declared.plan.PlanKey.{PlanKey}
use Rattle.attr_compaction.specs.declared.plan.PlanKey.TheVariants.{Value}
use Rattle.enum_dictionary.specs.Dictionaries.{beside_value, IsDictionary}
use Rattle.tree_read.specs.Trees.{tree_pairs}
use Rattle.attr_compaction.specs.PhaseKeys.{first_item}
use Rattle.attr_compaction.proofs.NextLemmas.{all_behind, value_past_is}
use Rattle.attr_compaction.proofs.values.value_past.Goals as goal

pub upper-cursor-requires : goal.upper-cursor-requires
upper-cursor-requires g c =
    (omega arith, (omega arith, subst (λ (t : ValueType). IsDictionary t (g.F.Frozen.records c.args.frozen.now) c.args.root) (sym c.requires.typed) c.requires.dictionary))

pub value_at-requires : goal.value_at-requires
value_at-requires g c =
    let records = g.F.Frozen.records in
    let type = c.args.value_type in
    let m = records c.args.frozen.now in
    let cursor = c.upper-cursor.result in
    let back = sym c.upper-cursor.ensures.same in (
      omega arith,
      (
        subst (λ f. IsAt (records f) cursor) back c.upper-cursor.ensures.at,
        subst (λ f. AllByRecursion (λ p. IsValueRecord type (records f p.0)) (pairs_from (records f) cursor)) back
            (subst (AllByRecursion (λ p. IsValueRecord type (m p.0))) (sym c.upper-cursor.ensures.pairs)
            (all_behind (λ p. IsValueRecord type (m p.0)) (beside_value c.args.value.now m) (tree_pairs m c.args.root) c.requires.dictionary.keys)),
      ),
    )

pub returns-clause-next : goal.returns-clause-next
returns-clause-next g c =
    let records = g.F.Frozen.records in
    let type = c.args.value_type in
    let m = records c.args.frozen.now in
    let cursor = c.upper-cursor.result in
    let told = subst (λ f. IfOk c.value_at.result (λ found. found ≡ option_map (λ (p : ℕ × ℕ). Value (stored_value type (records f) p.0)) (first_item (pairs_from (records f) cursor))))
    c.upper-cursor.ensures.same c.value_at.ensures.value in
    subst {A = Option PlanKey} (λ o. IfOk c.value_at.result (λ found. found ≡ o))
    (ap (λ ps. option_map (λ (p : ℕ × ℕ). Value (stored_value type m p.0)) (first_item ps)) c.upper-cursor.ensures.pairs
    ∙ value_past_is type m c.args.root c.args.value.now c.requires.typed) told
