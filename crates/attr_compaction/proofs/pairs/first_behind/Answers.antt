use Rattle.std.proofs.Common.{◌≡◌, sym, ap, subst, arith}
use Rattle.std.specs.List.{AllByRecursion}
use Rattle.std.specs.Prelude.{IfOk, Option}
use Rattle.tree_read.specs.Trees.{tree_pairs}
use Rattle.tree_read.specs.SearchPlaces.{pairs_from, IsAt}
use Rattle.attr_types.specs.declared.kind.ValueType.{ValueType}
use Rattle.attr_compaction.specs.declared.plan.PlanKey.{PlanKey}
use Rattle.enum_dictionary.specs.Dictionaries.{beside_value, IsDictionary}
use Rattle.attr_compaction.specs.PhaseKeys.{first_item, keys_of_pairs, IsListPair}
use Rattle.attr_compaction.proofs.ListLemmas.{list_pairs}
use Rattle.attr_compaction.proofs.NextLemmas.{all_behind}
use Rattle.attr_compaction.proofs.pairs.first_behind.Goals as goal

pub upper-cursor-requires : goal.upper-cursor-requires
upper-cursor-requires g c =
    (omega arith, (omega arith, subst (λ (t : ValueType). IsDictionary t (g.F.Frozen.records c.args.frozen.now) c.args.root) (sym c.requires.typed) c.requires.index.dictionary_is))

pub pair_at-requires : goal.pair_at-requires
pair_at-requires g c =
    let records = g.F.Frozen.records in
    let type = c.args.value_type in
    let m = records c.args.frozen.now in
    let cursor = c.upper-cursor.result in
    let back = sym c.upper-cursor.ensures.same in (
      omega arith,
      (
        subst (λ f. IsAt (records f) cursor) back c.upper-cursor.ensures.at,
        subst (λ f. AllByRecursion (IsListPair type (records f)) (pairs_from (records f) cursor)) back
            (subst (AllByRecursion (IsListPair type m)) (sym c.upper-cursor.ensures.pairs)
            (all_behind (IsListPair type m) (beside_value c.args.value.now m) (tree_pairs m c.args.root) (list_pairs type m c.args.root c.requires.index))),
      ),
    )

pub returns-clause-first : goal.returns-clause-first
returns-clause-first g c =
    let records = g.F.Frozen.records in
    let type = c.args.value_type in
    let m = records c.args.frozen.now in
    let cursor = c.upper-cursor.result in
    let told = subst (λ f. IfOk c.pair_at.result (λ found. found ≡ first_item (keys_of_pairs type (records f) (pairs_from (records f) cursor)))) c.upper-cursor.ensures.same c.pair_at.ensures.first in
    subst {A = Option PlanKey} (λ o. IfOk c.pair_at.result (λ found. found ≡ o)) (ap (λ ps. first_item (keys_of_pairs type m ps)) c.upper-cursor.ensures.pairs) told
