use Rattle.std.proofs.Common.{◌≡◌, sym, ap, subst, arith}
use Rattle.std.specs.List.{AllByRecursion}
use Rattle.std.specs.Prelude.{IfOk, Option}
use Rattle.tree_read.specs.SearchPlaces.{pairs_from, IsAt}
use Rattle.attr_compaction.specs.declared.plan.PlanKey.{PlanKey}
use Rattle.attr_compaction.specs.PhaseKeys.{first_item, keys_of_pairs, IsListPair}
use Rattle.attr_compaction.proofs.ListLemmas.{list_pairs}
use Rattle.attr_compaction.proofs.pairs.first_pair.Goals as goal

pub first-cursor-requires : goal.first-cursor-requires
first-cursor-requires g c = (omega arith, (omega arith, c.requires.dictionary_is.tree_is.node))

pub pair_at-requires : goal.pair_at-requires
pair_at-requires g c =
    let records = g.F.Frozen.records in
    let type = c.args.value_type in
    let m = records c.args.frozen.now in
    let cursor = c.first-cursor.result in
    let back = sym c.first-cursor.ensures.same in (
      omega arith,
      (
        subst (λ f. IsAt (records f) cursor) back c.first-cursor.ensures.at,
        subst (λ f. AllByRecursion (IsListPair type (records f)) (pairs_from (records f) cursor)) back
            (subst (AllByRecursion (IsListPair type m)) (sym c.first-cursor.ensures.pairs) (list_pairs type m c.args.root c.requires)),
      ),
    )

pub returns-clause-first : goal.returns-clause-first
returns-clause-first g c =
    let records = g.F.Frozen.records in
    let type = c.args.value_type in
    let m = records c.args.frozen.now in
    let cursor = c.first-cursor.result in
    let told = subst (λ f. IfOk c.pair_at.result (λ found. found ≡ first_item (keys_of_pairs type (records f) (pairs_from (records f) cursor)))) c.first-cursor.ensures.same c.pair_at.ensures.first in
    subst {A = Option PlanKey} (λ o. IfOk c.pair_at.result (λ found. found ≡ o)) (ap (λ ps. first_item (keys_of_pairs type m ps)) c.first-cursor.ensures.pairs) told
