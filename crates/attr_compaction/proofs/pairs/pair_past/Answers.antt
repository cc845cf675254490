use Rattle.std.proofs.Common.{◌≡◌, Option, sym, subst, ◌∙◌, arith}
use Rattle.std.proofs.lemmas.Result.{err_from_is_err_and}
use Rattle.std.specs.Prelude.{IfOk}
use Rattle.tree_read.specs.Trees.{tree_pairs}
use Rattle.attr_compaction.specs.declared.plan.PlanKey.{PlanKey}
use Rattle.enum_dictionary.specs.Dictionaries.{behind, beside_value}
use Rattle.value_index.specs.Indexes.{IsIndex}
use Rattle.attr_compaction.specs.PhaseKeys.{first_item, keys_of_pairs}
use Rattle.attr_compaction.proofs.ListLemmas.{found_later, found_now, list_pairs}
use Rattle.attr_compaction.proofs.pairs.pair_past.Goals as goal

pub next_of_value-requires : goal.next_of_value-requires
next_of_value-requires g c = (omega arith, (c.requires.index, c.requires.typed))

pub returns-in_err-next-clause-next : goal.returns-in_err-next-clause-next
returns-in_err-next-clause-next g c = let p = err_from_is_err_and c.from_residual.result c.from_residual.ensures.1 in rw p.1 tt

pub returns-in_err-next-clause-same : goal.returns-in_err-next-clause-same
returns-in_err-next-clause-same g c = c.next_of_value.ensures.same

pub returns-in-Some-clause-next : goal.returns-in-Some-clause-next
returns-in-Some-clause-next g c =
    let m = g.F.Frozen.records c.args.frozen.now in
    let type = c.args.value_type in
    found_now type m c.args.value.now c.requires.typed c.args.doc (tree_pairs m c.args.root) c.requires.index.dictionary_is.tree_is.ascends
    (list_pairs type m c.args.root c.requires.index) c.in-Some.found (sym c.in-Some.is ∙ c.in_ok-next.ensures.next)

pub returns-in-Some-clause-same : goal.returns-in-Some-clause-same
returns-in-Some-clause-same g c = c.next_of_value.ensures.same

pub first_behind-requires : goal.first_behind-requires
first_behind-requires g c =
    (omega arith, (subst (λ f. IsIndex c.args.value_type (g.F.Frozen.records f) c.args.root) (sym c.next_of_value.ensures.same) c.requires.index, c.requires.typed))

pub returns-in-None-clause-next : goal.returns-in-None-clause-next
returns-in-None-clause-next g c =
    let records = g.F.Frozen.records in
    let m = records c.args.frozen.now in
    let type = c.args.value_type in
    let value = c.args.value.now in
    let told = subst (λ f. IfOk c.first_behind.result (λ found. found ≡ first_item (keys_of_pairs type (records f) (behind (beside_value value (records f)) (tree_pairs (records f) c.args.root)))))
    c.next_of_value.ensures.same c.first_behind.ensures.first in
    subst {A = Option PlanKey} (λ o. IfOk c.first_behind.result (λ found. found ≡ o))
    (found_later type m value c.requires.typed c.args.doc (tree_pairs m c.args.root) c.requires.index.dictionary_is.tree_is.ascends
    (list_pairs type m c.args.root c.requires.index) (sym c.in-None.is ∙ c.in_ok-next.ensures.next)) told

pub returns-in-None-clause-same : goal.returns-in-None-clause-same
returns-in-None-clause-same g c = c.first_behind.ensures.same ∙ c.next_of_value.ensures.same
