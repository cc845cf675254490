use Rattle.std.proofs.Common.{◌≡◌, ℕ, Some, Option, refl, sym, ap, subst, ◌∙◌, arith}
use Rattle.std.specs.Prelude.{IfOk}
use Rattle.tree_read.specs.Pairs.{lookup_pair}
use Rattle.tree_read.specs.Trees.{tree_pairs}
use Rattle.attr_types.specs.declared.kind.ValueType.{ValueType}
use Rattle.attr_compaction.specs.declared.plan.PlanKey.{PlanKey}
use Rattle.enum_dictionary.specs.Dictionaries.{beside_value, IsDictionary}
use Rattle.value_index.proofs.PairLemmas.{all_found}
use Rattle.value_index.proofs.StepLemmas.{entry_found, entry_none}
use Rattle.attr_compaction.specs.PhaseKeys.{next_in_list, IsListPair}
use Rattle.attr_compaction.proofs.ListLemmas.{list_pairs}
use Rattle.attr_compaction.proofs.pairs.next_of_value.Goals as goal

pub find-requires : goal.find-requires
find-requires g c =
    (omega arith, (omega arith, subst (λ (t : ValueType). IsDictionary t (g.F.Frozen.records c.args.frozen.now) c.args.root) (sym c.requires.typed) c.requires.index.dictionary_is))

pub next_in-requires : goal.next_in-requires
next_in-requires g c =
    let records = g.F.Frozen.records in
    let type = c.args.value_type in
    let m = records c.args.frozen.now in
    let value = c.args.value.now in
    let entry = c.in-Some.entry in
    let found = entry_found g.row.OFFSET_BITS (lookup_pair (beside_value value m) (tree_pairs m c.args.root)) entry entry.posting (sym c.in-Some.is ∙ c.find.ensures.entry) refl in
    let pair = all_found (beside_value value m) (IsListPair type m) (entry.key, entry.posting) (tree_pairs m c.args.root) (list_pairs type m c.args.root c.requires.index) found in
    (omega arith, subst (λ f. IsListPair type (records f) (entry.key, entry.posting)) (sym c.find.ensures.same) pair)

pub returns-in-Some-clause-next : goal.returns-in-Some-clause-next
returns-in-Some-clause-next g c =
    let records = g.F.Frozen.records in
    let type = c.args.value_type in
    let m = records c.args.frozen.now in
    let value = c.args.value.now in
    let entry = c.in-Some.entry in
    let found = entry_found g.row.OFFSET_BITS (lookup_pair (beside_value value m) (tree_pairs m c.args.root)) entry entry.posting (sym c.in-Some.is ∙ c.find.ensures.entry) refl in
    let told = subst (λ f. IfOk c.next_in.result (λ next. next ≡ next_in_list type (records f) c.args.doc (Some (entry.key, entry.posting)))) c.find.ensures.same c.next_in.ensures.next in
    subst {A = Option PlanKey} (λ o. IfOk c.next_in.result (λ next. next ≡ o)) (ap (λ (o : Option (ℕ × ℕ)). next_in_list type m c.args.doc o) (sym found)) told

pub returns-in-None-clause-next : goal.returns-in-None-clause-next
returns-in-None-clause-next g c =
    let type = c.args.value_type in
    let m = g.F.Frozen.records c.args.frozen.now in
    let none = entry_none g.row.OFFSET_BITS (lookup_pair (beside_value c.args.value.now m) (tree_pairs m c.args.root)) (sym c.in-None.is ∙ c.find.ensures.entry) in
    ap (λ (o : Option (ℕ × ℕ)). next_in_list type m c.args.doc o) (sym none)
