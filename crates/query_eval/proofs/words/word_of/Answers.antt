use Rattle.std.proofs.Common.{ℕ, Some, arith, sym, ap, subst, ◌∙◌}
use Rattle.tree_read.specs.Trees.{tree_pairs}
use Rattle.tree_read.specs.Pairs.{lookup_pair}
use Rattle.image_format.specs.Postings.{list_form, postings_at}
use Rattle.enum_dictionary.specs.Dictionaries.{beside_value}
use Rattle.query_eval.proofs.PartLemmas.{type_is, is_dictionary}
use Rattle.query_eval.specs.Weights.{IsListWord}
use Rattle.query_eval.proofs.WordLemmas.{not_there, none_there, is_there, is_word, pair_of_entry, none_of_entry}
use Rattle.query_eval.proofs.words.word_of.Goals as goal

pub returns-then-not-is_of_type-clause-list : goal.returns-then-not-is_of_type-clause-list
returns-then-not-is_of_type-clause-list g c =
    not_there c.args.value_type (g.F.Frozen.records c.args.frozen.now) c.args.root c.args.value.now (sym c.is_of_type.ensures ∙ c.if-not-is_of_type.true)

pub find-requires : goal.find-requires
find-requires g c =
    let typed = type_is c.args.value_type c.args.value.now (sym c.is_of_type.ensures ∙ c.if-not-is_of_type.false) in
    (omega arith, (omega arith, is_dictionary c.args.value_type (g.F.Frozen.records c.args.frozen.now) c.args.root c.requires c.args.value.now typed))

pub returns-in-Some-clause-form : goal.returns-in-Some-clause-form
returns-in-Some-clause-form g c =
    let m = g.F.Frozen.records c.args.frozen.now in
    let value = c.args.value.now in
    let typed = type_is c.args.value_type value (sym c.is_of_type.ensures ∙ c.if-not-is_of_type.false) in
    let found = pair_of_entry g.row.OFFSET_BITS (lookup_pair (beside_value value m) (tree_pairs m c.args.root)) c.in-Some.entry c.in-Some.ensures.entry in
    subst (λ (w : ℕ). IsListWord m (Some w)) (sym found.2) (is_word c.args.value_type m c.args.root c.requires value typed found.0 found.1)

pub returns-in-Some-clause-list : goal.returns-in-Some-clause-list
returns-in-Some-clause-list g c =
    let m = g.F.Frozen.records c.args.frozen.now in
    let value = c.args.value.now in
    let typed = type_is c.args.value_type value (sym c.is_of_type.ensures ∙ c.if-not-is_of_type.false) in
    let found = pair_of_entry g.row.OFFSET_BITS (lookup_pair (beside_value value m) (tree_pairs m c.args.root)) c.in-Some.entry c.in-Some.ensures.entry in
    ap (λ (w : ℕ). postings_at m (list_form w)) found.2 ∙ is_there c.args.value_type m c.args.root c.requires value typed found.0 found.1

pub returns-in-None-clause-list : goal.returns-in-None-clause-list
returns-in-None-clause-list g c =
    let m = g.F.Frozen.records c.args.frozen.now in
    let value = c.args.value.now in
    let typed = type_is c.args.value_type value (sym c.is_of_type.ensures ∙ c.if-not-is_of_type.false) in
    none_there c.args.value_type m c.args.root c.requires value typed
    (none_of_entry g.row.OFFSET_BITS (lookup_pair (beside_value value m) (tree_pairs m c.args.root)) c.in-None.ensures.entry)
