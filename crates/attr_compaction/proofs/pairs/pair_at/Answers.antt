use Rattle.std.proofs.Common.{◌≡◌, ◌≢◌, ◌<◌, ℕ, [], true≢false, Some, Option, option_map, sym, ap, subst, ◌∙◌, arith}
use Rattle.std.specs.Prelude.{IfOk}
use Rattle.tree_read.proofs.PlaceLemmas.{first_pair}
use Rattle.tree_read.specs.SearchPlaces.{pairs_from}
use Rattle.image_format.specs.Values.{stored_value, IsValueRecord}
use Rattle.attr_compaction.specs.declared.plan.PlanKey.{PlanKey}
use Rattle.attr_compaction.specs.declared.plan.PlanKey.TheVariants.{Pair}
use Rattle.posting_store.specs.Lists.{IsList}
use Rattle.unique_store.proofs.RecordLemmas.{value_there}
use Rattle.attr_compaction.specs.PhaseKeys.{IsListPair}
use Rattle.attr_compaction.proofs.ListLemmas.{first_pair_is, no_pairs}
use Rattle.attr_compaction.proofs.pairs.pair_at.Goals as goal

pub returns-then-at_end-clause-first : goal.returns-then-at_end-clause-first
returns-then-at_end-clause-first g c =
    let m = g.F.Frozen.records c.args.frozen.now in
    let ps = pairs_from m c.args.cursor.now in
    no_pairs c.args.value_type m ps ((c.at_end.ensures.pairs m c.requires.at).0 c.if-at_end.true)

pub overflow_cast-key : goal.overflow_cast-key
overflow_cast-key g c =
    let m = g.F.Frozen.records c.args.frozen.now in
    let ps = pairs_from m c.args.cursor.now in
    let some : ps ≢ [] = λ none. true≢false (sym ((c.at_end.ensures.pairs m c.requires.at).1 none) ∙ c.if-at_end.false) in
    let pair = first_pair (IsListPair c.args.value_type m) ps some c.requires.pairs in
    let is = subst (λ k. IsValueRecord c.args.value_type (m k)) (sym (c.key.ensures m c.requires.at)) pair.record_is in
    let below = g.met.F.Frozen.references c.args.frozen.now c.key.result (omega (arith, value_there c.args.value_type (m c.key.result) is)) in
    omega arith

pub first_in_list-requires-clause-list : goal.first_in_list-requires-clause-list
first_in_list-requires-clause-list g c =
    let m = g.F.Frozen.records c.args.frozen.now in
    let ps = pairs_from m c.args.cursor.now in
    let some : ps ≢ [] = λ none. true≢false (sym ((c.at_end.ensures.pairs m c.requires.at).1 none) ∙ c.if-at_end.false) in
    subst (IsList m) (sym (c.value-list.ensures m c.requires.at)) (first_pair (IsListPair c.args.value_type m) ps some c.requires.pairs).pair_is.list_is

pub first_in_list-requires-clause-some : goal.first_in_list-requires-clause-some
first_in_list-requires-clause-some g c =
    let m = g.F.Frozen.records c.args.frozen.now in
    let ps = pairs_from m c.args.cursor.now in
    let some : ps ≢ [] = λ none. true≢false (sym ((c.at_end.ensures.pairs m c.requires.at).1 none) ∙ c.if-at_end.false) in
    subst (λ (w : ℕ). 0 < w) (sym (c.value-list.ensures m c.requires.at)) (first_pair (IsListPair c.args.value_type m) ps some c.requires.pairs).pair_is.some

pub pair_key-requires : goal.pair_key-requires
pair_key-requires g c =
    let m = g.F.Frozen.records c.args.frozen.now in
    let ps = pairs_from m c.args.cursor.now in
    let some : ps ≢ [] = λ none. true≢false (sym ((c.at_end.ensures.pairs m c.requires.at).1 none) ∙ c.if-at_end.false) in
    let is = subst (λ k. IsValueRecord c.args.value_type (m k)) (sym (c.from_raw-key.ensures ∙ c.key.ensures m c.requires.at)) (first_pair (IsListPair c.args.value_type m) ps some c.requires.pairs).record_is in
    (omega arith, subst (λ f. IsValueRecord c.args.value_type (g.F.Frozen.records f c.from_raw-key.result)) (sym c.first_in_list.ensures.same) is)

pub returns-in-Some-clause-first : goal.returns-in-Some-clause-first
returns-in-Some-clause-first g c =
    let m = g.F.Frozen.records c.args.frozen.now in
    let type = c.args.value_type in
    let key = c.from_raw-key.result in
    let ps = pairs_from m c.args.cursor.now in
    let some : ps ≢ [] = λ none. true≢false (sym ((c.at_end.ensures.pairs m c.requires.at).1 none) ∙ c.if-at_end.false) in
    let told = subst (λ f. IfOk c.pair_key.result (λ found. found ≡ Some (Pair (stored_value type (g.F.Frozen.records f) key) c.in-Some.doc))) c.first_in_list.ensures.same c.pair_key.ensures.pair in
    subst {A = Option PlanKey} (λ o. IfOk c.pair_key.result (λ found. found ≡ o))
    (ap (λ (o : Option ℕ). option_map (λ (doc : ℕ). Pair (stored_value type m key) doc) o) (sym c.in-Some.is ∙ c.first_in_list.ensures.first)
    ∙ first_pair_is type m ps some c.requires.pairs key c.value-list.result (c.from_raw-key.ensures ∙ c.key.ensures m c.requires.at) (c.value-list.ensures m c.requires.at)) told

pub returns-in-None-clause-first : goal.returns-in-None-clause-first
returns-in-None-clause-first g c =
    let m = g.F.Frozen.records c.args.frozen.now in
    let type = c.args.value_type in
    let key = c.from_raw-key.result in
    let ps = pairs_from m c.args.cursor.now in
    let some : ps ≢ [] = λ none. true≢false (sym ((c.at_end.ensures.pairs m c.requires.at).1 none) ∙ c.if-at_end.false) in
    ap (λ (o : Option ℕ). option_map (λ (doc : ℕ). Pair (stored_value type m key) doc) o) (sym c.in-None.is ∙ c.first_in_list.ensures.first)
    ∙ first_pair_is type m ps some c.requires.pairs key c.value-list.result (c.from_raw-key.ensures ∙ c.key.ensures m c.requires.at) (c.value-list.ensures m c.requires.at)
