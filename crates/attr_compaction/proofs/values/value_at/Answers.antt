use Rattle.std.proofs.Common.{◌≡◌, ◌≢◌, ℕ, [], true≢false, Some, Option, option_map, sym, ap, subst, ◌∙◌, arith}
use Rattle.tree_read.specs.SearchPlaces.{pairs_from}
use Rattle.image_format.specs.Values.{stored_value, IsValueRecord}
use Rattle.attr_compaction.specs.declared.plan.PlanKey.TheVariants.{Value}
use Rattle.enum_dictionary.proofs.BehindLemmas.{first_of_all}
use Rattle.unique_store.proofs.RecordLemmas.{value_there}
use Rattle.attr_compaction.proofs.NextLemmas.{pair_first, pair_none}
use Rattle.attr_compaction.proofs.values.value_at.Goals as goal

pub returns-then-at_end-clause-value : goal.returns-then-at_end-clause-value
returns-then-at_end-clause-value g c =
    let m = g.F.Frozen.records c.args.frozen.now in
    let ps = pairs_from m c.args.cursor.now in
    let none : ps ≡ [] = (c.at_end.ensures.pairs m c.requires.at).0 c.if-at_end.true in
    sym (ap (λ (o : Option (ℕ × ℕ)). option_map (λ (p : ℕ × ℕ). Value (stored_value c.args.value_type m p.0)) o) (pair_none ps none))

pub overflow_cast-key : goal.overflow_cast-key
overflow_cast-key g c =
    let m = g.F.Frozen.records c.args.frozen.now in
    let ps = pairs_from m c.args.cursor.now in
    let some : ps ≢ [] = λ none. true≢false (sym ((c.at_end.ensures.pairs m c.requires.at).1 none) ∙ c.if-at_end.false) in
    let is = subst (λ k. IsValueRecord c.args.value_type (m k)) (sym (c.key.ensures m c.requires.at)) (first_of_all (λ k. IsValueRecord c.args.value_type (m k)) ps some c.requires.values) in
    let below = g.met.F.Frozen.references c.args.frozen.now c.key.result (omega (arith, value_there c.args.value_type (m c.key.result) is)) in
    omega arith

pub get-requires : goal.get-requires
get-requires g c =
    let m = g.F.Frozen.records c.args.frozen.now in
    let ps = pairs_from m c.args.cursor.now in
    let some : ps ≢ [] = λ none. true≢false (sym ((c.at_end.ensures.pairs m c.requires.at).1 none) ∙ c.if-at_end.false) in
    (omega arith, subst (λ k. IsValueRecord c.args.value_type (m k)) (sym (c.from_raw-key.ensures ∙ c.key.ensures m c.requires.at)) (first_of_all (λ k. IsValueRecord c.args.value_type (m k)) ps some c.requires.values))

pub returns-clause-value : goal.returns-clause-value
returns-clause-value g c =
    let m = g.F.Frozen.records c.args.frozen.now in
    let type = c.args.value_type in
    let ps = pairs_from m c.args.cursor.now in
    let some : ps ≢ [] = λ none. true≢false (sym ((c.at_end.ensures.pairs m c.requires.at).1 none) ∙ c.if-at_end.false) in
    ap (λ v. Some (Value v)) c.in_ok-value.ensures.value
    ∙ ap (λ (k : ℕ). Some (Value (stored_value type m k))) (c.from_raw-key.ensures ∙ c.key.ensures m c.requires.at)
    ∙ sym (ap (λ (o : Option (ℕ × ℕ)). option_map (λ (p : ℕ × ℕ). Value (stored_value type m p.0)) o) (pair_first ps some))
