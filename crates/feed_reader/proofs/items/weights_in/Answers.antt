use Rattle.std.proofs.Common.{◌≡◌, ◌∙◌, [], ◌∷◌, rules, string_bytes, map}
use Rattle.std.specs.BTreeMap.{insert_entry}
use Rattle.std.proofs.lemmas.Result.{err_from_is_err_and}
use Rattle.attr_types.specs.Value.{value_cmp}
use Rattle.feed_reader.specs.Answers.{ReadFails}
use Rattle.feed_reader.specs.Weights.{entry_item}
use Rattle.feed_reader.specs.Values.{name_read}
use Rattle.feed_reader.proofs.WeightLemmas.{weights_more, weights_name_fault, weights_weight_fault, weights_end}
use Rattle.feed_reader.proofs.items.weights_in.Goals as goal

pub returns-in_err-named : goal.returns-in_err-named
returns-in_err-named c =
    let p = err_from_is_err_and c.from_residual.result c.from_residual.ensures.1 in
    let rest : c.loop-name.name-iterator ≡ (c.in-Some.name.now, c.in-Some.json.now) ∷ c.next.new.self = search rules in
    let fails : ReadFails c.in_err-named.field-0.0 (name_read c.args.value (string_bytes c.in-Some.name.now)) = rw c.as_str.ensures.value at c.in_err-named.ensures in
    rw (p.1, p.2) (weights_name_fault c.args.value c.loop-name.weights.entries c.in-Some.name.now c.in-Some.json.now c.in_err-named.field-0.0 _ _ _ rest fails c.loop-name.invariant)

pub returns-in_err-weight : goal.returns-in_err-weight
returns-in_err-weight c =
    let p = err_from_is_err_and c.from_residual-in_err-weight.result c.from_residual-in_err-weight.ensures.1 in
    let rest : c.loop-name.name-iterator ≡ (c.in-Some.name.now, c.in-Some.json.now) ∷ c.next.new.self = search rules in
    let named = rw c.as_str.ensures.value at c.in_ok-named.ensures in
    rw (p.1, p.2) (weights_weight_fault c.args.value c.loop-name.weights.entries c.in-Some.name.now c.in-Some.json.now c.in_ok-named.named c.in_err-weight.field-0.0 _ _ _ rest named c.in_err-weight.ensures
    c.loop-name.invariant)

pub loop-name-preserved : goal.loop-name-preserved
loop-name-preserved c =
    let rest : c.loop-name.name-iterator ≡ (c.in-Some.name.now, c.in-Some.json.now) ∷ c.next.new.self = search rules in
    let named = rw c.as_str.ensures.value at c.in_ok-named.ensures in
    let put : c.insert.new.self.entries ≡ insert_entry value_cmp c.loop-name.weights.entries c.in_ok-named.named c.in_ok-weight.weight = search rules in
    weights_more c.args.value c.loop-name.weights.entries c.insert.new.self.entries c.in-Some.name.now c.in-Some.json.now c.in_ok-named.named c.in_ok-weight.weight _ _ rest named c.in_ok-weight.ensures put
    ∙ c.loop-name.invariant

pub returns : goal.returns
returns c =
    let rest : c.loop-name.name-iterator ≡ [] = search rules in
    weights_end c.args.value (map entry_item c.loop-name.weights.entries) _ _ rest c.loop-name.invariant
