use Rattle.std.proofs.Common.{◌≡◌, ◌∙◌, drop, [], ◌∷◌, ◌++◌, rules, arith}
use Rattle.std.proofs.lemmas.Grind.{common_steps}
use Rattle.std.proofs.lemmas.Result.{err_from_is_err_and}
use Rattle.feed_reader.proofs.ListLemmas.{values_more, values_fault, values_end}
use Rattle.feed_reader.proofs.items.values_in.Goals as goal

pub returns-in_err-value_in : goal.returns-in_err-value_in
returns-in_err-value_in c =
    let p = err_from_is_err_and c.from_residual-in_err-value_in.result c.from_residual-in_err-value_in.ensures.1 in
    rw (p.1, p.2) (values_fault c.args.value c.loop-json.values.items c.args.list.now c.loop-json.json-index c.json-item.result c.in_err-value_in.field-0.0 _ c.loop-json-test.true c.json-item.is c.in_err-value_in.ensures
    c.loop-json.invariant)

pub loop-json-preserved : goal.loop-json-preserved
loop-json-preserved c =
    let pushed : c.push.new.self.items ≡ c.loop-json.values.items ++ c.in_ok-value_in.field-0 ∷ [] = search rules in
    rw pushed (values_more c.args.value c.loop-json.values.items c.args.list.now c.loop-json.json-index c.json-item.result c.in_ok-value_in.field-0 c.loop-json-test.true c.json-item.is c.in_ok-value_in.ensures
    ∙ c.loop-json.invariant)

pub returns : goal.returns
returns c =
    let past : drop c.loop-json.json-index c.args.list.now ≡ [] = grind (arith, common_steps) in
    values_end c.args.value c.loop-json.values.items _ (rw past at c.loop-json.invariant)
