use Rattle.std.proofs.Common.{◌≡◌, ◌∙◌, Ok, drop, [], ◌∷◌, ◌++◌, rules, arith}
use Rattle.std.proofs.lemmas.Grind.{common_steps}
use Rattle.std.proofs.lemmas.Result.{err_from_is_err_and}
use Rattle.serde_json.specs.View.{view}
use Rattle.serde_json.specs.Find.{get}
use Rattle.feed_reader.specs.Answers.{ReadFails}
use Rattle.feed_reader.specs.Grammar.{each_field, update_read}
use Rattle.feed_reader.proofs.ListLemmas.{fields_more, fields_fault, fields_end}
use Rattle.feed_reader.proofs.fields.changes_in.Goals as goal

pub returns-in_err-update_in : goal.returns-in_err-update_in
returns-in_err-update_in c =
    let p = err_from_is_err_and c.from_residual-in_err-update_in.result c.from_residual-in_err-update_in.ensures.1 in
    let fails : ReadFails c.in_err-update_in.field-0.0 (update_read c.field-item.result (get c.field-item.result.name (view c.args.members.now))) = rw (c.get.ensures, c.as_str.ensures) at c.in_err-update_in.ensures in
    rw (p.1, p.2) (fields_fault update_read c.loop-field.changes.items c.args.fields.now c.loop-field.field-index c.field-item.result
    (view c.args.members.now) c.in_err-update_in.field-0.0 _ c.loop-field-test.true c.field-item.is fails c.loop-field.invariant)

pub loop-field-preserved : goal.loop-field-preserved
loop-field-preserved c =
    let pushed : c.push.new.self.items ≡ c.loop-field.changes.items ++ c.in_ok-update_in.field-0 ∷ [] = search rules in
    let read : update_read c.field-item.result (get c.field-item.result.name (view c.args.members.now)) ≡ Ok c.in_ok-update_in.field-0 = rw (c.get.ensures, c.as_str.ensures) at c.in_ok-update_in.ensures in
    rw pushed (fields_more update_read c.loop-field.changes.items c.args.fields.now c.loop-field.field-index c.field-item.result
    (view c.args.members.now) c.in_ok-update_in.field-0 c.loop-field-test.true c.field-item.is read
    ∙ c.loop-field.invariant)

pub returns : goal.returns
returns c =
    let past : drop c.loop-field.field-index c.args.fields.now ≡ [] = grind (arith, common_steps) in
    fields_end update_read c.loop-field.changes.items (view c.args.members.now) (each_field update_read c.args.fields.now (view c.args.members.now)) (rw past at c.loop-field.invariant)
