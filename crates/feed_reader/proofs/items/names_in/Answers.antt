use Rattle.std.proofs.Common.{◌≡◌, ◌∙◌, [], ◌∷◌, ◌++◌, rules, string_bytes}
use Rattle.std.proofs.lemmas.Result.{err_from_is_err_and}
use Rattle.feed_reader.specs.Answers.{ReadFails}
use Rattle.feed_reader.specs.Values.{name_read}
use Rattle.feed_reader.proofs.ListLemmas.{names_more, names_fault, names_end}
use Rattle.feed_reader.proofs.items.names_in.Goals as goal

pub returns-in_err-value_named_by : goal.returns-in_err-value_named_by
returns-in_err-value_named_by c =
    let p = err_from_is_err_and c.from_residual-in_err-value_named_by.result c.from_residual-in_err-value_named_by.ensures.1 in
    let rest : c.loop-name.name-iterator ≡ (c.in-Some.name.now, c.in-Some.field-0-1.now) ∷ c.next.new.self = search rules in
    let fails : ReadFails c.in_err-value_named_by.field-0.0 (name_read c.args.value (string_bytes c.in-Some.name.now)) = rw c.as_str.ensures.value at c.in_err-value_named_by.ensures in
    rw (p.1, p.2) (names_fault c.args.value c.loop-name.values.items c.in-Some.name.now c.in-Some.field-0-1.now c.in_err-value_named_by.field-0.0 _ _ _ rest fails c.loop-name.invariant)

pub loop-name-preserved : goal.loop-name-preserved
loop-name-preserved c =
    let rest : c.loop-name.name-iterator ≡ (c.in-Some.name.now, c.in-Some.field-0-1.now) ∷ c.next.new.self = search rules in
    let pushed : c.push.new.self.items ≡ c.loop-name.values.items ++ c.in_ok-value_named_by.field-0 ∷ [] = search rules in
    let named = rw c.as_str.ensures.value at c.in_ok-value_named_by.ensures in
    rw pushed (names_more c.args.value c.loop-name.values.items c.in-Some.name.now c.in-Some.field-0-1.now c.in_ok-value_named_by.field-0 _ _ rest named
    ∙ c.loop-name.invariant)

pub returns : goal.returns
returns c =
    let rest : c.loop-name.name-iterator ≡ [] = search rules in
    names_end c.args.value c.loop-name.values.items _ _ rest c.loop-name.invariant
