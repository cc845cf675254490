use Rattle.std.proofs.Common.{rules, ◌≡◌, ◌∙◌, ◌<◌, ◌≤◌, sym, ap, cond, true, false, length, Ok, Err}
use Rattle.query_text.specs.Dot.{dot_is_ended, dot_after}
use Rattle.query_text.proofs.RunLemmas.{run-more, run-none, run-end}
use Rattle.query_text.proofs.dot.survey.dot_survey_of.Goals as goal

pub returns-in-None : goal.returns-in-None
returns-in-None c =
    let inside : c.loop-place.place < length c.args.text.now = search rules in
    sym (run-none (dot_after c.args.fields.now c.args.text.now) dot_is_ended _ c.args.text.now _ _ inside (search rules) (sym c.in-None.ensures)) ∙ c.loop-place.invariant

pub loop-place-preserved : goal.loop-place-preserved
loop-place-preserved c =
    let inside : c.loop-place.place < length c.args.text.now = search rules in
    let more = sym (run-more (dot_after c.args.fields.now c.args.text.now) dot_is_ended _ c.args.text.now _ _ _ inside (search rules) (sym c.in-Some.ensures)) ∙ c.loop-place.invariant in
    more

pub returns-then-is_whole : goal.returns-then-is_whole
returns-then-is_whole c =
    let past : length c.args.text.now ≤ c.loop-place.place = search rules in
    let whole : dot_is_ended c.loop-place.survey ≡ true = sym c.is_whole.ensures ∙ c.if-is_whole.true in
    ap (λ b. cond b (Ok c.loop-place.survey) (Err c.loop-place.place)) (sym whole)
    ∙ sym (run-end (dot_after c.args.fields.now c.args.text.now) dot_is_ended _ c.args.text.now _ past) ∙ c.loop-place.invariant

pub returns-else-is_whole : goal.returns-else-is_whole
returns-else-is_whole c =
    let past : length c.args.text.now ≤ c.loop-place.place = search rules in
    let here : length c.args.text.now ≡ c.loop-place.place = search rules in
    let part : dot_is_ended c.loop-place.survey ≡ false = sym c.is_whole.ensures ∙ c.if-is_whole.false in
    ap Err here
    ∙ ap (λ b. cond b (Ok c.loop-place.survey) (Err c.loop-place.place)) (sym part)
    ∙ sym (run-end (dot_after c.args.fields.now c.args.text.now) dot_is_ended _ c.args.text.now _ past) ∙ c.loop-place.invariant
