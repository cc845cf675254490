use Rattle.std.proofs.Common.{rules, ◌≡◌, ◌∙◌, ◌+◌, ◌-◌, length, Some, [], ◌∷◌, ◌++◌, sym, ap}
use Rattle.query_text.specs.Dot.{part_front, parts_front}
use Rattle.query_text.proofs.ListLemmas.{FindsNone-along}
use Rattle.query_text.proofs.PartLemmas.{after_parts, parts_front-end, no_part, no_part_mark, last_part, one_part}
use Rattle.query_text.proofs.dot.read.parts_up_to_end.Goals as goal

pub returns-in-Err : goal.returns-in-Err
returns-in-Err c =
    FindsNone-along c.in-Err.error (part_front c.loop-count.rest.now) _
    (no_part c.loop-count.parts (length c.args.bytes.now) c.loop-count._count c.loop-count.rest.now _
    c.loop-count.invariant (search rules))
    c.in-Err.ensures

pub returns-in-Some-false-default : goal.returns-in-Some-false-default
returns-in-Some-false-default c =
    let parts = c.loop-count.parts in
    let pushed : c.push.new.self ≡ parts ++ c.in-Ok.found.0 ∷ [] = search rules in
    let mark = sym c.in-Some-false-default.ensures
    ∙ ap (λ b. Some (b, c.in-Some-false-default.field-0-1.now)) c.in-Some-false-default.field-0-0-test in
    last_part parts (length c.args.bytes.now) c.loop-count._count c.loop-count.rest.now _
    c.loop-count.invariant (search rules) _ _ _ c.in-Ok.ensures mark
    ∙ ap (λ list. Some list) (sym pushed)

pub returns-in-None : goal.returns-in-None
returns-in-None c =
    no_part_mark c.loop-count.parts (length c.args.bytes.now) c.loop-count._count c.loop-count.rest.now _
    c.loop-count.invariant (search rules) _ _ c.in-Ok.ensures (sym c.in-None.ensures)

pub loop-count-preserved : goal.loop-count-preserved
loop-count-preserved c =
    let parts = c.loop-count.parts in
    let pushed : c.push.new.self ≡ parts ++ c.in-Ok.found.0 ∷ [] = search rules in
    let mark = sym c.in-Some-true-default.ensures
    ∙ ap (λ b. Some (b, c.in-Some-true-default.others.now)) c.in-Some-true-default.field-0-0-test in
    ap (λ list. after_parts list (parts_front (length c.args.bytes.now - (c.loop-count._count + 1)) c.in-Some-true-default.others.now)) pushed
    ∙ one_part parts (length c.args.bytes.now) c.loop-count._count c.loop-count.rest.now _
    c.loop-count.invariant (search rules) _ _ _ c.in-Ok.ensures mark

pub returns : goal.returns
returns c =
    sym c.loop-count.invariant
    ∙ ap (after_parts c.loop-count.parts) (parts_front-end (length c.args.bytes.now) c.loop-count._count c.loop-count.rest.now (search rules))
