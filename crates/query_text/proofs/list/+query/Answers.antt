use Rattle.std.proofs.Common.{rules, ◌≡◌, ◌∙◌, ◌+◌, ◌-◌, length, map, Some, [], ◌∷◌, ◌++◌, sym, ap}
use Rattle.std.proofs.lemmas.List.{map-append}
use Rattle.attr_types.specs.Query.{tree_of}
use Rattle.query_text.specs.Reading.{list_front, query_front}
use Rattle.query_text.proofs.ListLemmas.{after_trees, FindsNone-along, list_front-end, query_front-zero, query_front-suc, no_member, no_mark, last_member, one_member}
use Rattle.query_text.proofs.list.+query.Goals as goal

pub list_in-returns-in-Err : goal.list_in-returns-in-Err
list_in-returns-in-Err t c =
    FindsNone-along c.in-Err.error (query_front c.args.fields.now c.args.levels c.loop-count.rest.now) _
    (no_member (query_front c.args.fields.now c.args.levels) (map tree_of c.loop-count.list.items) (length c.args.bytes.now) c.loop-count._count c.loop-count.rest.now _
    c.loop-count.invariant (search rules))
    c.in-Err.ensures

pub list_in-returns-in-Some-false-default : goal.list_in-returns-in-Some-false-default
list_in-returns-in-Some-false-default t c =
    let front = map tree_of c.loop-count.list.items in
    let grown : map tree_of c.push.new.self.items ≡ front ++ tree_of c.in-Ok.found.0 ∷ [] =
    ap (map tree_of) (c.in_ok-push.ensures).items ∙ map-append tree_of _ _ in
    let mark = sym c.in-Some-false-default.ensures ∙ ap (λ b. Some (b, c.in-Some-false-default.end.now)) c.in-Some-false-default.field-0-0-test in
    last_member (query_front c.args.fields.now c.args.levels) front (length c.args.bytes.now) c.loop-count._count c.loop-count.rest.now _
    c.loop-count.invariant (search rules) _ _ _ c.in-Ok.ensures mark
    ∙ ap (λ list. Some (list, c.in-Some-false-default.end.now)) (sym grown)

pub list_in-returns-in-None : goal.list_in-returns-in-None
list_in-returns-in-None t c =
    no_mark (query_front c.args.fields.now c.args.levels) (map tree_of c.loop-count.list.items) (length c.args.bytes.now) c.loop-count._count c.loop-count.rest.now _
    c.loop-count.invariant (search rules) _ _ c.in-Ok.ensures (sym c.in-None.ensures)

pub list_in-loop-count-preserved : goal.list_in-loop-count-preserved
list_in-loop-count-preserved t c =
    let front = map tree_of c.loop-count.list.items in
    let grown : map tree_of c.push.new.self.items ≡ front ++ tree_of c.in-Ok.found.0 ∷ [] =
    ap (map tree_of) (c.in_ok-push.ensures).items ∙ map-append tree_of _ _ in
    let mark = sym c.in-Some-true-default.ensures ∙ ap (λ b. Some (b, c.in-Some-true-default.others.now)) c.in-Some-true-default.field-0-0-test in
    ap (λ list. after_trees list (list_front (query_front c.args.fields.now c.args.levels) (length c.args.bytes.now - (c.loop-count._count + 1)) c.in-Some-true-default.others.now)) grown
    ∙ one_member (query_front c.args.fields.now c.args.levels) front (length c.args.bytes.now) c.loop-count._count c.loop-count.rest.now _
    c.loop-count.invariant (search rules) _ _ _ c.in-Ok.ensures mark

pub list_in-returns : goal.list_in-returns
list_in-returns t c =
    sym c.loop-count.invariant
    ∙ ap (after_trees (map tree_of c.loop-count.list.items)) (list_front-end (query_front c.args.fields.now c.args.levels) (length c.args.bytes.now) c.loop-count._count c.loop-count.rest.now (search rules))

pub query_in-returns-then-levels-eq0 : goal.query_in-returns-then-levels-eq0
query_in-returns-then-levels-eq0 t c = query_front-zero c.args.fields.now c.args.levels c.args.bytes.now c.if-levels-eq0.true

pub query_in-returns : goal.query_in-returns
query_in-returns t c = rw (query_front-suc c.args.fields.now c.args.levels c.args.bytes.now c.if-levels-eq0.false) c.query_with.ensures
