use Rattle.std.proofs.Common.{◌≡◌, ◌∙◌, ◌++◌, [], Some, drop, option_map, append-nil, sym, ap}
use Rattle.std.proofs.Common.{arith}
use Rattle.std.proofs.lemmas.List.{drop_all}
use Rattle.attr_types.specs.Table.{updated}
use Rattle.attr_types.proofs.DocumentSteps.{no_changes}
use Rattle.attr_types.proofs.document.changed_document.Goals as goal

pub returns : goal.returns
returns c =
    let loop = c.loop-change in
    let rest : drop loop.change-index c.args.changes.now ≡ [] = drop_all loop.change-index c.args.changes.now (let no = c.loop-change-test.false in omega arith) in
    let last = ap (λ changes. updated loop.fields_left.now changes loop.document_left.now) rest
    ∙ no_changes loop.fields_left.now loop.document_left.now in
    ap Some c.from_vec-2.ensures ∙ ap Some (sym (append-nil loop.new.items)) ∙ sym (ap (option_map (λ more. loop.new.items ++ more)) last) ∙ loop.invariant.whole
