use Rattle.std.proofs.Common.{ℕ, ◌≡◌, ◌++◌, Option, sym, subst, OnOk}
use Rattle.std.specs.List.{zip}
use Rattle.tree_changes.specs.Merges.{pair_of}
use Rattle.tree_changes.proofs.LayerLemmas.{on_ok_both, pushed-even, pushed-pairs}
use Rattle.tree_changes.proofs.change_below.push_pair.Goals as goal

pub returns-in-Some-clause-even : goal.returns-in-Some-clause-even
returns-in-Some-clause-even c =
    let row = c.args.row.now in
    let next = c.push_slot.new.row in
    on_ok_both c.push_slot.result (pushed-even row.keys.items row.nodes.items next.keys.items next.nodes.items c.in-Some.word c.in-Some.value c.requires.even) c.push_slot.ensures.keys c.push_slot.ensures.nodes

pub returns-in-Some-clause-pairs : goal.returns-in-Some-clause-pairs
returns-in-Some-clause-pairs c =
    let row = c.args.row.now in
    let next = c.push_slot.new.row in
    subst (λ (pair : Option (ℕ × ℕ)). OnOk c.push_slot.result (zip next.keys.items next.nodes.items ≡ zip row.keys.items row.nodes.items ++ pair_of pair)) (sym c.in-Some.is)
    (on_ok_both c.push_slot.result (pushed-pairs row.keys.items row.nodes.items next.keys.items next.nodes.items c.in-Some.word c.in-Some.value c.requires.even) c.push_slot.ensures.keys c.push_slot.ensures.nodes)
