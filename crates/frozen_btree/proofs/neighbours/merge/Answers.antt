use Rattle.std.proofs.Common.{◌≤◌, ◌++◌, length, set, ap, ◌∙◌, arith, length-append}
use Rattle.frozen_btree.proofs.SettleLemmas.{settles-merged, part-at}
use Rattle.frozen_nodes.proofs.MakesLemmas.{makes-more}
use Rattle.frozen_nodes.proofs.Results.{on_err}
use Rattle.frozen_btree.proofs.neighbours.merge.Goals as goal

pub returns-clause-settles : goal.returns-clause-settles
returns-clause-settles g c =
    let ledger = g.S.Store.ledger in
    let records = g.S.Frozen.records in
    let left = c.args.left.now in
    let right = c.args.right.now in
    let slots = c.args.slots.now in
    let part = c.in_ok-part.part in
    let keys = left.keys.items ++ right.keys.items in
    let values = left.values.items ++ right.values.items in
    let makes = part-at (ledger c.args.store.now) (ledger c.make_part.new.store) (records c.args.store.now) (records c.make_part.new.store)
    c.join.new.left.level c.join.new.left.keys.items c.join.new.left.values.items part left.level keys values
    c.join.ensures.level c.join.ensures.keys c.join.ensures.values c.in_ok-part.ensures.makes in
    let many : 8 ≤ length keys = (let some = c.requires.some in omega (arith, length-append left.keys.items right.keys.items)) in
    settles-merged (ledger c.args.store.now) (ledger c.make_part.new.store) (records c.args.store.now) (records c.make_part.new.store)
    left.level keys values part.key part.node makes.node makes.key many
    c.args.first slots.keys.items slots.values.items c.set_part.new.slots.keys.items c.set_part.new.slots.values.items c.requires.parent c.requires.first
    (c.set_part.ensures.keys ∙ ap (λ ks. set ks c.args.first part.key) c.remove.ensures.items)
    (c.set_part.ensures.values ∙ ap (λ vs. set vs c.args.first part.node) c.remove-2.ensures.items)

pub returns-in_err-part-clause-refused : goal.returns-in_err-part-clause-refused
returns-in_err-part-clause-refused g c =
    let ledger = g.S.Store.ledger in
    let records = g.S.Frozen.records in
    let s = c.args.store.now in
    let t = c.make_part.new.store in
    on_err c.from_residual.result (makes-more (ledger s) (ledger t) (records s) (records t) 0 1 (omega arith) c.in_err-part.ensures.refused)
