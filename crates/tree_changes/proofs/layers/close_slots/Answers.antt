use Rattle.std.proofs.Common.{arith}
use Rattle.tree_changes.proofs.LayerLemmas.{on_ok, close-few, close-one}
use Rattle.tree_changes.proofs.layers.close_slots.Goals as goal

pub add_group-requires-clause-few : goal.add_group-requires-clause-few
add_group-requires-clause-few g c =
    close-few (g.S.Frozen.records c.args.store.now) c.args.level c.args.keys.now c.args.nodes.now c.requires.hand (let few = c.if-keys-le-MOST_SLOTS.true in omega arith) c.requires.few

pub returns-then-keys-le-MOST_SLOTS-clause-closes : goal.returns-then-keys-le-MOST_SLOTS-clause-closes
returns-then-keys-le-MOST_SLOTS-clause-closes g c =
    let ledger = g.S.Store.ledger in
    let records = g.S.Frozen.records in
    on_ok c.add_group.result
    (close-one (ledger c.args.store.now) (ledger c.add_group.new.store) (records c.args.store.now) (records c.add_group.new.store) c.args.level c.args.keys.now c.args.nodes.now
    c.args.above.now.keys.items c.args.above.now.nodes.items c.add_group.new.row.keys.items c.add_group.new.row.nodes.items c.requires.hand c.requires.many
    (let few = c.if-keys-le-MOST_SLOTS.true in omega arith))
    c.add_group.ensures.adds
