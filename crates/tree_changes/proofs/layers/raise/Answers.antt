use Rattle.std.proofs.Common.{arith, refl, get_or}
use Rattle.list_lemmas.proofs.Tests.{zero_from_test}
use Rattle.tree_changes.proofs.LayerLemmas.{on_ok, raised, raises-none}
use Rattle.tree_changes.proofs.layers.raise.Goals as goal

pub returns-then-is_empty-clause-raises : goal.returns-then-is_empty-clause-raises
returns-then-is_empty-clause-raises g c =
    let row = c.args.row.now in
    let none = zero_from_test row.keys.len c.is_empty.result c.is_empty.ensures c.if-is_empty.true in
    let size = row.keys.ok.0 in
    raises-none (g.S.Store.ledger c.args.store.now) (g.S.Frozen.records c.args.store.now) c.args.level row.keys.items row.nodes.items c.args.above.now
    (omega arith) c.requires.hand c.requires.rows

pub returns-clause-raises : goal.returns-clause-raises
returns-clause-raises g c =
    let ledger = g.S.Store.ledger in
    let records = g.S.Frozen.records in
    let row = c.args.row.now in
    on_ok c.close_row.result
    (raised (ledger c.args.store.now) (ledger c.close_row.new.store) (records c.args.store.now) (records c.close_row.new.store) c.args.level row.keys.items row.nodes.items
    (get_or c.args.above.now 0 c.index-above-0.result) c.close_row.new.above c.index-above-0.result c.args.above.now c.close_row.ensures.makes.keeps c.requires.rows c.requires.some refl)
    c.close_row.ensures.closes
