use Rattle.std.proofs.Common.{◌≡◌, [], take}
use Rattle.frozen_btree.specs.Changes.{DropsEntries}
use Rattle.frozen_btree.proofs.make_drops.drop_nodes.Given as goal

abbrev pub invariant-loop-node : goal.invariant-loop-node
invariant-loop-node g l = record {
  drops : DropsEntries (g.S.Store.ledger l.fn.store) (g.S.Store.ledger l.store)
      (g.S.Frozen.records l.fn.store) (g.S.Frozen.records l.store) (take l.node-index l.nodes);
  none : l.nodes ≡ [] → l.store ≡ l.fn.store;
}
