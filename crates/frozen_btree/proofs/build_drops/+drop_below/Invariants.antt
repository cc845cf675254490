use Rattle.std.proofs.Common.{◌-◌, take}
use Rattle.std.specs.List.{flat_map}
use Rattle.tree_read.specs.Nodes.{node_values}
use Rattle.tree_read.specs.Trees.{nodes_below}
use Rattle.frozen_btree.specs.Changes.{DropsEntries}
use Rattle.frozen_btree.proofs.build_drops.+drop_below.Given as goal

abbrev pub decreases-drop_below : goal.decreases-drop_below
decreases-drop_below g l = l.level

abbrev pub invariant-loop-child : goal.invariant-loop-child
invariant-loop-child g l =
    let m = g.S.Frozen.records l.fn.store in
    DropsEntries (g.S.Store.ledger l.fn.store) (g.S.Store.ledger l.store) m (g.S.Frozen.records l.store)
    (flat_map (nodes_below m (l.level - 1)) (take l.child-index (node_values (m l.node))))
