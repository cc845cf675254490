use Rattle.std.proofs.Common.{◌≡◌, ◌≤◌, ◌++◌, drop, length}
use Rattle.std.specs.List.{zip}
use Rattle.tree_changes.specs.Merges.{merged}
use Rattle.tree_changes.specs.Layers.{seen_changes}
use Rattle.tree_changes.proofs.change_below.change_leaf.Given as goal

abbrev pub invariant-loop-slot : goal.invariant-loop-slot
invariant-loop-slot g l =
    let key = g.K.KeyOrder in
    let changes = seen_changes key.read key.order (λ change. key.sought change.key) (λ change. change.pair) (g.F.Frozen.records l.fn.frozen) l.changes in
    record {
      same : l.frozen ≡ l.fn.frozen;
      even : length l.row.keys.items ≡ length l.row.nodes.items;
      within : l.at ≤ length l.changes;
      done : zip l.row.keys.items l.row.nodes.items ++ merged (drop l.at changes) (drop l.slot (zip l.keys l.values))
          ≡ zip l.fn.row.keys.items l.fn.row.nodes.items ++ merged changes (zip l.keys l.values);
    }
