use Rattle.std.proofs.Common.{◌≡◌, ℕ, ◌≤◌, ◌-◌, ◌++◌, ◌∷◌, List, length, drop}
use Rattle.std.specs.List.{zip}
use Rattle.tree_changes.specs.Merges.{merged}
use Rattle.tree_changes.specs.Layers.{seen_changes}
use Rattle.tree_changes.proofs.change_below.push_below.Given as goal

abbrev pub invariant-loop-at : goal.invariant-loop-at
invariant-loop-at g l =
    let key = g.K.KeyOrder in
    let changes = seen_changes key.read key.order (λ change. key.sought change.key) (λ change. change.pair) (g.F.Frozen.records l.fn.frozen) l.changes in
    record {
      same : l.frozen ≡ l.fn.frozen;
      even : length l.row.keys.items ≡ length l.row.nodes.items;
      within : l.at ≤ length l.changes;
      done : (value : ℕ) (ps : List (ℕ × ℕ)) → zip l.row.keys.items l.row.nodes.items ++ merged (drop l.at changes) ((l.stored, value) ∷ ps)
          ≡ zip l.fn.row.keys.items l.fn.row.nodes.items ++ merged (drop l.first changes) ((l.stored, value) ∷ ps);
    }

abbrev pub decreases-loop-at : goal.decreases-loop-at
decreases-loop-at g l = length l.changes - l.at
