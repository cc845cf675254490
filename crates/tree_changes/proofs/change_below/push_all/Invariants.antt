use Rattle.std.proofs.Common.{◌≡◌, ◌++◌, take, length}
use Rattle.std.specs.List.{zip, flat_map}
use Rattle.tree_changes.specs.Merges.{pair_of}
use Rattle.tree_changes.proofs.change_below.push_all.Given as goal

abbrev pub invariant-loop-change : goal.invariant-loop-change
invariant-loop-change g l = record {
  even : length l.row.keys.items ≡ length l.row.nodes.items;
  pairs : zip l.row.keys.items l.row.nodes.items
      ≡ zip l.fn.row.keys.items l.fn.row.nodes.items ++ flat_map (λ change. pair_of change.pair) (take l.change-index l.changes);
}
