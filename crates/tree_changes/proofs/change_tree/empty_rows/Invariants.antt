use Rattle.std.proofs.Common.{◌≡◌, [], length}
use Rattle.std.specs.List.{AllByRecursion}
use Rattle.tree_changes.specs.Layers.{AreEmpty}
use Rattle.tree_changes.proofs.change_tree.empty_rows.Given as goal

abbrev pub invariant-loop : goal.invariant-loop
invariant-loop l = record {
  empty : AreEmpty l.rows.items;
  none : AllByRecursion (λ row. row.nodes.items ≡ []) l.rows.items;
  size : length l.rows.items ≡ l.counter;
}
