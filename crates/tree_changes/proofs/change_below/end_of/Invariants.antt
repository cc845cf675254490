use Rattle.std.proofs.Common.{◌≡◌, ◌≢◌, ℕ, ◌<◌, ◌≤◌, Some}
use Rattle.std.specs.List.{slice_get}
use Rattle.std.specs.declared.cmp.Ordering.TheVariants.{Less}
use Rattle.tree_read.specs.Keys.{seen_by}
use Rattle.tree_changes.proofs.change_below.end_of.Given as goal

abbrev pub invariant-loop-at : goal.invariant-loop-at
invariant-loop-at g l =
    let key = g.K.KeyOrder in
    record {
      same : l.frozen ≡ l.fn.frozen;
      below : (i : ℕ) → l.first ≤ i → i < l.at → (change : _) → slice_get l.changes i ≡ Some change
          → seen_by key.read key.order (key.sought change.key) (g.F.Frozen.records l.fn.frozen) l.stored ≢ Less;
    }
