use Rattle.std.proofs.Common.{◌≡◌, length}
use Rattle.tree_read.specs.SearchPlaces.{pairs_behind}
use Rattle.tree_read.proofs.PlaceLemmas.{Climbs}
use Rattle.tree_read.proofs.cursor.Cursor.next_leaf.Given as goal

abbrev pub invariant-loop-step : goal.invariant-loop-step
invariant-loop-step g l =
    let m = g.F.Frozen.records l.fn.frozen in
    record {
      same : l.frozen ≡ l.fn.frozen;
      root : l.self.root ≡ l.fn.self.root;
      climbs : Climbs m l.self.root l.self.path (pairs_behind m 0 l.fn.self.path);
    }

abbrev pub decreases-loop-step : goal.decreases-loop-step
decreases-loop-step g l = length l.self.path
