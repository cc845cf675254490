use Rattle.std.proofs.Common.{◌≡◌, ◌++◌}
use Rattle.tree_read.specs.Nodes.{level_of, used_of}
use Rattle.tree_read.specs.Trees.{pairs_below}
use Rattle.tree_read.specs.SearchPlaces.{Leads, pairs_behind}
use Rattle.tree_read.proofs.cursor.Cursor.enter.Given as goal

abbrev pub invariant-loop-head : goal.invariant-loop-head
invariant-loop-head g l =
    let m = g.F.Frozen.records l.fn.frozen in
    record {
      same : l.frozen ≡ l.fn.frozen;
      root : l.self-inside.root ≡ l.fn.self.root;
      leads : Leads m l.self-inside.root l.self-inside.path l.node;
      level : l.head.level ≡ level_of (m l.node);
      used : l.head.used ≡ used_of (m l.node);
      pairs : pairs_below m (level_of (m l.node)) l.node ++ pairs_behind m (level_of (m l.node)) l.self-inside.path
          ≡ pairs_below m (level_of (m l.fn.below)) l.fn.below ++ pairs_behind m (level_of (m l.fn.below)) l.fn.self.path;
    }

abbrev pub decreases-loop-head : goal.decreases-loop-head
decreases-loop-head g l = l.head.level
