use Rattle.std.proofs.Common.{◌≡◌, ◌/◌}
use Rattle.std.specs.Prelude.{slice_index}
use Rattle.tree_read.specs.Trees.{tree_pairs}
use Rattle.tree_read.proofs.SeekLemmas.{Sought}
use Rattle.tree_read.proofs.cursor.Cursor.seek.Given as goal

abbrev pub invariant-loop-cursor : goal.invariant-loop-cursor
invariant-loop-cursor g l =
    let m = g.F.Frozen.records l.fn.frozen in
    let key = g.K.KeyOrder in
    record {
      same : l.frozen ≡ l.fn.frozen;
      root : l.cursor-inside.root ≡ l.fn.root;
      words : l.cursor-inside.words ≡ m l.node;
      sought : Sought key.order g.met.K.KeyOrder.total (key.read m) (key.sought l.key) m (key.can_read m) (tree_pairs m l.fn.root) l.fn.root l.cursor-inside.path l.node l.spot.slot;
    }

abbrev pub decreases-loop-cursor : goal.decreases-loop-cursor
decreases-loop-cursor g l = slice_index l.cursor-inside.words 0 / 256
