use Rattle.std.proofs.Common.{◌≡◌, ◌<◌, ◌≤◌, ◌-◌, length}
use Rattle.tree_read.specs.Nodes.{used_of, IsNodeForm}
use Rattle.entry_ref.specs.Maps.{seen}
use Rattle.check_images.proofs.Walks.{Walked}
use Rattle.check_images.proofs.tree.+walk.Given as goal

abbrev pub decreases-walk : goal.decreases-walk
decreases-walk l = l.level

abbrev pub invariant-loop-i : goal.invariant-loop-i
invariant-loop-i l = record {
  words : l.words ≡ seen l.records l.reference;
  size : length l.words ≡ 34;
  room : l.used ≤ 16;
  form : IsNodeForm l.level l.least (seen l.records l.reference);
  above : 0 < l.level;
  used : l.used ≡ used_of (seen l.records l.reference);
  begin : l.begin ≡ length l.fn.pairs.items;
  walked : Walked l.keys (seen l.records) (l.level - 1) (seen l.records l.reference) l.fn.pairs.items l.pairs.items l.i;
}
