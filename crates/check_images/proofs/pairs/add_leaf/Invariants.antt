use Rattle.std.proofs.Common.{◌≡◌, ◌≤◌, ◌++◌, take, length}
use Rattle.std.specs.List.{zip}
use Rattle.tree_read.specs.Nodes.{used_of, node_keys, node_values}
use Rattle.check_images.specs.Keys.{PairsAscend}
use Rattle.entry_ref.specs.Maps.{seen}
use Rattle.check_images.proofs.pairs.add_leaf.Given as goal

abbrev pub invariant-loop-i : goal.invariant-loop-i
invariant-loop-i l = record {
  size : length l.words ≡ 34;
  room : used_of l.words ≤ 16;
  used : l.used ≡ used_of l.words;
  pairs : l.pairs.items ≡ l.fn.pairs.items ++ zip (take l.i (node_keys l.words)) (take l.i (node_values l.words));
  ascends : PairsAscend l.keys (seen l.records) l.pairs.items;
}
