use Rattle.std.proofs.Common.{◌≡◌, ◌≤◌, ◌*◌, length, take}
use Rattle.std.specs.List.{flat_map}
use Rattle.attr_saver.specs.Bytes.{item_bytes}
use Rattle.attr_saver.proofs.sizing.items_size.Given as goal

-- the bytes of the items so far
abbrev pub invariant-loop-item : goal.invariant-loop-item
invariant-loop-item l = record {
  size : l.size ≡ length (flat_map (item_bytes l.kind) (take l.item-index l.items));
  small : l.size ≤ 1030 * l.item-index;
}
