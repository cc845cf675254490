use Rattle.std.proofs.Common.{◌≡◌, ◌++◌, take}
use Rattle.std.specs.List.{flat_map, AllByRecursion}
use Rattle.attr_saver.specs.Bytes.{item_bytes}
use Rattle.attr_saver.specs.Lawful.{IsStorable}
use Rattle.attr_saver.proofs.writing.push_items.Given as goal

-- the items so far are written
abbrev pub invariant-loop-item : goal.invariant-loop-item
invariant-loop-item l = record {
  bytes : l.out.items ≡ l.initial.out.items ++ flat_map (item_bytes l.kind) (take l.item-index l.items);
  fits : AllByRecursion IsStorable (take l.item-index l.items);
}
