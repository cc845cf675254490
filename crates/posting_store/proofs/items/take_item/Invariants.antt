use Rattle.std.proofs.Common.{◌≡◌, length, take}
use Rattle.std.specs.List.{AllByRecursion}
use Rattle.posting_store.proofs.ItemLemmas.{DocApart}
use Rattle.posting_store.proofs.items.take_item.Given as goal

abbrev pub invariant-loop-i : goal.invariant-loop-i
invariant-loop-i l = record {
  same : l.items.items ≡ l.fn.items.items;
  end : l.i-end ≡ length l.items.items;
  passed : AllByRecursion (DocApart l.fn.doc) (take l.i l.items.items);
  number : l.number ≡ l.fn.doc;
}
