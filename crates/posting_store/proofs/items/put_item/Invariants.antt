use Rattle.std.proofs.Common.{◌≡◌, ◌≤◌, length, take}
use Rattle.std.specs.List.{AllByRecursion}
use Rattle.image_format.specs.Words.{unpacked}
use Rattle.posting_store.proofs.ItemLemmas.{DocBelow}
use Rattle.posting_store.proofs.items.put_item.Given as goal

abbrev pub invariant-loop-i : goal.invariant-loop-i
invariant-loop-i l = record {
  same : l.items.items ≡ l.fn.items.items;
  end : l.i-end ≡ length l.items.items;
  passed : AllByRecursion (DocBelow l.fn.doc) (take l.i l.items.items);
  number : l.number ≡ l.fn.doc;
  item : unpacked l.item ≡ (l.fn.doc, l.fn.weight);
  few : length l.items.items ≤ 8;
}
