use Rattle.std.proofs.Common.{◌≡◌, length, map, take}
use Rattle.posting_store.proofs.LeafLemmas.{doc_word, weight_word}
use Rattle.posting_store.proofs.making.make_leaf.Given as goal

abbrev pub invariant-loop-i : goal.invariant-loop-i
invariant-loop-i g l = record {
  keys_size : length l.keys ≡ 9;
  values_size : length l.values ≡ 9;
  keys_are : take l.i l.keys ≡ map doc_word (take l.i l.items);
  values_are : take l.i l.values ≡ map weight_word (take l.i l.items);
}
