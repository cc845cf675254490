use Rattle.std.proofs.Common.{◌≡◌, ◌++◌, map, drop}
use Rattle.std.specs.Map.{keys_of}
use Rattle.image_format.specs.Words.{unpacked}
use Rattle.index_model.specs.Postings.{HaveDocNumbers}
use Rattle.query_eval.proofs.lists.push_words.Given as goal

abbrev pub invariant-loop-word : goal.invariant-loop-word
invariant-loop-word l = record {
  left : HaveDocNumbers (map unpacked (drop l.word-index l.words));
  whole : l.docs.items ++ keys_of (map unpacked (drop l.word-index l.words)) ≡ l.fn.docs.items ++ keys_of (map unpacked l.words);
}
