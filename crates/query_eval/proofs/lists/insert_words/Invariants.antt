use Rattle.std.proofs.Common.{◌≡◌, ◌||◌, ℕ, map, drop}
use Rattle.std.specs.Map.{keys_of}
use Rattle.image_format.specs.Words.{unpacked}
use Rattle.index_model.specs.Postings.{HaveDocNumbers}
use Rattle.index_model.specs.Sets.{has, in_words}
use Rattle.query_eval.proofs.lists.insert_words.Given as goal

abbrev pub invariant-loop-word : goal.invariant-loop-word
invariant-loop-word l = record {
  left : HaveDocNumbers (map unpacked (drop l.word-index l.words));
  whole : (doc : ℕ) → (in_words l.set doc || has (keys_of (map unpacked (drop l.word-index l.words))) doc)
      ≡ (in_words l.fn.set doc || has (keys_of (map unpacked l.words)) doc);
}
