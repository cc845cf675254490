use Rattle.std.proofs.Common.{◌≡◌, ◌||◌, ℕ, true}
use Rattle.attr_types.specs.Lawful.{IsDocNumber}
use Rattle.index_model.specs.Sets.{has}
use Rattle.query_eval.specs.Blocks.{in_word}
use Rattle.query_eval.proofs.blocks.push_word.Given as goal

-- what is there, and the bits that are left
abbrev pub invariant-loop-left : goal.invariant-loop-left
invariant-loop-left l = record {
  numbers : (doc : ℕ) → in_word l.place l.left doc ≡ true → IsDocNumber doc;
  whole : (doc : ℕ) → (has l.docs.items doc || in_word l.place l.left doc) ≡ (has l.fn.docs.items doc || in_word l.place l.word doc);
}

abbrev pub decreases-loop-left : goal.decreases-loop-left
decreases-loop-left l = l.left
