use Rattle.std.proofs.Common.{◌≡◌, ◌||◌, ℕ, drop}
use Rattle.index_model.specs.Sets.{has, in_words}
use Rattle.query_eval.proofs.kept.mark_each.Given as goal

abbrev pub invariant-loop-doc : goal.invariant-loop-doc
invariant-loop-doc l = (doc : ℕ) → (in_words l.words doc || has (drop l.doc-index l.docs) doc) ≡ (in_words l.fn.words doc || has l.docs doc)
