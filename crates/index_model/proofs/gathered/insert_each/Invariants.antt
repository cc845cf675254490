use Rattle.std.proofs.Common.{◌≡◌, ◌||◌, ℕ, drop}
use Rattle.index_model.proofs.gathered.insert_each.Given as goal
use Rattle.index_model.specs.Sets.{has, in_words}

abbrev pub invariant-loop-doc : goal.invariant-loop-doc
invariant-loop-doc l =
    (doc : ℕ) → (in_words l.set doc || has (drop l.doc-index l.docs) doc) ≡ (in_words l.fn.set doc || has l.docs doc)
