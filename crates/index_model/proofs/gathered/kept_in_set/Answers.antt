use Rattle.std.proofs.Common.{List, ℕ, ap, ◌∙◌}
use Rattle.std.proofs.lemmas.Result.{IfOk-weaker}
use Rattle.index_model.proofs.DocLemmas.{kept_has}
use Rattle.index_model.proofs.gathered.kept_in_set.Goals as goal
use Rattle.index_model.specs.Sets.{has, in_words}

pub returns-else-are_many : goal.returns-else-are_many
returns-else-are_many c =
    let docs = c.args.docs.now in
    IfOk-weaker c.kept_in.result _ _
    (λ kept is. λ doc. ap (λ (xs : List ℕ). has xs doc) is ∙ kept_has (in_words c.args.set.now) docs doc)
    c.kept_in.ensures
