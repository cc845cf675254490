use Rattle.std.proofs.Common.{◌≡◌, ◌<◌, ℕ, List, Option, length, ap, subst, ◌∙◌}
use Rattle.std.proofs.lemmas.Result.{IfOk-weaker}
use Rattle.std.specs.Prelude.{IfSome, Vec}
use Rattle.std.specs.declared.alloc.Global.{Global}
use Rattle.index_model.specs.Found.{found}
use Rattle.index_model.specs.Sets.{has}
use Rattle.attr_types.specs.Query.{and, query_trees}
use Rattle.query_eval.specs.Indexes.{indexes_in}
use Rattle.query_eval.specs.Lists.{all_have, AreListsOf}
use Rattle.query_eval.proofs.JoinLemmas.{members_and, some_weaker}
use Rattle.query_eval.proofs.common.common_of_many.Goals as goal

pub returns-in-Some-clause-docs : goal.returns-in-Some-clause-docs
returns-in-Some-clause-docs g c =
    let m = g.F.Frozen.records c.args.frozen.now in
    let queries = c.args.queries.now in
    let indexes = indexes_in g.row.OFFSET_BITS m c.args.dictionaries.now in
    let lists = c.in-Some.lists.items in
    let are = subst (λ (o : Option (Vec ℕ Global)). IfSome o (λ (words : Vec ℕ Global). AreListsOf m words.items queries indexes)) c.in-Some.is c.in_ok-lists.ensures.lists in
    IfOk-weaker c.common_of_all.result _ _
    (λ (common : Option (List ℕ)) is. some_weaker _ (λ docs. (doc : ℕ) → has docs doc ≡ found (and (query_trees queries)) indexes doc)
    (λ docs both. λ doc.
    both.1 doc ∙ ap (λ (f : g.row.F.Denot). all_have (g.F.Frozen.records f) c.as_slice.result.now doc) c.in_ok-lists.ensures.same
    ∙ ap (λ (ls : List ℕ). all_have m ls doc) c.as_slice.ensures.value
    ∙ members_and m lists queries indexes doc are (subst (λ (ls : List ℕ). 0 < length ls) c.as_slice.ensures.value both.0)) common is)
    c.common_of_all.ensures.docs
