use Rattle.std.proofs.Common.{◌&&◌, ℕ, Bool, List, sym, ap, ◌∙◌}
use Rattle.std.proofs.lemmas.Result.{IfOk-weaker}
use Rattle.index_model.proofs.DocLemmas.{kept_has}
use Rattle.index_model.proofs.gathered.Gathered.kept_of.Goals as goal
use Rattle.index_model.specs.Gathers.{is_gathered}
use Rattle.index_model.specs.Sets.{has}
use Rattle.index_model.specs.declared.gathered.Gathered.{Gathered}

pub returns-in-Few : goal.returns-in-Few
returns-in-Few c =
    let docs = c.args.docs.now in
    IfOk-weaker c.kept_listed.result _ _
    (λ kept is. λ doc. ap (λ (xs : List ℕ). has xs doc) is ∙ kept_has (has c.sorted_list-list.result) docs doc
    ∙ ap (λ (b : Bool). has docs doc && b)
    (c.sorted_list-list.ensures.exact doc ∙ sym (ap (λ (g : Gathered). is_gathered g doc) c.in-Few.is)))
    c.kept_listed.ensures

pub returns-in-Many : goal.returns-in-Many
returns-in-Many c =
    let docs = c.args.docs.now in
    IfOk-weaker c.kept_in_set.result _ _
    (λ kept is. λ doc. is doc
    ∙ ap (λ (b : Bool). has docs doc && b) (sym (ap (λ (g : Gathered). is_gathered g doc) c.in-Many.is)))
    c.kept_in_set.ensures
