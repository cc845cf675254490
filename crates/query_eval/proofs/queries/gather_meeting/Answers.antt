use Rattle.std.proofs.Common.{◌≡◌, ◌||◌, ℕ, List, sym, ap, ◌∙◌}
use Rattle.std.proofs.lemmas.Result.{IfOk-weaker}
use Rattle.std.specs.Map.{keys_of}
use Rattle.image_format.specs.Postings.{index_of}
use Rattle.index_model.specs.Index.{list_of}
use Rattle.attr_types.specs.declared.query.Leaf.{Leaf}
use Rattle.index_model.specs.Gathers.{is_gathered}
use Rattle.index_model.specs.Sets.{has}
use Rattle.index_model.specs.Leaves.{listed, meeting}
use Rattle.query_eval.proofs.ValueLemmas.{value_listed}
use Rattle.query_eval.proofs.queries.gather_meeting.Goals as goal

pub returns-in-Is-clause-docs : goal.returns-in-Is-clause-docs
returns-in-Is-clause-docs g c =
    let m = g.F.Frozen.records c.args.frozen.now in
    let type = c.args.dictionary.values in
    let root = c.args.dictionary.root in
    let value = c.in-Is.value in
    let same : keys_of (list_of value (index_of type m root)) ≡ listed (meeting c.args.leaf.now (index_of type m root)) =
    sym (value_listed type m root value c.requires) ∙ ap (λ (leaf : Leaf). listed (meeting leaf (index_of type m root))) (sym c.in-Is.is) in
    IfOk-weaker c.with_value.result _ _
    (λ all is. λ doc. is doc ∙ ap (λ (ks : List ℕ). is_gathered c.args.gathered doc || has ks doc) same)
    c.with_value.ensures.docs
