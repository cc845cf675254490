use Rattle.std.proofs.Common.{◌≡◌, sym, ap, ◌∙◌}
use Rattle.std.specs.Map.{keys_of}
use Rattle.image_format.specs.Postings.{index_of}
use Rattle.index_model.specs.Index.{list_of}
use Rattle.index_model.specs.Leaves.{listed, meeting}
use Rattle.attr_types.specs.declared.query.Leaf.{Leaf}
use Rattle.query_eval.proofs.ValueLemmas.{value_listed, word_listed}
use Rattle.query_eval.proofs.members.word_of_leaf.Goals as goal

pub returns-in-Is-clause-docs : goal.returns-in-Is-clause-docs
returns-in-Is-clause-docs g c =
    let m = g.F.Frozen.records c.args.frozen.now in
    let type = c.args.dictionary.values in
    let root = c.args.dictionary.root in
    let value = c.in-Is.value in
    let same : keys_of (list_of value (index_of type m root)) ≡ listed (meeting c.args.leaf.now (index_of type m root)) =
    sym (value_listed type m root value c.requires) ∙ ap (λ (leaf : Leaf). listed (meeting leaf (index_of type m root))) (sym c.in-Is.is) in
    word_listed m c.word_of.result (list_of value (index_of type m root)) (listed (meeting c.args.leaf.now (index_of type m root))) c.word_of.ensures.list same
