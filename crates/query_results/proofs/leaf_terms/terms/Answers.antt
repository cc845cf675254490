use Rattle.std.proofs.Common.{take, ap, ◌∙◌}
use Rattle.std.proofs.lemmas.Result.{IfOk-weaker}
use Rattle.image_format.specs.Images.{table_of}
use Rattle.index_model.specs.Leaves.{meeting}
use Rattle.query_results.specs.Dictionaries.{index_in, terms_of}
use Rattle.query_results.proofs.DictionaryLemmas.{terms_are}
use Rattle.query_results.proofs.leaf_terms.terms.Goals as goal

pub returns-clause-terms : goal.returns-clause-terms
returns-clause-terms g c =
    let records = g.F.Frozen.records in
    let frozen = c.args.frozen.now in
    let m = records frozen in
    let bits = g.row.OFFSET_BITS in
    let d = c.dictionary_of-dictionary.result in
    let of = c.dictionary_of-dictionary.ensures.dictionary in
    IfOk-weaker c.terms_in.result _ _
    (λ terms is.
    is ∙ ap (λ (f : g.row.F.Denot). take c.args.count (terms_of (meeting c.args.leaf.now (index_in bits (records f) d)))) c.dictionary_of-dictionary.ensures.same
    ∙ terms_are c.args.field (table_of (g.F.Frozen.shape frozen) m c.args.root) (index_in bits m d) of.ascends of.index c.args.leaf.now c.args.count)
    c.terms_in.ensures.terms
