use Rattle.std.proofs.Common.{ℕ, List, ap, ◌∙◌}
use Rattle.std.proofs.lemmas.Result.{IfOk-weaker}
use Rattle.std.specs.List.{filter_map}
use Rattle.std.specs.Option.{option_and_then}
use Rattle.image_format.specs.Images.{table_of}
use Rattle.result_model.specs.Totals.{long_of, no_totals, number_of, with_numbers}
use Rattle.result_model.specs.Values.{first_value}
use Rattle.query_results.specs.Attributes.{number_in}
use Rattle.query_results.proofs.ListLemmas.{same_filter_map}
use Rattle.query_results.proofs.numbers.totals.Goals as goal

pub returns-clause-totals : goal.returns-clause-totals
returns-clause-totals g c =
    let records = g.F.Frozen.records in
    let frozen = c.args.frozen.now in
    let a = c.attribute_of-attribute.result in
    let of = c.attribute_of-attribute.ensures.attribute in
    let bits = g.row.OFFSET_BITS in
    IfOk-weaker c.totals_along.result _ _
    (λ found is.
    is ∙ ap (λ (f : g.row.F.Denot). with_numbers no_totals (filter_map (number_in bits (records f) a) c.as_slice-2.result.now)) c.attribute_of-attribute.ensures.same
    ∙ ap (λ (docs : List ℕ). with_numbers no_totals (filter_map (number_in bits (records frozen) a) docs)) c.as_slice-2.ensures
    ∙ ap (with_numbers no_totals)
    (same_filter_map (number_in bits (records frozen) a) (number_of c.args.field (table_of (g.F.Frozen.shape frozen) (records frozen) c.args.root))
    (λ doc. ap (λ items. option_and_then long_of (first_value items)) (of.items doc)) c.args.docs.now))
    c.totals_along.ensures.totals
