use Rattle.std.proofs.Common.{ℕ, List, map, ap, ◌∙◌}
use Rattle.std.proofs.lemmas.Result.{IfOk-weaker}
use Rattle.image_format.specs.Images.{table_of}
use Rattle.index_model.specs.Columns.{items_of}
use Rattle.result_model.specs.Values.{items_of as items_in_table}
use Rattle.query_results.specs.Attributes.{column_in}
use Rattle.query_results.proofs.ListLemmas.{same_map}
use Rattle.query_results.proofs.bulk.values.Goals as goal

pub returns-clause-values : goal.returns-clause-values
returns-clause-values g c =
    let records = g.F.Frozen.records in
    let frozen = c.args.frozen.now in
    let a = c.attribute_of-attribute.result in
    let of = c.attribute_of-attribute.ensures.attribute in
    IfOk-weaker c.values_along.result _ _
    (λ list is.
    is ∙ ap (λ (f : g.row.F.Denot). map (items_of (column_in g.row.OFFSET_BITS (records f) a)) c.as_slice-2.result.now) c.attribute_of-attribute.ensures.same
    ∙ ap (λ (docs : List ℕ). map (items_of (column_in g.row.OFFSET_BITS (records frozen) a)) docs) c.as_slice-2.ensures
    ∙ same_map (items_of (column_in g.row.OFFSET_BITS (records frozen) a)) (items_in_table c.args.field (table_of (g.F.Frozen.shape frozen) (records frozen) c.args.root))
    of.items c.args.docs.now)
    c.values_along.ensures.values
