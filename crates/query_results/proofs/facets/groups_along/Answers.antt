use Rattle.std.proofs.Common.{ℕ, ap, ◌∙◌}
use Rattle.std.proofs.lemmas.Result.{IfOk-weaker}
use Rattle.std.specs.List.{flat_map}
use Rattle.image_format.specs.Images.{table_of}
use Rattle.attr_types.specs.Value.{value_cmp, values_of}
use Rattle.index_model.specs.Columns.{items_of}
use Rattle.result_model.specs.Orders.{in_order}
use Rattle.query_results.specs.Attributes.{column_in}
use Rattle.query_results.specs.Runs.{groups_of}
use Rattle.query_results.proofs.GroupLemmas.{groups_are}
use Rattle.query_results.proofs.ListLemmas.{same_flat_map}
use Rattle.query_results.proofs.facets.groups_along.Goals as goal

pub returns-clause-groups : goal.returns-clause-groups
returns-clause-groups g c =
    let records = g.F.Frozen.records in
    let frozen = c.args.frozen.now in
    let bits = g.row.OFFSET_BITS in
    let a = c.attribute_of-attribute.result in
    let of = c.attribute_of-attribute.ensures.attribute in
    let table = table_of (g.F.Frozen.shape frozen) (records frozen) c.args.root in
    IfOk-weaker c.groups_in.result _ _
    (λ list is.
    is ∙ ap groups_of
    (c.in_ok-values.ensures.values
    ∙ ap (λ (f : g.row.F.Denot). flat_map (λ (doc : ℕ). in_order value_cmp (values_of (items_of (column_in bits (records f) a) doc))) c.as_slice-2.result.now) c.attribute_of-attribute.ensures.same
    ∙ ap (flat_map (λ (doc : ℕ). in_order value_cmp (values_of (items_of (column_in bits (records frozen) a) doc)))) c.as_slice-2.ensures
    ∙ same_flat_map _ _ (λ doc. ap (λ items. in_order value_cmp (values_of items)) (of.items doc)) c.args.docs.now)
    ∙ groups_are c.args.field table c.args.docs.now)
    c.groups_in.ensures
