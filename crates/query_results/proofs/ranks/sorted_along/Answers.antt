use Rattle.std.proofs.Common.{ℕ, map, ap, ◌∙◌}
use Rattle.std.proofs.lemmas.Result.{IfOk-weaker}
use Rattle.image_format.specs.Images.{table_of}
use Rattle.result_model.specs.Orders.{with_value}
use Rattle.result_model.specs.Values.{first_value, value_of}
use Rattle.query_results.specs.Attributes.{value_in}
use Rattle.query_results.specs.Ranks.{ranked}
use Rattle.query_results.proofs.RankLemmas.{same_ranks}
use Rattle.query_results.proofs.ranks.sorted_along.Goals as goal

pub returns-clause-sorted : goal.returns-clause-sorted
returns-clause-sorted g c =
    let records = g.F.Frozen.records in
    let frozen = c.args.frozen.now in
    let bits = g.row.OFFSET_BITS in
    let a = c.attribute_of-attribute.result in
    let of = c.attribute_of-attribute.ensures.attribute in
    let table = table_of (g.F.Frozen.shape frozen) (records frozen) c.args.root in
    IfOk-weaker c.in_order_of.result _ _
    (λ docs is.
    is c.args.direction (map (with_value c.args.field table) c.args.docs.now)
    (c.in_ok-list.ensures.ranked
    ∙ ap (λ (f : g.row.F.Denot). map (λ (doc : ℕ). ranked c.args.direction (value_in bits (records f) a doc, doc)) c.as_slice-2.result.now) c.attribute_of-attribute.ensures.same
    ∙ ap (map (λ (doc : ℕ). ranked c.args.direction (value_in bits (records frozen) a doc, doc))) c.as_slice-2.ensures
    ∙ same_ranks c.args.direction (value_in bits (records frozen) a) (value_of c.args.field table) (λ doc. ap first_value (of.items doc)) c.args.docs.now))
    c.in_order_of.ensures
