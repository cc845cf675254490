use Rattle.std.proofs.Common.{◌<◌, ◌∙◌, ℕ, length, arith, ap, subst}
use Rattle.attr_types.specs.Value.{value_cmp, values_of}
use Rattle.index_model.specs.Columns.{items_of}
use Rattle.result_model.specs.Orders.{in_order}
use Rattle.query_results.specs.Attributes.{column_in}
use Rattle.query_results.specs.Walks.{IsWalk}
use Rattle.query_results.proofs.ListLemmas.{some_more}
use Rattle.query_results.proofs.facets.distinct_along.Goals as goal

pub loop-doc-preserved : goal.loop-doc-preserved
loop-doc-preserved g c =
    let records = g.F.Frozen.records in
    let m = records c.args.frozen.now in
    let a = c.args.attribute.now in
    let docs = c.args.docs.now in
    let k = c.loop-doc.doc-index in
    let doc = c.doc-item.result in
    let before = c.loop-doc.invariant in
    let below : k < length docs = omega (arith, c.loop-doc-test.true) in
    record {
      same = c.next_distinct.ensures.same ∙ before.same;
      walk = subst (λ (f : g.row.F.Denot). IsWalk (records f) a.documents c.next_distinct.new.walk) before.same c.next_distinct.ensures.walk;
      whole = some_more (λ (n : ℕ). in_order value_cmp (values_of (items_of (column_in g.row.OFFSET_BITS m a) n))) docs k doc
          c.loop-doc.list.items c.append.new.self.items _ c.in_ok-values.values.items below c.doc-item.is
          c.in_ok-append.ensures.items
          (c.in_ok-values.ensures.values ∙ ap (λ (f : g.row.F.Denot). in_order value_cmp (values_of (items_of (column_in g.row.OFFSET_BITS (records f) a) doc))) before.same)
          before.whole;
    }
