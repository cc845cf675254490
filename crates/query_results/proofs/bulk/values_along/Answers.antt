use Rattle.std.proofs.Common.{◌<◌, ◌∙◌, length, arith, ap, subst}
use Rattle.index_model.specs.Columns.{items_of}
use Rattle.query_results.specs.Attributes.{column_in}
use Rattle.query_results.specs.Walks.{IsWalk}
use Rattle.query_results.proofs.ListLemmas.{one_more}
use Rattle.query_results.proofs.bulk.values_along.Goals as goal

pub loop-doc-preserved : goal.loop-doc-preserved
loop-doc-preserved g c =
    let records = g.F.Frozen.records in
    let m = records c.args.frozen.now in
    let a = c.args.attribute.now in
    let docs = c.args.docs.now in
    let k = c.loop-doc.doc-index in
    let doc = c.doc-item.result in
    let before = c.loop-doc.invariant in
    let below : k < length docs = omega (arith, c.loop-doc-test.true) in
    record {
      same = c.next_items.ensures.same ∙ before.same;
      walk = subst (λ (f : g.row.F.Denot). IsWalk (records f) a.documents c.next_items.new.walk) before.same c.next_items.ensures.walk;
      whole = one_more (items_of (column_in g.row.OFFSET_BITS m a)) docs k doc c.loop-doc.list c.push.new.self _ _ below c.doc-item.is
          c.in_ok-push.ensures.ok
          (c.in_ok-items.ensures.items ∙ ap (λ (f : g.row.F.Denot). items_of (column_in g.row.OFFSET_BITS (records f) a) doc) before.same)
          before.whole;
    }
