use Rattle.std.proofs.Common.{◌<◌, ◌∙◌, ℕ, length, arith, ap, subst}
use Rattle.query_results.specs.Attributes.{value_in}
use Rattle.query_results.specs.Ranks.{ranked}
use Rattle.query_results.specs.Walks.{IsWalk}
use Rattle.query_results.proofs.ListLemmas.{one_more}
use Rattle.query_results.proofs.ranks.ranked_along.Goals as goal

pub loop-doc-preserved : goal.loop-doc-preserved
loop-doc-preserved g c =
    let records = g.F.Frozen.records in
    let m = records c.args.frozen.now in
    let a = c.args.attribute.now in
    let docs = c.args.docs.now in
    let k = c.loop-doc.doc-index in
    let doc = c.doc-item.result in
    let before = c.loop-doc.invariant in
    let below : k < length docs = omega (arith, c.loop-doc-test.true) in
    record {
      same = c.next_ranked.ensures.same ∙ before.same;
      walk = subst (λ (f : g.row.F.Denot). IsWalk (records f) a.documents c.next_ranked.new.walk) before.same c.next_ranked.ensures.walk;
      whole = one_more (λ (n : ℕ). ranked c.args.direction (value_in g.row.OFFSET_BITS m a n, n)) docs k doc c.loop-doc.list.items c.push.new.self.items _ _ below c.doc-item.is
          c.in_ok-push.ensures.items
          (c.in_ok-ranked.ensures.ranked ∙ ap (λ (f : g.row.F.Denot). ranked c.args.direction (value_in g.row.OFFSET_BITS (records f) a doc, doc)) before.same)
          before.whole;
    }
