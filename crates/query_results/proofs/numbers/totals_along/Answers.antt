use Rattle.std.proofs.Common.{◌<◌, ◌+◌, ◌∙◌, length, arith, ap, subst}
use Rattle.query_results.specs.Attributes.{number_in}
use Rattle.query_results.specs.Walks.{IsWalk}
use Rattle.query_results.proofs.ListLemmas.{one_number}
use Rattle.query_results.proofs.numbers.totals_along.Goals as goal

pub loop-doc-preserved : goal.loop-doc-preserved
loop-doc-preserved g c =
    let records = g.F.Frozen.records in
    let m = records c.args.frozen.now in
    let a = c.args.attribute.now in
    let docs = c.args.docs.now in
    let k = c.loop-doc.doc-index in
    let doc = c.doc-item.result in
    let before = c.loop-doc.invariant in
    let below : k < length docs = omega (arith, c.loop-doc-test.true) in
    let read = c.in_ok-number.ensures.number ∙ ap (λ (f : g.row.F.Denot). number_in g.row.OFFSET_BITS (records f) a doc) before.same in
    record {
      same = c.next_number.ensures.same ∙ before.same;
      walk = subst (λ (f : g.row.F.Denot). IsWalk (records f) a.documents c.next_number.new.walk) before.same c.next_number.ensures.walk;
      passed = ap (λ n. n + 1) before.passed;
      count = omega (arith, c.add_next.ensures.count, before.passed);
      sum = omega (arith, c.add_next.ensures.sum, before.passed);
      whole = one_number (number_in g.row.OFFSET_BITS m a) docs k doc c.loop-doc.totals c.add_next.new.totals _ _ below c.doc-item.is read c.add_next.ensures.totals before.whole;
    }
