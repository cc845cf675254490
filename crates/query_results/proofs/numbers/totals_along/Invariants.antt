use Rattle.std.proofs.Common.{◌≡◌, ◌≤◌, ◌*◌, ◌^◌, drop}
use Rattle.std.specs.Int.RustNames.{unsigned_abs}
use Rattle.std.specs.List.{filter_map}
use Rattle.result_model.specs.Totals.{no_totals, with_numbers}
use Rattle.query_results.specs.Attributes.{number_in}
use Rattle.query_results.specs.Walks.{IsWalk}
use Rattle.query_results.proofs.numbers.totals_along.Given as goal

-- the totals so far, and the numbers of the documents that are left
abbrev pub invariant-loop-doc : goal.invariant-loop-doc
invariant-loop-doc g l =
    let m = g.F.Frozen.records l.fn.frozen in
    record {
      same : l.frozen ≡ l.fn.frozen;
      walk : IsWalk m l.attribute.documents l.walk;
      passed : l.passed ≡ l.doc-index;
      count : l.totals.count ≤ l.doc-index;
      sum : unsigned_abs l.totals.sum ≤ l.doc-index * 2 ^ 63;
      whole : with_numbers l.totals (filter_map (number_in g.row.OFFSET_BITS m l.attribute) (drop l.doc-index l.docs))
          ≡ with_numbers no_totals (filter_map (number_in g.row.OFFSET_BITS m l.attribute) l.docs);
    }
