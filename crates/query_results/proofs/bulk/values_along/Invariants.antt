use Rattle.std.proofs.Common.{◌≡◌, ◌++◌, map, drop}
use Rattle.index_model.specs.Columns.{items_of}
use Rattle.query_results.specs.Attributes.{column_in}
use Rattle.query_results.specs.Walks.{IsWalk}
use Rattle.query_results.proofs.bulk.values_along.Given as goal

-- the items so far, and those of the documents that are left
abbrev pub invariant-loop-doc : goal.invariant-loop-doc
invariant-loop-doc g l =
    let m = g.F.Frozen.records l.fn.frozen in
    record {
      same : l.frozen ≡ l.fn.frozen;
      walk : IsWalk m l.attribute.documents l.walk;
      whole : l.list ++ map (items_of (column_in g.row.OFFSET_BITS m l.attribute)) (drop l.doc-index l.docs)
          ≡ map (items_of (column_in g.row.OFFSET_BITS m l.attribute)) l.docs;
    }
