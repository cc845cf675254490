use Rattle.std.proofs.Common.{◌≡◌, ◌++◌, ℕ, drop}
use Rattle.std.specs.List.{flat_map}
use Rattle.attr_types.specs.Value.{value_cmp, values_of}
use Rattle.index_model.specs.Columns.{items_of}
use Rattle.result_model.specs.Orders.{in_order}
use Rattle.query_results.specs.Attributes.{column_in}
use Rattle.query_results.specs.Walks.{IsWalk}
use Rattle.query_results.proofs.facets.distinct_along.Given as goal

-- the values so far, and those of the documents that are left
abbrev pub invariant-loop-doc : goal.invariant-loop-doc
invariant-loop-doc g l =
    let m = g.F.Frozen.records l.fn.frozen in
    record {
      same : l.frozen ≡ l.fn.frozen;
      walk : IsWalk m l.attribute.documents l.walk;
      whole : l.list.items ++ flat_map (λ (doc : ℕ). in_order value_cmp (values_of (items_of (column_in g.row.OFFSET_BITS m l.attribute) doc))) (drop l.doc-index l.docs)
          ≡ flat_map (λ (doc : ℕ). in_order value_cmp (values_of (items_of (column_in g.row.OFFSET_BITS m l.attribute) doc))) l.docs;
    }
