use Rattle.std.proofs.Common.{◌≡◌, ◌++◌, ℕ, map, drop}
use Rattle.index_model.specs.Found.{found}
use Rattle.attr_types.specs.Query.{tree_of}
use Rattle.query_eval.specs.Indexes.{indexes_in}
use Rattle.query_eval.specs.Lists.{list_has, AreListWords}
use Rattle.query_eval.proofs.members.lists_of.Given as goal

-- the lists so far, and the members that are left
abbrev pub invariant-loop-query : goal.invariant-loop-query
invariant-loop-query g l =
    let m = g.F.Frozen.records l.fn.frozen in
    let indexes = indexes_in g.row.OFFSET_BITS m l.dictionaries in
    record {
      same : l.frozen ≡ l.fn.frozen;
      words : AreListWords m l.lists.items;
      whole : (doc : ℕ) → (map (λ list. list_has m list doc) l.lists.items ++ map (λ query. found (tree_of query) indexes doc) (drop l.query-index l.queries))
          ≡ map (λ query. found (tree_of query) indexes doc) l.queries;
    }
