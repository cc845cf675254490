use Rattle.std.proofs.Common.{◌≡◌, ◌||◌, ℕ, drop}
use Rattle.std.specs.Prelude.{slice_get}
use Rattle.attr_types.specs.Query.{query_trees}
use Rattle.index_model.specs.Gathers.{is_gathered}
use Rattle.index_model.specs.Found.{found_some}
use Rattle.query_eval.proofs.queries.+gathering.Given as goal
use Rattle.query_eval.proofs.QueryLemmas.{IsCommon}
use Rattle.query_eval.specs.Indexes.{AreMatched, indexes_in}

-- what is there, and what the members that are left bring
abbrev pub invariant-gather_each-loop-query : goal.invariant-gather_each-loop-query
invariant-gather_each-loop-query g l =
    let m = g.F.Frozen.records l.fn.frozen in
    record {
      same : l.frozen ≡ l.fn.frozen;
      whole : (doc : ℕ) → (is_gathered l.all doc || found_some (query_trees (drop l.query-index l.queries.items)) (indexes_in g.row.OFFSET_BITS m l.dictionaries) doc)
          ≡ (is_gathered l.fn.gathered doc || found_some (query_trees l.queries.items) (indexes_in g.row.OFFSET_BITS m l.dictionaries) doc);
    }

abbrev pub invariant-keep_common-loop-i : goal.invariant-keep_common-loop-i
invariant-keep_common-loop-i g l =
    let indexes = indexes_in g.row.OFFSET_BITS (g.F.Frozen.records l.fn.frozen) l.dictionaries in
    record {
      same : l.frozen ≡ l.fn.frozen;
      matched : AreMatched l.fn.docs (slice_get l.queries.items l.known) indexes → (doc : ℕ) → IsCommon indexes l.queries.items l.i l.fn.docs l.common doc;
    }
