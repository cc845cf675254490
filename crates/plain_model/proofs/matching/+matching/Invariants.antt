use Rattle.std.proofs.Common.{◌≡◌, drop}
use Rattle.attr_types.specs.Query.{all_match, some_match, query_trees}
use Rattle.plain_model.proofs.matching.+matching.Given as goal

-- the members that are left decide as all do
abbrev pub invariant-do_all_match-loop-query : goal.invariant-do_all_match-loop-query
invariant-do_all_match-loop-query l =
    all_match (query_trees (drop l.query-index l.query-items)) l.document ≡ all_match (query_trees l.query-items) l.document

abbrev pub invariant-does_some_match-loop-query : goal.invariant-does_some_match-loop-query
invariant-does_some_match-loop-query l =
    some_match (query_trees (drop l.query-index l.query-items)) l.document ≡ some_match (query_trees l.query-items) l.document
