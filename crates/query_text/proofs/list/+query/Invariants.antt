use Rattle.std.proofs.Common.{◌≡◌, ◌+◌, ◌-◌, ◌*◌, length, map}
use Rattle.attr_types.specs.Query.{tree_of}
use Rattle.query_text.specs.Reading.{list_front, query_front}
use Rattle.query_text.proofs.ListLemmas.{after_trees}
use Rattle.query_text.proofs.list.+query.Given as goal

abbrev pub decreases-list_in : goal.decreases-list_in
decreases-list_in l = 3 * l.levels + 1

abbrev pub decreases-query_in : goal.decreases-query_in
decreases-query_in l = 3 * l.levels

abbrev pub decreases-query_with : goal.decreases-query_with
decreases-query_with l = 3 * l.levels + 2

abbrev pub invariant-list_in-loop-count : goal.invariant-list_in-loop-count
invariant-list_in-loop-count l =
    after_trees (map tree_of l.list.items) (list_front (query_front l.fields l.levels) (length l.bytes - l._count) l.rest)
    ≡ list_front (query_front l.fields l.levels) (length l.bytes) l.bytes
