use Rattle.std.proofs.Common.{◌≡◌, ◌≤◌, ◌+◌, ◌++◌, length}
use Rattle.std.specs.Vec.Iter.{into_iter_items}
use Rattle.query_results.specs.Runs.{with_run}
use Rattle.query_results.proofs.runs.runs_after.Given as goal

-- the groups so far, and those of the last group and of the values that are left
abbrev pub invariant-loop-value : goal.invariant-loop-value
invariant-loop-value l = record {
  count : l.last.count + length (into_iter_items l.value-iterator) ≤ 1 + length l.fn.rest.items;
  whole : l.groups ++ with_run l.last.value l.last.count (into_iter_items l.value-iterator) ≡ with_run l.fn.first 1 l.fn.rest.items;
}
