use Rattle.std.proofs.Common.{◌≡◌, ◌++◌, map}
use Rattle.std.specs.Vec.Iter.{into_iter_items}
use Rattle.query_results.specs.Runs.{as_group}
use Rattle.query_results.proofs.group_keys.groups_of.Given as goal

abbrev pub invariant-loop-key : goal.invariant-loop-key
invariant-loop-key l = l.groups ++ map as_group (into_iter_items l.key-iterator) ≡ map as_group l.fn.keys.items
