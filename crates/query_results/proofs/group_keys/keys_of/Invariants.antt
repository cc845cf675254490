use Rattle.std.proofs.Common.{◌≡◌, ◌++◌, map}
use Rattle.std.specs.Vec.Iter.{into_iter_items}
use Rattle.query_results.specs.Runs.{as_group_key}
use Rattle.query_results.proofs.group_keys.keys_of.Given as goal

abbrev pub invariant-loop-group : goal.invariant-loop-group
invariant-loop-group l = l.keys.items ++ map as_group_key (into_iter_items l.group-iterator) ≡ map as_group_key l.fn.groups
