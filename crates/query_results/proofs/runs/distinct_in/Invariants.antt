use Rattle.std.proofs.Common.{◌≡◌, ◌++◌, map}
use Rattle.std.specs.Vec.Iter.{into_iter_items}
use Rattle.attr_types.specs.Value.{values_of}
use Rattle.query_results.proofs.runs.distinct_in.Given as goal

abbrev pub invariant-loop-item : goal.invariant-loop-item
invariant-loop-item l = l.values.items ++ map (λ item. item.value) (into_iter_items l.item-iterator) ≡ values_of l.fn.items
