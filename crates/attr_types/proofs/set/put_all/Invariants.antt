use Rattle.std.proofs.Common.{◌≡◌, drop}
use Rattle.attr_types.specs.Weights.{put_weights}
use Rattle.attr_types.proofs.set.put_all.Given as goal

abbrev pub invariant-loop-item : goal.invariant-loop-item
invariant-loop-item l =
    put_weights l.weights.entries (drop l.item-index l.items) ≡ put_weights l.fn.weights.entries l.items
