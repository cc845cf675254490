use Rattle.std.proofs.Common.{◌≡◌, [], drop}
use Rattle.index_model.specs.Changes.{first_weights}
use Rattle.index_model.proofs.weights.weights_of.Given as goal

abbrev pub invariant-loop-item : goal.invariant-loop-item
invariant-loop-item l = first_weights l.weights.entries (drop l.item-index l.items) ≡ first_weights [] l.items
