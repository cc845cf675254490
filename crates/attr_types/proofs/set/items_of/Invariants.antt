use Rattle.std.proofs.Common.{◌≡◌, ◌++◌}
use Rattle.attr_types.specs.Weights.{weights_of}
use Rattle.attr_types.proofs.set.items_of.Given as goal

abbrev pub invariant-loop-value : goal.invariant-loop-value
invariant-loop-value l = weights_of l.items ++ l.value-iterator ≡ l.fn.weights.entries
