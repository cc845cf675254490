use Rattle.std.proofs.Common.{◌≡◌, length}
use Rattle.attr_types.specs.Fitting.{ascends}
use Rattle.attr_types.specs.Value.{values_of}
use Rattle.check_images.proofs.documents.rise.Given as goal

-- what is left ascends just where all does
abbrev pub invariant-loop-rest : goal.invariant-loop-rest
invariant-loop-rest l = ascends (values_of l.rest) ≡ ascends (values_of l.items)

abbrev pub decreases-loop-rest : goal.decreases-loop-rest
decreases-loop-rest l = length l.rest
