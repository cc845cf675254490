use Rattle.std.proofs.Common.{◌-◌, length}
use Rattle.index_model.proofs.gathered.place_near.Given as goal
use Rattle.index_model.specs.Sets.{AreBelow}

abbrev pub invariant-loop-place : goal.invariant-loop-place
invariant-loop-place l = AreBelow l.list l.doc l.place

abbrev pub decreases-loop-place : goal.decreases-loop-place
decreases-loop-place l = length l.list - l.place
