use Rattle.std.proofs.Common.{◌*◌}
use Rattle.index_model.proofs.bits.list_of.Given as goal
use Rattle.index_model.specs.Sets.{in_words, HoldsBelow}

abbrev pub invariant-loop-place : goal.invariant-loop-place
invariant-loop-place l = HoldsBelow l.docs (64 * l.place) (in_words l.words)
