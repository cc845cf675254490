use Rattle.std.proofs.Common.{◌≡◌, take}
use Rattle.attr_engine.specs.Writing.{operations_of_rounds}
use Rattle.attr_engine.proofs.writing.counts_of.Given as goal

-- the counts so far
abbrev pub invariant-loop-round : goal.invariant-loop-round
invariant-loop-round l = l.counts ≡ operations_of_rounds (take l.round-index l.rounds)
