use Rattle.std.proofs.Common.{◌≡◌, take, map}
use Rattle.attr_engine.specs.Writing.{operations_of_rounds}
use Rattle.attr_engine.proofs.writing.all_counts.Given as goal

-- those of the readers so far
abbrev pub invariant-loop-made : goal.invariant-loop-made
invariant-loop-made l = l.list ≡ map (λ r. operations_of_rounds r.items) (take l.made-index l.rounds)
