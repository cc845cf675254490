use Rattle.std.proofs.Common.{◌≡◌, ◌++◌, map, take, drop}
use Rattle.buffer_states.specs.Buffers.{end_filling}
use Rattle.buffer_states.proofs.Buffers.activate.Given as goal

abbrev pub invariant-loop-other : goal.invariant-loop-other
invariant-loop-other l =
    l.other-items ≡ map (end_filling l.width) (take l.other-index l.initial.other-items) ++ drop l.other-index l.initial.other-items
