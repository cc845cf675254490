use Rattle.std.proofs.Common.{◌≡◌, ◌++◌, map, take, drop}
use Rattle.buffer_states.specs.Buffers.{with_dropped_held}
use Rattle.buffer_states.proofs.Buffers.hold_dropped.Given as goal

abbrev pub invariant-loop-buffer : goal.invariant-loop-buffer
invariant-loop-buffer l =
    l.buffer-items ≡ map with_dropped_held (take l.buffer-index l.initial.buffer-items) ++ drop l.buffer-index l.initial.buffer-items
