use Rattle.std.proofs.Common.{◌≡◌, ◌++◌, map, take, drop}
use Rattle.buffer_states.specs.Buffers.{freed_below}
use Rattle.buffer_states.proofs.Buffers.free_below.Given as goal

abbrev pub invariant-loop-buffer : goal.invariant-loop-buffer
invariant-loop-buffer l =
    l.buffer-items ≡ map (freed_below l.oldest) (take l.buffer-index l.initial.buffer-items) ++ drop l.buffer-index l.initial.buffer-items
