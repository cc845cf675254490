use Rattle.std.proofs.Common.{◌≡◌, ◌<◌, ℕ, false}
use Rattle.buffer_states.specs.Buffers.{buffer_at, is_state_free}
use Rattle.buffer_states.proofs.Buffers.lowest_free.Given as goal

abbrev pub invariant-loop-buffer : goal.invariant-loop-buffer
invariant-loop-buffer l = (a : ℕ) → a < l.buffer → is_state_free (buffer_at l.self-inside.buffers.items a).state ≡ false
