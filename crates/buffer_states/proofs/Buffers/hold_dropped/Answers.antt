use Rattle.std.proofs.Common.{arith}
use Rattle.std.proofs.lemmas.List.{get_or_default}
use Rattle.std.proofs.lemmas.List.Edits.{map_over_more}
use Rattle.buffer_states.specs.Buffers.{with_dropped_held, buffer_at, new_buffer}
use Rattle.buffer_states.proofs.Buffers.hold_dropped.Goals as goal

pub loop-buffer-preserved : goal.loop-buffer-preserved
loop-buffer-preserved c =
    let xs = c.loop-buffer.buffer-items in
    let i = c.loop-buffer.buffer-index in
    map_over_more with_dropped_held c.deref_mut-buffer-items.result.now xs i (buffer_at xs i) c.loop-buffer-test.true c.loop-buffer.invariant
    (get_or_default xs i new_buffer (buffer_at xs i) (omega (arith, c.loop-buffer.auto.buffer-items, c.loop-buffer-test.true)))
