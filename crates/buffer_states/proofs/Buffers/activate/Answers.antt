use Rattle.std.proofs.Common.{arith}
use Rattle.std.proofs.lemmas.List.{get_or_default}
use Rattle.std.proofs.lemmas.List.Edits.{map_over_more}
use Rattle.buffer_states.specs.Buffers.{end_filling, buffer_at, new_buffer}
use Rattle.buffer_states.proofs.Buffers.activate.Goals as goal

pub loop-other-preserved : goal.loop-other-preserved
loop-other-preserved c =
    let xs = c.loop-other.other-items in
    let i = c.loop-other.other-index in
    map_over_more (end_filling c.args.width) c.deref_mut-other-items.result.now xs i (buffer_at xs i) c.loop-other-test.true c.loop-other.invariant
    (get_or_default xs i new_buffer (buffer_at xs i) (omega (arith, c.loop-other.auto.other-items, c.loop-other-test.true)))
