use Rattle.std.proofs.Common.{◌≡◌}
use Rattle.image_format.specs.Words.{stored_items}
use Rattle.attr_saver.proofs.StoredLemmas.{words_rest}
use Rattle.attr_saver.proofs.WriteLemmas.{IsFront}
use Rattle.attr_saver.proofs.stored_items.write_list.Given as goal

-- the items so far are written
abbrev pub invariant-loop-i : goal.invariant-loop-i
invariant-loop-i g l =
    let m = g.F.Frozen.records l.fn.frozen in
    let ws = stored_items (m l.list) in
    record {
      same : l.frozen ≡ l.fn.frozen;
      so_far : IsFront (g.K.Sink.taken l.fn.sink) (g.K.Sink.taken l.sink) (g.K.Sink.faults l.fn.sink) (g.K.Sink.faults l.sink)
          (words_rest l.kind l.value_type m l.i ws) (words_rest l.kind l.value_type m 0 ws);
    }
