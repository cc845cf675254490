use Rattle.std.proofs.Common.{◌≡◌, drop}
use Rattle.image_format.specs.Values.{stored_text}
use Rattle.attr_saver.proofs.StoredLemmas.{text_rest}
use Rattle.attr_saver.proofs.WriteLemmas.{IsFront}
use Rattle.attr_saver.proofs.stored_values.write_words.Given as goal

-- the words so far are written
abbrev pub invariant-loop-i : goal.invariant-loop-i
invariant-loop-i g l =
    let ws = g.F.Frozen.records l.fn.frozen l.stored in
    record {
      same : l.frozen ≡ l.fn.frozen;
      so_far : IsFront (g.K.Sink.taken l.fn.sink) (g.K.Sink.taken l.sink) (g.K.Sink.faults l.fn.sink) (g.K.Sink.faults l.sink)
          (text_rest l.count l.i (drop 1 ws)) (stored_text ws);
    }
