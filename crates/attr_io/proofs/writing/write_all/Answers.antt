use Rattle.std.proofs.Common.{◌∙◌, arith, length-drop}
use Rattle.std.proofs.KnownBytes.{Appends-trans}
use Rattle.std.proofs.Math.Seq.{take-add}
use Rattle.std.proofs.lemmas.List.{take_rest}
use Rattle.attr_io.proofs.writing.write_all.Goals as goal

-- the front has grown by the bytes that the sink took of the rest
pub loop-at-preserved : goal.loop-at-preserved
loop-at-preserved g c =
    let bound = rw take_rest at c.in_ok-count.ensures.bound in
    let gained = rw take_rest at c.in_ok-count.ensures.bytes in
    record {
      within = omega (arith, bound, length-drop c.loop-at.at c.args.text.now);
      written = rw take-add (Appends-trans _ _ _ _ _ c.loop-at.invariant.written gained);
      kept = c.in_ok-count.ensures.cause.kept ∙ c.loop-at.invariant.kept;
    }
