use Rattle.std.specs.Int.{w16, to_be_bytes}
use Rattle.std.proofs.Common.{length}
use Rattle.std.proofs.lemmas.Result.{err_from_is_err_and}
use Rattle.image_format.specs.Values.{stored_text}
use Rattle.attr_saver.proofs.WriteLemmas.{writes-cut, writes-then}
use Rattle.attr_saver.proofs.stored_values.write_text.Goals as goal

pub returns-in_err-put-clause-writes : goal.returns-in_err-put-clause-writes
returns-in_err-put-clause-writes g c =
    let text = stored_text (g.F.Frozen.records c.args.frozen.now c.args.stored) in
    let p = err_from_is_err_and c.from_residual.result c.from_residual.ensures.1 in
    let put = rw (c.to_be_bytes.ensures, c.text_len-count.ensures.len) at c.in_err-put.ensures in
    rw (p.1, p.2) (writes-cut _ _ _ _ (to_be_bytes w16 (length text)) text c.in_err-put.field-0.0 put)

pub returns-clause-writes : goal.returns-clause-writes
returns-clause-writes g c =
    let text = stored_text (g.F.Frozen.records c.args.frozen.now c.args.stored) in
    let put = rw (c.to_be_bytes.ensures, c.text_len-count.ensures.len) at c.in_ok-put.ensures in
    let next = rw c.text_len-count.ensures.same at c.write_words.ensures.writes in
    writes-then _ _ _ _ (to_be_bytes w16 (length text)) _ _ text c.in_ok-put.field-0 _ put next
