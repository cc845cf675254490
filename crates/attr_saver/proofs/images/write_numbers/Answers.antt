use Rattle.std.specs.Int.{w32, to_be_bytes}
use Rattle.std.proofs.lemmas.Result.{err_from_is_err_and}
use Rattle.attr_saver.proofs.WriteLemmas.{writes-cut, writes-then}
use Rattle.attr_saver.proofs.images.write_numbers.Goals as goal

pub returns-in_err-put : goal.returns-in_err-put
returns-in_err-put g c =
    let p = err_from_is_err_and c.from_residual.result c.from_residual.ensures.1 in
    let put = rw c.to_be_bytes.ensures at c.in_err-put.ensures in
    rw (p.1, p.2) (writes-cut _ _ _ _ (to_be_bytes w32 c.args.one) (to_be_bytes w32 c.args.other) c.in_err-put.field-0.0 put)

pub returns : goal.returns
returns g c =
    let put = rw c.to_be_bytes.ensures at c.in_ok-put.ensures in
    let next = rw c.to_be_bytes-2.ensures at c.put-2.ensures in
    writes-then _ _ _ _ (to_be_bytes w32 c.args.one) _ _ (to_be_bytes w32 c.args.other) c.in_ok-put.field-0 _ put next
