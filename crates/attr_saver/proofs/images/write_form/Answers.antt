use Rattle.std.proofs.lemmas.Result.{err_from_is_err_and}
use Rattle.attr_saver.specs.Bytes.{form_bytes}
use Rattle.attr_saver.proofs.WriteLemmas.{writes-cut, writes-then}
use Rattle.attr_saver.proofs.images.write_form.Goals as goal

pub returns-in_err-put : goal.returns-in_err-put
unfolding form_bytes
returns-in_err-put g c =
    let p = err_from_is_err_and c.from_residual.result c.from_residual.ensures.1 in
    rw (p.1, p.2) (writes-cut _ _ _ _ _ _ c.in_err-put.field-0.0 c.in_err-put.ensures)

pub returns : goal.returns
unfolding form_bytes
returns g c = rw (← c.kind_byte.ensures, ← c.type_byte.ensures) (writes-then _ _ _ _ _ _ _ _ c.in_ok-put.field-0 _ c.in_ok-put.ensures c.put-2.ensures)
