use Rattle.std.specs.Int.{w32, to_be_bytes}
use Rattle.std.proofs.Common.{◌++◌}
use Rattle.std.proofs.lemmas.Result.{err_from_is_err_and}
use Rattle.attr_saver.specs.Bytes.{form_bytes, head_bytes}
use Rattle.attr_saver.proofs.WriteLemmas.{writes-cut, writes-then}
use Rattle.attr_saver.proofs.images.write_head.Goals as goal

pub returns-in_err-write_form : goal.returns-in_err-write_form
unfolding head_bytes form_bytes
returns-in_err-write_form g c =
    let p = err_from_is_err_and c.from_residual.result c.from_residual.ensures.1 in
    rw (p.1, p.2) (writes-cut _ _ _ _ (form_bytes c.args.kind c.args.value_type) (to_be_bytes w32 c.args.operations ++ to_be_bytes w32 c.args.documents)
    c.in_err-write_form.field-0.0 c.in_err-write_form.ensures)

pub returns : goal.returns
unfolding head_bytes form_bytes
returns g c =
    writes-then _ _ _ _ (form_bytes c.args.kind c.args.value_type) _ _ (to_be_bytes w32 c.args.operations ++ to_be_bytes w32 c.args.documents) c.in_ok-write_form.field-0 _
    c.in_ok-write_form.ensures c.write_numbers.ensures
