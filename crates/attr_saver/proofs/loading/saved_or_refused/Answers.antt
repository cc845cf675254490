use Rattle.std.proofs.Common.{arith}
use Rattle.attr_saver.specs.Laws.{AreBytes}
use Rattle.attr_saver.proofs.Wholes.{read_ok, read_bad, reads_saves}
use Rattle.attr_saver.proofs.loading.saved_or_refused.Goals as goal

pub returns-in-Ok-clause-form : goal.returns-in-Ok-clause-form
returns-in-Ok-clause-form c = read_ok c.args.bytes.now c.in-Ok.saved c.in-Ok.ensures

pub returns-in-Ok-clause-lawful : goal.returns-in-Ok-clause-lawful
returns-in-Ok-clause-lawful c =
    let fits : AreBytes c.args.bytes.now = λ i. omega (arith, c.type_inv.bytes i) in
    (reads_saves c.args.bytes.now c.in-Ok.saved fits (read_ok c.args.bytes.now c.in-Ok.saved c.in-Ok.ensures)).0

pub returns-in-Ok-clause-bytes : goal.returns-in-Ok-clause-bytes
returns-in-Ok-clause-bytes c =
    let fits : AreBytes c.args.bytes.now = λ i. omega (arith, c.type_inv.bytes i) in
    (reads_saves c.args.bytes.now c.in-Ok.saved fits (read_ok c.args.bytes.now c.in-Ok.saved c.in-Ok.ensures)).1

pub returns-in-Err-Field-clause-form : goal.returns-in-Err-Field-clause-form
returns-in-Err-Field-clause-form c =
    rw c.saturating_sub.ensures (read_bad c.args.bytes.now c.in-Err-Field.left (rw c.in-Err-Field.field-0-is at c.in-Err-Field.ensures))
