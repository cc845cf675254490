use Rattle.std.proofs.Common.{◌∙◌, ap, Err}
use Rattle.std.proofs.lemmas.Result.{err_from_is_err_and}
use Rattle.attr_run.proofs.TaskLemmas.{read-ops, feed-stopped}
use Rattle.attr_run.proofs.feed.lines_in.Goals as goal

pub returns-in_err-ops-clause-unfed : goal.returns-in_err-ops-clause-unfed
returns-in_err-ops-clause-unfed c =
    let p = err_from_is_err_and c.from_residual.result c.from_residual.ensures.1 in
    let e = c.in_err-ops.ensures in
    rw (p.1 ∙ ap Err p.2) (feed-stopped c.args.fields.now c.args.bytes.now 0 0 c.in_err-ops.field-0.0 e.feed e.within (λ is. e.too_long (ap Err is)) (λ is. e.no_fault (ap Err is)))

pub returns-clause-fed : goal.returns-clause-fed
returns-clause-fed c = read-ops c.args.fields.now c.args.bytes.now c.in_ok-ops.ops c.in_ok-ops.ensures.feed c.in_ok-ops.ensures.within
