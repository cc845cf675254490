use Rattle.std.proofs.Common.{◌∙◌, sym, ap, subst, Err, IsOkAnd, Result}
use Rattle.std.proofs.lemmas.Result.{err_from_is_err_and}
use Rattle.feed_reader.specs.Feed.{most_bytes}
use Rattle.attr_report.specs.Run.{Run, run_in}
use Rattle.attr_run.specs.Answers.{ReadsAsAsked}
use Rattle.attr_run.specs.Settings.{IsAskedBy}
use Rattle.attr_run.specs.declared.outcome.Status.{Status}
use Rattle.std.proofs.Common.{List}
use Rattle.attr_io.proofs.ReadLemmas.{reads_none}
use Rattle.attr_types.specs.declared.op.Op.{Op}
use Rattle.attr_engine.specs.Run.{IsRunOf}
use Rattle.attr_run.proofs.RunLemmas.{answered, memory-of, proper-of, refused-of}
use Rattle.attr_run.proofs.TaskLemmas.{of-run, unfed-stopped, unread-run}
use Rattle.attr_run.proofs.RuleLemmas.{ruled-unfed}
use Rattle.attr_run.proofs.run.reported.Goals as goal

pub returns-in_err-ops-clause-stopped : goal.returns-in_err-ops-clause-stopped
returns-in_err-ops-clause-stopped g c =
    let p = err_from_is_err_and c.from_residual-in_err-ops.result c.from_residual-in_err-ops.ensures.1 in
    rw (p.1 ∙ ap Err p.2) (unfed-stopped c.args.words.now (g.S.Source.left c.args.source.now) _ _
    (run_in c.in_ok-request.request) c.in_err-ops.field-0.0 c.in_ok-request.ensures.asked c.in_err-ops.ensures.unfed)

pub returns-in_err-ops-clause-unread : goal.returns-in_err-ops-clause-unread
returns-in_err-ops-clause-unread g c =
    unread-run c.args.words.now (run_in c.in_ok-request.request) _ _ c.in_ok-request.ensures.asked c.in_err-ops.ensures.unread

pub returns-clause-unread : goal.returns-clause-unread
returns-clause-unread g c =
    unread-run c.args.words.now (run_in c.in_ok-request.request) _ _ c.in_ok-request.ensures.asked c.in_ok-ops.ensures.unread

pub returns-clause-due : goal.returns-clause-due
returns-clause-due g c =
    let run = run_in c.in_ok-request.request in
    let a = c.answer_of.ensures in
    let is = subst (λ (ops : List Op). IsRunOf run ops c.in_ok-written.written) c.as_slice.ensures c.in_ok-written.ensures in
    answered c.args.words.now (g.S.Source.left c.args.source.now) _ _ run c.in_ok-ops.ops c.in_ok-written.written
    _ _ _ _ _ a.status a.loaded a.rounds a.saved a.text c.in_ok-request.ensures.lawful.lawful.in_buffers.0 c.in_ok-request.ensures.asked c.in_ok-ops.ensures.fed is

pub returns-clause-full : goal.returns-clause-full
returns-clause-full g c =
    let run = run_in c.in_ok-request.request in
    let a = c.answer_of.ensures in
    let is = subst (λ (ops : List Op). IsRunOf run ops c.in_ok-written.written) c.as_slice.ensures c.in_ok-written.ensures in
    refused-of c.args.words.now (g.S.Source.left c.args.source.now) run c.in_ok-ops.ops c.in_ok-written.written c.answer_of.result.outcome
    a.status a.loaded a.writer c.in_ok-request.ensures.asked c.in_ok-ops.ensures.fed is

pub returns-clause-of_memory : goal.returns-clause-of_memory
returns-clause-of_memory g c =
    let run = run_in c.in_ok-request.request in
    let a = c.answer_of.ensures in
    let is = subst (λ (ops : List Op). IsRunOf run ops c.in_ok-written.written) c.as_slice.ensures c.in_ok-written.ensures in
    memory-of c.args.words.now (g.S.Source.left c.args.source.now) run c.in_ok-ops.ops c.in_ok-written.written c.answer_of.result.outcome
    a.loaded a.rounds a.writer c.in_ok-request.ensures.asked c.in_ok-ops.ensures.fed is

pub returns-clause-whole : goal.returns-clause-whole
returns-clause-whole g c = proper-of _ c.in_ok-written.written.full c.answer_of.ensures.status

pub returns-clause-ended : goal.returns-clause-ended
returns-clause-ended g c =
    let run = run_in c.in_ok-request.request in
    let words = c.args.words.now in
    let left = g.S.Source.left c.args.source.now in
    let new = g.S.Source.left c.ops_in.new.source in
    record {
      asks = subst (λ (r : Result Run Status). IsOkAnd r (IsAskedBy words)) (sym c.in_ok-request.ensures.asked)
          c.in_ok-request.ensures.lawful;
      reads = of-run words left run c.in_ok-ops.ops (λ r o. ReadsAsAsked r left new)
          c.in_ok-request.ensures.asked c.in_ok-ops.ensures.fed c.in_ok-ops.ensures.reads_all;
    }

pub returns-in_err-request-clause-reads : goal.returns-in_err-request-clause-reads
returns-in_err-request-clause-reads g c =
    reads_none most_bytes 65536 (g.S.Source.left c.args.source.now) (g.S.Source.reads c.args.source.now)

pub returns-in_err-ops-clause-ruled : goal.returns-in_err-ops-clause-ruled
returns-in_err-ops-clause-ruled g c =
    let p = err_from_is_err_and c.from_residual-in_err-ops.result c.from_residual-in_err-ops.ensures.1 in
    rw (p.1 ∙ ap Err p.2) (ruled-unfed c.args.words.now (run_in c.in_ok-request.request) (g.S.Source.left c.args.source.now) _ _ c.in_err-ops.field-0.0 c.in_err-ops.ensures.unfed)
