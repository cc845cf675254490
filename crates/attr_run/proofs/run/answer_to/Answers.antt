use Rattle.std.proofs.lemmas.Result.{IfOk-weaker}
use Rattle.attr_run.proofs.TaskLemmas.{unfull-early, unmade-early}
use Rattle.attr_run.proofs.run.answer_to.Goals as goal

pub returns-in-Ok-clause-full : goal.returns-in-Ok-clause-full
returns-in-Ok-clause-full g c = c.in-Ok.ensures.full

pub returns-in-Err-clause-full : goal.returns-in-Err-clause-full
returns-in-Err-clause-full g c =
    IfOk-weaker c.stopped.result _ _
    (λ a early. unfull-early c.args.words.now (g.S.Source.left c.args.source.now) _ _ c.in-Err.stop a.outcome a.text.items c.in-Err.ensures.stopped early) c.stopped.ensures

pub returns-in-Ok-clause-of_memory : goal.returns-in-Ok-clause-of_memory
returns-in-Ok-clause-of_memory g c = c.in-Ok.ensures.of_memory

pub returns-in-Err-clause-of_memory : goal.returns-in-Err-clause-of_memory
returns-in-Err-clause-of_memory g c =
    IfOk-weaker c.stopped.result _ _
    (λ a early. unmade-early c.args.words.now (g.S.Source.left c.args.source.now) _ _ c.in-Err.stop a.outcome a.text.items c.in-Err.ensures.stopped early) c.stopped.ensures
