use Rattle.std.proofs.Common.{◌≡◌, rules, subst, ℕ, List, Some, Ok}
use Rattle.std.proofs.lemmas.Result.{IfOk-weaker}
use Rattle.attr_run.specs.Run.{ops_in}
use Rattle.attr_run.specs.Steps.{IsFeedStop}
use Rattle.attr_run.proofs.TaskLemmas.{read_whole, read-stopped, refused-long, err_then}
use Rattle.attr_run.proofs.feed.read_in.Goals as goal

pub returns-in-Ok-clause-fed : goal.returns-in-Ok-clause-fed
returns-in-Ok-clause-fed g c = IfOk-weaker c.lines_in.result _ _ (λ ops is.
    read_whole (g.S.Source.left c.args.source.now) (g.S.Source.left c.read_all.new.source) c.in-Ok.bytes.items (λ bytes. ops_in c.args.fields.now bytes ≡ Ok ops)
    c.in-Ok.ensures.bytes c.in-Ok.ensures.end (subst (λ (bytes : List ℕ). ops_in c.args.fields.now bytes ≡ Ok ops) c.deref.ensures.value is))
    c.lines_in.ensures.fed

pub returns-in-Ok-clause-unfed : goal.returns-in-Ok-clause-unfed
returns-in-Ok-clause-unfed g c = err_then c.lines_in.result _ _ (λ stop is.
    read-stopped c.args.fields.now (g.S.Source.left c.args.source.now) (g.S.Source.left c.read_all.new.source) c.in-Ok.bytes.items _ _ stop
    c.in-Ok.ensures.bytes c.in-Ok.ensures.end (subst (λ (bytes : List ℕ). IsFeedStop c.args.fields.now (Some bytes) 0 0 stop) c.deref.ensures.value is))
    c.lines_in.ensures.unfed

pub returns-in-Err-TooLong-clause-unfed : goal.returns-in-Err-TooLong-clause-unfed
returns-in-Err-TooLong-clause-unfed g c = refused-long c.args.fields.now (g.S.Source.left c.args.source.now) (c.in-Err-TooLong.ensures.too_long (search rules))
