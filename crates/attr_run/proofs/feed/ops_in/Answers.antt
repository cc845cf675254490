use Rattle.std.proofs.Common.{◌∙◌, ap, sym, refl, subst, Ok, Option}
use Rattle.std.proofs.lemmas.Result.{IfOk-weaker}
use Rattle.attr_io.proofs.ReadLemmas.{reads_none}
use Rattle.feed_reader.specs.Feed.{most_bytes}
use Rattle.attr_report.specs.Run.{run_in}
use Rattle.attr_report.specs.declared.request.Make.{Make}
use Rattle.attr_run.specs.Answers.{ReadsBy}
use Rattle.attr_run.specs.Steps.{IsUnfed, IsProperStop}
use Rattle.attr_run.specs.declared.stop.Stop.{Stop}
use Rattle.attr_run.proofs.TaskLemmas.{OfBytes-weaker, fed-made, fed-read, unfed-read, err_then, ok_always}
use Rattle.attr_run.proofs.feed.ops_in.Goals as goal

pub returns-in-Some-clause-fed : goal.returns-in-Some-clause-fed
returns-in-Some-clause-fed g c =
    let run = run_in c.args.request.now in
    let told = fed-made run c.in-Some.make (g.S.Source.left c.args.source.now) c.in-Some.is in
    IfOk-weaker c.made_in.result _ _ (λ ops is. OfBytes-weaker (g.S.Source.left c.args.source.now) _ _ (λ bytes feeds. feeds ∙ ap Ok (sym is)) told)
    c.made_in.ensures.made

pub returns-in-Some-clause-reads_all : goal.returns-in-Some-clause-reads_all
returns-in-Some-clause-reads_all g c = ok_always c.made_in.result _
    (subst (λ (m : Option Make). ReadsBy m (g.S.Source.left c.args.source.now) (g.S.Source.left c.args.source.now))
    (sym c.in-Some.is) refl)

pub returns-in-Some-clause-unfed : goal.returns-in-Some-clause-unfed
returns-in-Some-clause-unfed g c = err_then c.made_in.result _ _ (λ stop is. subst (λ (s : Stop).
    IsUnfed (run_in c.args.request.now) (g.S.Source.left c.args.source.now) (g.S.Source.faults c.args.source.now)
    (g.S.Source.faults c.args.source.now) s) (sym is) tt) c.made_in.ensures.memory

pub returns-in-Some-clause-proper : goal.returns-in-Some-clause-proper
returns-in-Some-clause-proper g c = err_then c.made_in.result _ _ (λ stop is. subst IsProperStop (sym is) tt)
    c.made_in.ensures.memory

pub returns-in-Some-clause-reads : goal.returns-in-Some-clause-reads
returns-in-Some-clause-reads g c =
    reads_none most_bytes 65536 (g.S.Source.left c.args.source.now) (g.S.Source.reads c.args.source.now)

pub returns-in-None-clause-fed : goal.returns-in-None-clause-fed
returns-in-None-clause-fed g c =
    let run = run_in c.args.request.now in
    IfOk-weaker c.read_in.result _ _ (λ ops is. fed-read run (g.S.Source.left c.args.source.now) (Ok ops) c.in-None.is is)
    c.read_in.ensures.fed

pub returns-in-None-clause-reads_all : goal.returns-in-None-clause-reads_all
returns-in-None-clause-reads_all g c = IfOk-weaker c.read_in.result _ _ (λ ops is.
    subst (λ (m : Option Make). ReadsBy m (g.S.Source.left c.args.source.now) (g.S.Source.left c.read_in.new.source))
    (sym c.in-None.is) is) c.read_in.ensures.reads_all

pub returns-in-None-clause-unfed : goal.returns-in-None-clause-unfed
returns-in-None-clause-unfed g c = err_then c.read_in.result _ _ (λ stop is.
    unfed-read (run_in c.args.request.now) (g.S.Source.left c.args.source.now) (g.S.Source.faults c.args.source.now)
    (g.S.Source.faults c.read_in.new.source) stop c.in-None.is is) c.read_in.ensures.unfed

pub returns-in-None-clause-unread : goal.returns-in-None-clause-unread
returns-in-None-clause-unread g c = λ some. absurd (some c.in-None.is)
