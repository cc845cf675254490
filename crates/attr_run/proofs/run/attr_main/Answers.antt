use Rattle.std.proofs.Common.{refl}
use Rattle.attr_run.specs.declared.outcome.Status.TheVariants.{BadFeed, ReadFault, WriteFault, Memory}
use Rattle.attr_run.specs.declared.outcome.FeedFault.TheVariants as feed
use Rattle.attr_run.proofs.AnswerLemmas.{Met, at, ended-report, ended-run, exactly-usage}
use Rattle.attr_run.proofs.AnswerLemmas.{exactly-help, exactly-feed, early-text}
use Rattle.attr_run.proofs.AnswerLemmas.{early-no_run, complete-told, full-run, small-told}
use Rattle.attr_run.proofs.run.attr_main.Given.{Over}
use Rattle.attr_run.proofs.run.attr_main.Goals as goal

-- the words, source and sink of the call, before it and after it
abbrev met : (g : Over) → goal.After-whole_run g → Met
met g c = record {
  words = c.args.words.now;
  left = g.S.Source.left c.args.source.now;
  before = g.S.Source.faults c.args.source.now;
  now = g.S.Source.faults c.whole_run.new.source;
  old = g.K.Sink.taken c.args.sink.now;
  new = g.K.Sink.taken c.whole_run.new.sink;
  sink_before = g.K.Sink.faults c.args.sink.now;
  sink_now = g.K.Sink.faults c.whole_run.new.sink;
}

pub returns-clause-report : goal.returns-clause-report
returns-clause-report g c = ended-report (met g c) _ _ c.whole_run.ensures.answer

pub returns-clause-settings : goal.returns-clause-settings
returns-clause-settings g c = λ full ends. (c.whole_run.ensures.ended full ends).asks

pub returns-clause-whole : goal.returns-clause-whole
returns-clause-whole g c = λ full ends. (c.whole_run.ensures.ended full ends).reads

pub returns-clause-loaded : goal.returns-clause-loaded
returns-clause-loaded g c = ended-run (met g c) _ _ _ (λ full text run ops until. until.all_loaded)
    c.whole_run.ensures.answer

pub returns-clause-rounds : goal.returns-clause-rounds
returns-clause-rounds g c = ended-run (met g c) _ _ _ (λ full text run ops until. until.in_rounds)
    c.whole_run.ensures.answer

pub returns-clause-after : goal.returns-clause-after
returns-clause-after g c = ended-run (met g c) _ _ _ (λ full text run ops until. until.afterwards)
    c.whole_run.ensures.answer

pub returns-clause-saved : goal.returns-clause-saved
returns-clause-saved g c = ended-run (met g c) _ _ _ (λ full text run ops until. until.in_save)
    c.whole_run.ensures.answer

pub returns-clause-history : goal.returns-clause-history
returns-clause-history g c = ended-run (met g c) _ _ _ (λ full text run ops until. until.legal)
    c.whole_run.ensures.answer

pub returns-clause-full : goal.returns-clause-full
returns-clause-full g c = c.whole_run.ensures.full

pub returns-clause-of_memory : goal.returns-clause-of_memory
returns-clause-of_memory g c = c.whole_run.ensures.of_memory

pub returns-clause-room : goal.returns-clause-room
returns-clause-room g c = λ operation active held.
    full-run (met g c) _ _ c.whole_run.ensures.answer operation active held _ (λ text run ops full. full.room)

pub returns-clause-owed : goal.returns-clause-owed
returns-clause-owed g c = λ operation active held.
    full-run (met g c) _ _ c.whole_run.ensures.answer operation active held _ (λ text run ops full. full.owed)

pub returns-clause-large : goal.returns-clause-large
returns-clause-large g c = λ operation active held.
    full-run (met g c) _ _ c.whole_run.ensures.answer operation active held _ (λ text run ops full. full.large)

pub returns-clause-quiet : goal.returns-clause-quiet
returns-clause-quiet g c = λ operation active held.
    full-run (met g c) _ _ c.whole_run.ensures.answer operation active held _ (λ text run ops full. full.quiet)

pub returns-clause-help : goal.returns-clause-help
returns-clause-help g c = exactly-help (met g c) _ _ c.whole_run.ensures.one_kind c.whole_run.ensures.answer

pub returns-clause-usage : goal.returns-clause-usage
returns-clause-usage g c = exactly-usage (met g c) _ _ c.settings_law.ensures.refused c.whole_run.ensures.one_kind c.whole_run.ensures.ruled c.whole_run.ensures.answer

pub returns-clause-one_kind : goal.returns-clause-one_kind
returns-clause-one_kind g c = c.whole_run.ensures.one_kind

pub returns-clause-read_answered : goal.returns-clause-read_answered
returns-clause-read_answered g c = c.whole_run.ensures.read_answered

pub returns-clause-write_answered : goal.returns-clause-write_answered
returns-clause-write_answered g c = c.whole_run.ensures.write_answered

pub returns-clause-unread : goal.returns-clause-unread
returns-clause-unread g c = c.whole_run.ensures.unread

pub returns-clause-read_fault : goal.returns-clause-read_fault
returns-clause-read_fault g c = λ is. (at (met g c) _ ReadFault _ c.whole_run.ensures.answer is).1.0

pub returns-clause-bad_feed : goal.returns-clause-bad_feed
returns-clause-bad_feed g c = λ fault is. (at (met g c) _ (BadFeed fault) _ c.whole_run.ensures.answer is).1.0

pub returns-clause-too_long : goal.returns-clause-too_long
returns-clause-too_long g c = exactly-feed (met g c) _ _ feed.TooLong c.whole_run.ensures.answer _ refl

pub returns-clause-bad_line : goal.returns-clause-bad_line
returns-clause-bad_line g c = λ line number. exactly-feed (met g c) _ _
    (feed.Line line number) c.whole_run.ensures.answer _ refl

pub returns-clause-text : goal.returns-clause-text
returns-clause-text g c = early-text (met g c) _ _ c.whole_run.ensures.answer

pub returns-clause-no_run : goal.returns-clause-no_run
returns-clause-no_run g c = early-no_run (met g c) _ _ c.whole_run.ensures.answer

pub returns-clause-write_fault : goal.returns-clause-write_fault
returns-clause-write_fault g c = λ is. (at (met g c) _ WriteFault _ c.whole_run.ensures.answer is).0

pub returns-clause-front : goal.returns-clause-front
returns-clause-front g c = λ is. (at (met g c) _ WriteFault _ c.whole_run.ensures.answer is).1

pub returns-clause-memory : goal.returns-clause-memory
returns-clause-memory g c = at (met g c) _ Memory _ c.whole_run.ensures.answer

pub returns-clause-proper : goal.returns-clause-proper
returns-clause-proper g c = c.whole_run.ensures.proper

pub returns-clause-complete : goal.returns-clause-complete
returns-clause-complete g c = complete-told (met g c) _ _ c.whole_run.ensures.answer

pub returns-clause-small : goal.returns-clause-small
returns-clause-small g c = small-told (met g c) _ _ c.whole_run.ensures.answer _ refl
