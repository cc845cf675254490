use Rattle.std.proofs.Common.{subst, ap}
use Rattle.std.specs.Prelude.{All}
use Rattle.gen_core.specs.declared.views.WriterView.{WriterView}
use Rattle.gen_core.specs.Views.{IsCommit}
use Rattle.word_arena.specs.Ruled.{reader_of, writer_of}
use Rattle.attr_rounds.proofs.Commits.{rounds_of_commits}
use Rattle.attr_rounds.proofs.taking.take_in.Goals as goal

pub returns-clause-rounds : goal.returns-clause-rounds
returns-clause-rounds g c =
    let commits = (writer_of c.take_in.new.self.place.me.0).commits in
    rounds_of_commits g.Q.Question.operations (g.Q.Question.answers c.args._question.now) g.L.Layout.lawful commits (reader_of c.args.reading.reader.place.me.0)
    (writer_of c.args.writer.now.place.me.0).saw c.args.reading.rounds.items c.requires.seen
    (subst (All (IsCommit commits)) (ap (λ (w : WriterView). w.saw) c.take_in.ensures.view) c.take_in.ensures.commits)
