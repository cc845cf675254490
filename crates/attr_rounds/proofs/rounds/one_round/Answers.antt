use Rattle.std.proofs.Common.{subst, sym, ◌∙◌, arith}
use Rattle.std.specs.Prelude.{Result, IfOk}
use Rattle.std.specs.declared.alloc.AllocError.{AllocError}
use Rattle.entry_ref.specs.Images.{words_at}
use Rattle.word_arena.specs.Ruled.{reader_of, seen_image}
use Rattle.word_arena.specs.declared.reader.Guarded.{Guarded}
use Rattle.attr_rounds.specs.declared.rounds.Round.{Round}
use Rattle.attr_rounds.specs.Posts.{view_at}
use Rattle.attr_rounds.specs.Rounds.{MakesRounds, SeesSame}
use Rattle.attr_rounds.proofs.RoundLemmas.{of_question, lawful_at, one_more}
use Rattle.attr_rounds.proofs.rounds.one_round.Goals.{in-Ok, in-Err}
use Rattle.attr_rounds.proofs.rounds.one_round.Goals as goal

pub operations-operations-requires : goal.operations-operations-requires
operations-operations-requires g c =
    let guard = c.next_guard-guard.result in
    let later = c.next_guard-guard.ensures.later in
    (omega arith, lawful_at g.Q.Question.operations (g.Q.Question.answers c.args.question.now) g.L.Layout.lawful (reader_of guard.place.me.0) c.root-root.result c.root-root.ensures later.commit.lawful_image)

pub answer-answer-requires : goal.answer-answer-requires
answer-answer-requires g c =
    let guard = c.next_guard-guard.result in
    let later = c.next_guard-guard.ensures.later in
    let fits = g.Q.Question.fits c.args.question.now in
    let lawful = lawful_at g.Q.Question.operations (g.Q.Question.answers c.args.question.now) g.L.Layout.lawful (reader_of guard.place.me.0) c.root-root.result c.root-root.ensures later.commit.lawful_image in
    let fit = subst (λ z. fits z.shape) (sym later.same_sizes) c.requires.fits in (
      omega arith,
      subst (λ (x : Guarded g.row.OFFSET_BITS g.row.L.Denot).
          fits (reader_of x.place.me.0).sizes.shape × g.L.Layout.lawful (reader_of x.place.me.0).sizes.shape (words_at (seen_image (reader_of x.place.me.0))) c.root-root.result)
          (sym c.operations-operations.ensures.same) (fit, lawful),
    )

pub returns-clause-rounds : goal.returns-clause-rounds
returns-clause-rounds g c =
    let answers = g.Q.Question.answers c.args.question.now in
    let guard = c.next_guard-guard.result in
    let root = c.root-root.result in
    let r = view_at c.args.post in
    let v = reader_of guard.place.me.0 in
    let t = view_at c.post_after-post.result in
    let round : Round g.row.Q-Answer.Denot = record { commit = c.commit-commit.result; operations = c.operations-operations.result; answer = c.in_ok-answer.answer } in
    let counted = c.operations-operations.ensures.same in
    let same : SeesSame v t = subst (λ (x : Guarded g.row.OFFSET_BITS g.row.L.Denot). SeesSame (reader_of x.place.me.0) t) (c.answer-answer.ensures.same ∙ counted) c.post_after-post.ensures.same in
    let x = reader_of c.operations-operations.new.frozen.place.me.0 in
    let told = subst (λ (said : Result g.row.Q-Answer.Denot AllocError). IfOk said (answers x.sizes.shape (words_at (seen_image x)) root)) c.in_ok-answer.was c.answer-answer.ensures.answer in
    let answer = subst (λ (x : Guarded g.row.OFFSET_BITS g.row.L.Denot). answers (reader_of x.place.me.0).sizes.shape (words_at (seen_image (reader_of x.place.me.0))) root c.in_ok-answer.answer)
    counted told in
    let next = of_question g.Q.Question.operations answers g.L.Layout.lawful g.L.Layout.reaches r v t root round
    c.root-root.ensures c.next_guard-guard.ensures.later same c.commit-commit.ensures c.operations-operations.ensures.count answer in
    elim c.match-push.branch [
      | in-Ok w ↦ rw w.result-is (λ start before.
          subst (MakesRounds g.Q.Question.operations answers g.L.Layout.lawful start t) (sym w.in-Ok.ensures.items)
          (one_more g.Q.Question.operations answers g.L.Layout.lawful start r t c.args.rounds.now.items round before next))
      | in-Err w ↦ rw w.result-is tt
    ]
