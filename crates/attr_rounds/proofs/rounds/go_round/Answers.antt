use Rattle.std.proofs.Common.{subst, sym, refl, ◌∙◌, ap, length, arith}
use Rattle.gen_core.specs.declared.views.Sizes.{Sizes}
use Rattle.word_arena.specs.Ruled.{reader_of}
use Rattle.attr_rounds.specs.Posts.{view_at}
use Rattle.attr_rounds.proofs.RoundLemmas.{no_rounds, sight_kept}
use Rattle.attr_rounds.specs.Rounds.{MakesRounds}
use Rattle.attr_rounds.proofs.rounds.go_round.Goals as goal

pub loop-init : goal.loop-init
loop-init g c =
    let answers = g.Q.Question.answers c.args.question.now in
    let r = reader_of c.args.reader.place.me.0 in
    record {
      rounds = subst (MakesRounds g.Q.Question.operations answers g.L.Layout.lawful r r) (sym c.new-rounds.ensures.items) (no_rounds g.Q.Question.operations answers g.L.Layout.lawful r);
      count = ap length c.new-rounds.ensures.items;
      table = refl;
    }

pub one_round-requires : goal.one_round-requires
one_round-requires g c =
    let made = c.loop.invariant.count in
    let below = c.loop-test.true in
    let fits = c.ranges.count.fits in
    (omega arith, (subst (λ (z : Sizes). g.Q.Question.fits c.args.question.now z.shape) (sym c.loop.invariant.rounds.same_sizes) c.requires, omega arith))

pub loop-preserved : goal.loop-preserved
loop-preserved g c =
    let i = c.loop.invariant in
    let next = c.in_ok-post.ensures in
    let one = next.count in
    let made = i.count in
    record { rounds = next.rounds (reader_of c.args.reader.place.me.0) i.rounds; count = omega (arith, one, made); table = next.table ∙ i.table }

pub returns-clause-rounds : goal.returns-clause-rounds
returns-clause-rounds g c =
    let i = c.loop.invariant in
    sight_kept g.Q.Question.operations (g.Q.Question.answers c.args.question.now) g.L.Layout.lawful (reader_of c.args.reader.place.me.0) (view_at c.loop.post) (reader_of c.let_go-reader.result.place.me.0) c.loop.rounds.items
    i.rounds c.let_go-reader.ensures.same

pub returns-clause-table : goal.returns-clause-table
returns-clause-table g c = c.let_go-reader.ensures.table ∙ c.loop.invariant.table
