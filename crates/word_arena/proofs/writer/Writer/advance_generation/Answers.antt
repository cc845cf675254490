use Rattle.std.proofs.Common.{ap, arith, ◌∙◌, ◌≡◌, length, List}
use Rattle.generation_handler.specs.declared.HoldEntry.{HoldEntry}
use Rattle.gen_core.specs.declared.views.Sizes.{Sizes}
use Rattle.gen_core.specs.declared.views.WriterView.{WriterView}
use Rattle.gen_core.specs.Views.{open_holds}
use Rattle.gen_core.specs.Events.{stopped}
use Rattle.word_arena.specs.Ruled.{writer_of}
use Rattle.word_arena.proofs.OwnHolds.{own-newest, closed-apart, own-length}
use native.Mathlib.Decide.{ℕ_discrete}
use mathlib.Core.Logic.{dite}
use Rattle.std.proofs.Common.{true≢false}
use Rattle.generation_handler.specs.Queues.{has_hold}
use Rattle.word_arena.proofs.writer.Writer.advance_generation.Goals as goal

pub open_hold-requires : goal.open_hold-requires
open_hold-requires g c =
    let s = c.args.self.now in
    let w : WriterView = writer_of s.place.me.0 in
    let n = c.renew_unused-found.new.self in
    let v : WriterView = writer_of n.place.me.0 in
    let least = c.in-Some.ensures.least in
    let few = n.stands.good.queue.few in
    let long = own-length v.queue n.holds n.stands.same_holds in
    let e : v ≡ stopped w c.renew_unused-found.result = c.renew_unused-found.ensures.view.miss c.if-found-eq0.false in
    let generation : v.queue.newest.generation ≡ w.queue.newest.generation = ap (λ (x : WriterView). x.queue.newest.generation) e in
    let limit : v.sizes.generation_limit ≡ w.sizes.generation_limit = ap (λ (x : WriterView). x.sizes.generation_limit) e in
    let own : c.newest-newest.result.generation ≡ w.queue.newest.generation =
    ap (λ (h : HoldEntry). h.generation) (c.newest-newest.ensures ∙ own-newest w.queue s.holds s.stands.same_holds) in
    let size : w.sizes.generation_limit ≡ c.arena-arena.result.now.sizes.generation_limit = rw c.arena-arena.ensures (ap (λ (z : Sizes). z.generation_limit) s.stands.same_sizes) in
    let below = c.if-newest-arena.false in (
      omega arith,
      record {
        calm = n.stands.calm;
        hold = least.below;
        others = closed-apart (open_holds v.queue) c.in-Some.hold (ap (λ (l : List HoldEntry). has_hold l c.in-Some.hold) n.stands.same_holds ∙ least.closed);
        room = dite (ℕ_discrete (length n.holds) 16) (λ all. absurd (true≢false (c.in-Some.ensures.none.1 all))) (λ ne. omega (arith, few, long, ne));
        left = omega (arith, generation, limit, own, size, below);
      },
    )
