use Rattle.std.proofs.Common.{ap, sym, refl, subst, arith, ◌∙◌, ℕ}
use Rattle.generation_handler.specs.declared.HoldEntry.{HoldEntry}
use Rattle.gen_core.specs.declared.views.Sizes.{Sizes}
use Rattle.gen_core.specs.declared.views.WriterView.{WriterView}
use Rattle.word_arena.specs.Ruled.{writer_of}
use Rattle.word_arena.proofs.OwnHolds.{own-oldest}
use Rattle.gen_core.specs.Views.{oldest_of}
use Rattle.word_arena.specs.WriterSteps.{FreesBelow}
use Rattle.word_arena.proofs.Reclaims.{frees-more, frees-all}
use Rattle.word_arena.proofs.writer.Writer.free_unused.Goals as goal

pub loop-buffer-init : goal.loop-buffer-init
loop-buffer-init g c =
    let s = c.args.self.now in
    let w : WriterView = writer_of s.place.me.0 in
    let oldest = ap (λ (h : HoldEntry). h.generation) (c.oldest-oldest.ensures ∙ own-oldest w.queue s.holds s.stands.same_holds) in
    record {
      table = refl;
      count = rw c.arena-arena.ensures (ap (λ (z : Sizes). z.buffers) (sym s.stands.same_sizes));
      oldest = oldest;
      frees = record { each = λ a lt. absurd (omega (arith, lt)); rest = λ a le. refl; same = refl };
    }

pub free_one-requires : goal.free_one-requires
free_one-requires g c =
    let l = c.loop-buffer.self in
    let i = c.loop-buffer.invariant in
    let count = i.count in
    let test = c.loop-buffer-test.true in
    let size = ap (λ (x : WriterView). x.sizes.buffers) i.frees.same in
    (omega arith, (omega (arith, count, test, size, l.stands.good.count), i.oldest ∙ sym (ap (λ (x : WriterView). (oldest_of x.queue).generation) i.frees.same)))

pub loop-buffer-preserved : goal.loop-buffer-preserved
loop-buffer-preserved g c =
    let i = c.loop-buffer.invariant in
    let e = c.free_one.ensures in
    record { table = e.table ∙ i.table; count = i.count; oldest = i.oldest; frees = frees-more _ _ _ _ _ i.frees e.view }

pub returns-clause-view : goal.returns-clause-view
returns-clause-view g c =
    let s = c.args.self.now in
    let w : WriterView = writer_of s.place.me.0 in
    let i = c.loop-buffer.invariant in
    let count = i.count in
    let test = c.loop-buffer-test.false in
    frees-all c.loop-buffer.buffer w _ (omega (arith, count, test, s.stands.good.count))
    (subst (λ (n : ℕ). FreesBelow n c.loop-buffer.buffer w (writer_of c.loop-buffer.self.place.me.0)) i.oldest i.frees)
