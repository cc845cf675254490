use Rattle.std.proofs.Common.{ap, arith, ◌∙◌, ◌≡◌, ◌<◌, ℕ, length, length-drop, drop, List}
use Rattle.gen_core.specs.declared.views.OpenHold.{OpenHold}
use Rattle.gen_core.specs.declared.views.WriterView.{WriterView}
use Rattle.gen_core.specs.Events.{closed}
use Rattle.word_arena.specs.Ruled.{writer_of}
use Rattle.word_arena.proofs.OwnHolds.{own-length}
use Rattle.std.proofs.Common.{suc}
use Rattle.word_arena.proofs.Reclaims.{drop-next}
use Rattle.word_arena.proofs.writer.Writer.close_unused.Goals as goal

pub loop-self-preserved : goal.loop-self-preserved
loop-self-preserved g c =
    let w : WriterView = writer_of c.args.self.now.place.me.0 in
    let l = c.loop-self.self in
    let u : WriterView = writer_of l.place.me.0 in
    let v : WriterView = writer_of c.close_oldest-count.new.self.place.me.0 in
    let i = c.loop-self.invariant in
    let k : ℕ = i.closes.count in
    let e = c.close_oldest-count.ensures in
    let older : u.queue.older ≡ drop k w.queue.older = ap (λ (x : WriterView). x.queue.older) i.closes.is in
    let test = c.loop-self-test.true in
    let value = c.len.ensures.value in
    let long = own-length u.queue l.holds l.stands.same_holds in
    let lt : k < length w.queue.older = omega (arith, test, value, long, ap (λ (o : List OpenHold). length o) older, length-drop k w.queue.older) in
    let next = drop-next w.queue.older k lt in
    let hit = e.view.hit c.if-count-ne0.false next.0 (drop (suc k) w.queue.older) (older ∙ next.1) in
    record {
      table = e.table ∙ i.table;
      closes = record {
        count = suc k;
        few = omega (arith, lt);
        is = hit ∙ ap (λ (x : WriterView). closed x (drop (suc k) w.queue.older)) i.closes.is;
      };
    }
