use Rattle.std.proofs.Common.{ap, sym, refl, subst, arith, ◌∙◌, ◌≡◌, ◌+◌, ◌*◌, ◌<◌, ℕ, map, [], ◌∷◌, ◌++◌}
use Rattle.atomic_table.specs.Table.{Me}
use Rattle.generation_handler.specs.declared.HoldEntry.{HoldEntry}
use Rattle.gen_core.specs.declared.views.View.{View}
use Rattle.gen_core.specs.declared.views.View.TheVariants.{Writer}
use Rattle.gen_core.specs.declared.views.WriterView.{WriterView}
use Rattle.gen_core.specs.Views.{open_holds}
use Rattle.gen_core.specs.Good.{GoodView, HoldFits}
use Rattle.gen_core.specs.Events.{probed, morphed, stopped}
use Rattle.gen_core.proofs.Holds.{at_newest}
use Rattle.word_arena.specs.Ruled.{Slot, writer_of, writer_in}
use Rattle.word_arena.specs.Knows.{own_hold}
use Rattle.word_arena.proofs.AllowedHolds.{probe_owed, morph_owed}
use Rattle.word_arena.proofs.Desks.{arena-words, desk_after}
use Rattle.word_arena.proofs.OwnHolds.{own-newest, own-renewed}
use Rattle.word_arena.proofs.writer.Writer.renew_unused.Goals as goal

pub load-count-requires : goal.load-count-requires
load-count-requires g c =
    let s = c.args.self.now in
    let w : WriterView = writer_of s.place.me.0 in
    let newest : c.newest-newest.result ≡ own_hold w.queue.newest = c.newest-newest.ensures ∙ own-newest w.queue s.holds s.stands.same_holds in
    let hold : c.newest-newest.result.hold ≡ w.queue.newest.hold = ap (λ (h : HoldEntry). h.hold) newest in
    let generation : c.newest-newest.result.generation ≡ w.queue.newest.generation = ap (λ (h : HoldEntry). h.generation) newest in
    let slots : s.place.me.1 ≡ [] = ap (λ (m : Me Slot View). m.1) s.stands.is in
    let low = (at_newest (HoldFits w.commits) w.queue.older w.queue.newest s.stands.good.queue.each).hold in
    let inside : 2 + c.newest-newest.result.hold < s.seats.arena.value.table.shared.table_id.words = omega (arith, low, hold, arena-words s.stands) in
    rw c.arena-arena.ensures (s.stands.own, inside, probe_owed _ _ _ _ _ _ w _ s.stands.is (ap (λ (n : ℕ). 2 + n) hold) s.stands.calm c.requires)

pub overflow_add-word-then-count-eq0 : goal.overflow_add-word-then-count-eq0
overflow_add-word-then-count-eq0 g c =
    let s = c.args.self.now in
    let w : WriterView = writer_of s.place.me.0 in
    let newest : c.newest-newest.result ≡ own_hold w.queue.newest = c.newest-newest.ensures ∙ own-newest w.queue s.holds s.stands.same_holds in
    let hold : c.newest-newest.result.hold ≡ w.queue.newest.hold = ap (λ (h : HoldEntry). h.hold) newest in
    let generation : c.newest-newest.result.generation ≡ w.queue.newest.generation = ap (λ (h : HoldEntry). h.generation) newest in
    let slots : s.place.me.1 ≡ [] = ap (λ (m : Me Slot View). m.1) s.stands.is in
    let low = (at_newest (HoldFits w.commits) w.queue.older w.queue.newest s.stands.good.queue.each).hold in
    let left = c.requires in
    let top = s.stands.limits.generations in
    omega (arith, low, hold, generation, left, top, c.from.ensures)

pub store-requires : goal.store-requires
store-requires g c =
    let s = c.args.self.now in
    let w : WriterView = writer_of s.place.me.0 in
    let newest : c.newest-newest.result ≡ own_hold w.queue.newest = c.newest-newest.ensures ∙ own-newest w.queue s.holds s.stands.same_holds in
    let hold : c.newest-newest.result.hold ≡ w.queue.newest.hold = ap (λ (h : HoldEntry). h.hold) newest in
    let generation : c.newest-newest.result.generation ≡ w.queue.newest.generation = ap (λ (h : HoldEntry). h.generation) newest in
    let slots : s.place.me.1 ≡ [] = ap (λ (m : Me Slot View). m.1) s.stands.is in
    let first = (c.load-count.ensures.2.told.hit c.if-count-eq0.true).is in
    let at : (c.newest-newest.result.generation + 1) * 65536 + c.from.result ≡ (w.queue.newest.generation + 1) * 65536 + w.queue.newest.hold =
    (λ k. (generation k + 1) * 65536 + (c.from.ensures ∙ hold) k) in
    rw c.arena-arena.ensures (c.load-count.ensures.0 ∙ s.stands.own, omega (arith, arena-words s.stands), morph_owed _ _ _ _ _ _ (probed w) _ (first ∙ (λ k. (Writer (probed w), slots k))) at refl)

pub invariant_of-self : goal.invariant_of-self
invariant_of-self g c =
    let s = c.args.self.now in
    let w : WriterView = writer_of s.place.me.0 in
    let newest : c.newest-newest.result ≡ own_hold w.queue.newest = c.newest-newest.ensures ∙ own-newest w.queue s.holds s.stands.same_holds in
    let hold : c.newest-newest.result.hold ≡ w.queue.newest.hold = ap (λ (h : HoldEntry). h.hold) newest in
    let generation : c.newest-newest.result.generation ≡ w.queue.newest.generation = ap (λ (h : HoldEntry). h.generation) newest in
    let slots : s.place.me.1 ≡ [] = ap (λ (m : Me Slot View). m.1) s.stands.is in
    let first = (c.load-count.ensures.2.told.hit c.if-count-eq0.true).is in
    let mid : writer_of c.load-count.new.seat.me.0 ≡ probed w = ap (λ (m : Me Slot View). writer_in m.0) first in
    let b = c.store.ensures.2.told (ap (λ (v : WriterView). v.queue.pending) mid) in
    let queue : map own_hold (open_holds (morphed w).queue) ≡ c.renew.new.self =
    (λ k. map own_hold (w.queue.older ++ record { generation = sym generation k + 1; hold = w.queue.newest.hold; first_commit = sym s.stands.commits k } ∷ []))
    ∙ sym (c.renew.ensures ∙ own-renewed w.queue s.holds s.stands.same_holds (c.newest-newest.result.generation + 1) s.last) in
    record {
      stands = desk_after s.stands (morphed w) (c.store.ensures.0 ∙ c.load-count.ensures.0) (b.is ∙ ap (λ (m : Me Slot View). (Writer (morphed (writer_in m.0)), m.1)) first)
          refl s.stands.same_buffers queue s.stands.commits s.stands.readers refl (subst (λ (x : WriterView). GoodView (morphed x)) mid b.good) (record { none = s.stands.entries.none });
    }

pub invariant_of-self-else-count-eq0 : goal.invariant_of-self-else-count-eq0
invariant_of-self-else-count-eq0 g c =
    let s = c.args.self.now in
    let w : WriterView = writer_of s.place.me.0 in
    let b = c.load-count.ensures.2.told.miss c.if-count-eq0.false in
    record {
      stands = desk_after s.stands (stopped w c.load-count.result) c.load-count.ensures.0 b.is refl s.stands.same_buffers s.stands.same_holds s.stands.commits s.stands.readers s.stands.calm b.good
          (record { none = s.stands.entries.none });
    }
