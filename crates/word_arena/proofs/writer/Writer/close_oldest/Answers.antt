use Rattle.std.proofs.Common.{ap, sym, refl, subst, arith, ◌∙◌, ◌≡◌, ◌+◌, ◌<◌, ℕ, map, [], ◌∷◌, ◌++◌, List}
use Rattle.atomic_table.specs.Table.{Me}
use Rattle.generation_handler.specs.declared.HoldEntry.{HoldEntry}
use Rattle.gen_core.specs.declared.views.OpenHold.{OpenHold}
use Rattle.gen_core.specs.declared.views.View.{View}
use Rattle.gen_core.specs.declared.views.WriterView.{WriterView}
use Rattle.gen_core.specs.Views.{open_holds, oldest_in}
use Rattle.gen_core.specs.Good.{HoldFits}
use Rattle.gen_core.specs.Events.{stopped, closed}
use Rattle.gen_core.proofs.Holds.{at_oldest}
use Rattle.word_arena.specs.Ruled.{Slot, writer_of, writer_in}
use Rattle.word_arena.specs.Knows.{own_hold}
use Rattle.word_arena.proofs.AllowedHolds.{close_owed}
use Rattle.word_arena.proofs.Desks.{arena-words, desk_after}
use Rattle.word_arena.proofs.OwnHolds.{own-oldest, own-length, own-older, own-popped}
use Rattle.word_arena.proofs.writer.Writer.close_oldest.Goals as goal

pub compare_exchange-count-requires : goal.compare_exchange-count-requires
compare_exchange-count-requires g c =
    let s = c.args.self.now in
    let w : WriterView = writer_of s.place.me.0 in
    let many = c.requires in
    let two = own-older w.queue.older (omega (arith, many, own-length w.queue s.holds s.stands.same_holds)) in
    let e : OpenHold = two.0 in
    let es : List OpenHold = two.1 in
    let older : w.queue.older ≡ e ∷ es = two.2 in
    let first : oldest_in w.queue.older w.queue.newest ≡ e = ap (λ (o : List OpenHold). oldest_in o w.queue.newest) older in
    let oldest : c.oldest-oldest.result ≡ own_hold e = c.oldest-oldest.ensures ∙ own-oldest w.queue s.holds s.stands.same_holds ∙ ap own_hold first in
    let hold : c.oldest-oldest.result.hold ≡ e.hold = ap (λ (h : HoldEntry). h.hold) oldest in
    let low : e.hold < 16 = subst (λ (x : OpenHold). x.hold < 16) first (at_oldest (HoldFits w.commits) w.queue.older w.queue.newest s.stands.good.queue.each).hold in
    let inside : 2 + c.oldest-oldest.result.hold < s.seats.arena.value.table.shared.table_id.words = omega (arith, low, hold, arena-words s.stands) in
    rw c.arena-arena.ensures (s.stands.own, inside, close_owed _ _ _ _ _ _ w e es _ s.stands.is (ap (λ (n : ℕ). 2 + n) hold) s.stands.calm older)

pub invariant_of-self : goal.invariant_of-self
invariant_of-self g c =
    let s = c.args.self.now in
    let w : WriterView = writer_of s.place.me.0 in
    let many = c.requires in
    let two = own-older w.queue.older (omega (arith, many, own-length w.queue s.holds s.stands.same_holds)) in
    let e : OpenHold = two.0 in
    let es : List OpenHold = two.1 in
    let older : w.queue.older ≡ e ∷ es = two.2 in
    let b = c.compare_exchange-count.ensures.2.told.hit c.if-count-eq0.true e es older in
    let queue : map own_hold (open_holds (closed w es).queue) ≡ c.pop_oldest.new.self =
    own-popped c.pop_oldest.result _ _ (own_hold e) (ap (λ (o : List OpenHold). map own_hold (o ++ w.queue.newest ∷ [])) (sym older) ∙ s.stands.same_holds ∙ c.pop_oldest.ensures) in
    record {
      stands = desk_after s.stands (closed w es) c.compare_exchange-count.ensures.0 b.is refl s.stands.same_buffers queue s.stands.commits s.stands.readers s.stands.calm b.good
          (record { none = s.stands.entries.none });
    }

pub invariant_of-self-else-count-eq0 : goal.invariant_of-self-else-count-eq0
invariant_of-self-else-count-eq0 g c =
    let s = c.args.self.now in
    let w : WriterView = writer_of s.place.me.0 in
    let b = c.compare_exchange-count.ensures.2.told.miss c.if-count-eq0.false in
    record {
      stands = desk_after s.stands (stopped w c.compare_exchange-count.result) c.compare_exchange-count.ensures.0 b.is refl s.stands.same_buffers s.stands.same_holds s.stands.commits s.stands.readers
          s.stands.calm b.good (record { none = s.stands.entries.none });
    }

pub returns-then-count-eq0-clause-view : goal.returns-then-count-eq0-clause-view
returns-then-count-eq0-clause-view g c =
    let t = c.compare_exchange-count.ensures.2.told in
    record {
      hit = λ zero e es is. ap (λ (m : Me Slot View). writer_in m.0) (t.hit zero e es is).is;
      miss = λ ne. ap (λ (m : Me Slot View). writer_in m.0) (t.miss ne).is;
      alone = t.alone;
    }
