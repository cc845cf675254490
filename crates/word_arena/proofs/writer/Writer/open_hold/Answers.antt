use Rattle.std.proofs.Common.{ap, sym, refl, subst, arith, ◌∙◌, ◌≡◌, ◌+◌, ◌*◌, ◌<◌, map, [], ◌∷◌, ◌++◌, List}
use mathlib.Core.List.{map-append}
use Rattle.atomic_table.specs.Table.{Me}
use Rattle.generation_handler.specs.declared.HoldEntry.{HoldEntry}
use Rattle.gen_core.specs.declared.views.View.{View}
use Rattle.gen_core.specs.declared.views.View.TheVariants.{Writer}
use Rattle.gen_core.specs.declared.views.WriterView.{WriterView}
use Rattle.gen_core.specs.Views.{open_holds}
use Rattle.gen_core.specs.Good.{GoodView}
use Rattle.gen_core.specs.Events.{reopened, advanced, coming_hold}
use Rattle.word_arena.specs.Ruled.{Slot, writer_of, writer_in}
use Rattle.word_arena.specs.Knows.{own_hold}
use Rattle.word_arena.proofs.AllowedHolds.{reopen_owed, store_newest_owed}
use Rattle.word_arena.proofs.Desks.{arena-words, desk_after}
use Rattle.word_arena.proofs.OwnHolds.{own-newest, own-closed}
use Rattle.generation_handler.specs.Queues.{has_hold}
use Rattle.word_arena.proofs.writer.Writer.open_hold.Goals as goal

pub fetch_sub-requires : goal.fetch_sub-requires
fetch_sub-requires g c =
    let s = c.args.self.now in
    let w : WriterView = writer_of s.place.me.0 in
    let low = c.requires.hold in
    let inside : 2 + c.args.hold < s.seats.arena.value.table.shared.table_id.words = omega (arith, low, arena-words s.stands) in
    rw c.arena-arena.ensures (s.stands.own, inside, reopen_owed _ _ _ _ _ _ w c.args.hold _ s.stands.is refl c.requires)

pub store-requires : goal.store-requires
store-requires g c =
    let s = c.args.self.now in
    let w : WriterView = writer_of s.place.me.0 in
    let newest : c.newest-newest.result ≡ own_hold w.queue.newest = c.newest-newest.ensures ∙ own-newest w.queue s.holds s.stands.same_holds in
    let hold : c.newest-newest.result.hold ≡ w.queue.newest.hold = ap (λ (h : HoldEntry). h.hold) newest in
    let generation : c.newest-newest.result.generation ≡ w.queue.newest.generation = ap (λ (h : HoldEntry). h.generation) newest in
    let slots : s.place.me.1 ≡ [] = ap (λ (m : Me Slot View). m.1) s.stands.is in
    let first = (c.fetch_sub.ensures.2.told c.args.hold refl).is in
    let at : (c.newest-newest.result.generation + 1) * 65536 + c.from.result ≡ (w.queue.newest.generation + 1) * 65536 + c.args.hold =
    (λ k. (generation k + 1) * 65536 + c.from.ensures k) in
    rw c.arena-arena.ensures (
      c.fetch_sub.ensures.0 ∙ s.stands.own,
      omega (arith, arena-words s.stands),
      store_newest_owed _ _ _ _ _ _ (reopened w c.args.hold) c.args.hold _ (first ∙ (λ k. (Writer (reopened w c.args.hold), slots k))) at refl,
    )

pub append-requires-clause-closed : goal.append-requires-clause-closed
append-requires-clause-closed g c =
    let s = c.args.self.now in
    let w : WriterView = writer_of s.place.me.0 in
    ap (λ (l : List HoldEntry). has_hold l c.args.hold) (sym s.stands.same_holds) ∙ own-closed (open_holds w.queue) c.args.hold c.requires.others

pub invariant_of-self : goal.invariant_of-self
invariant_of-self g c =
    let s = c.args.self.now in
    let w : WriterView = writer_of s.place.me.0 in
    let newest : c.newest-newest.result ≡ own_hold w.queue.newest = c.newest-newest.ensures ∙ own-newest w.queue s.holds s.stands.same_holds in
    let hold : c.newest-newest.result.hold ≡ w.queue.newest.hold = ap (λ (h : HoldEntry). h.hold) newest in
    let generation : c.newest-newest.result.generation ≡ w.queue.newest.generation = ap (λ (h : HoldEntry). h.generation) newest in
    let slots : s.place.me.1 ≡ [] = ap (λ (m : Me Slot View). m.1) s.stands.is in
    let first = (c.fetch_sub.ensures.2.told c.args.hold refl).is in
    let mid : writer_of c.fetch_sub.new.seat.me.0 ≡ reopened w c.args.hold = ap (λ (m : Me Slot View). writer_in m.0) first in
    let b = c.store.ensures.2.told c.args.hold (ap (λ (v : WriterView). v.queue.pending) mid) in
    let queue : map own_hold (open_holds (advanced w c.args.hold).queue) ≡ c.append.new.self =
    map-append own_hold (open_holds w.queue) (coming_hold w c.args.hold ∷ [])
    ∙ (λ k. s.stands.same_holds k ++ record { generation = sym generation k + 1; hold = c.args.hold; first_commit = sym s.stands.commits k } ∷ [])
    ∙ sym c.append.ensures in
    record {
      stands = desk_after s.stands (advanced w c.args.hold) (c.store.ensures.0 ∙ c.fetch_sub.ensures.0) (b.is ∙ ap (λ (m : Me Slot View). (Writer (advanced (writer_in m.0) c.args.hold), m.1)) first)
          refl s.stands.same_buffers queue s.stands.commits s.stands.readers refl (subst (λ (x : WriterView). GoodView (advanced x c.args.hold)) mid b.good) (record { none = s.stands.entries.none });
    }

pub returns-clause-view : goal.returns-clause-view
returns-clause-view g c =
    let s = c.args.self.now in
    let w : WriterView = writer_of s.place.me.0 in
    let first = (c.fetch_sub.ensures.2.told c.args.hold refl).is in
    let mid : writer_of c.fetch_sub.new.seat.me.0 ≡ reopened w c.args.hold = ap (λ (m : Me Slot View). writer_in m.0) first in
    let b = c.store.ensures.2.told c.args.hold (ap (λ (v : WriterView). v.queue.pending) mid) in
    ap (λ (m : Me Slot View). writer_in m.0) b.is ∙ ap (λ (v : WriterView). advanced v c.args.hold) mid
