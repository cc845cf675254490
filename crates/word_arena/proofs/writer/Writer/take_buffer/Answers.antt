use Rattle.std.proofs.Common.{ap, sym, refl, subst, arith, ◌∙◌, ◌≡◌, ◌+◌, ◌<◌, ℕ, length, set, [], List}
use Rattle.atomic_table.specs.Table.{Me}
use Rattle.entry_ref.specs.Places.{base}
use Rattle.gen_core.specs.declared.views.Sizes.{Sizes}
use Rattle.gen_core.specs.declared.views.Buffer.{Buffer}
use Rattle.gen_core.specs.declared.views.Buffer.TheVariants.{Active}
use Rattle.gen_core.specs.declared.views.View.{View}
use Rattle.gen_core.specs.declared.views.View.TheVariants.{Writer}
use Rattle.gen_core.specs.declared.views.WriterView.{WriterView}
use Rattle.gen_core.specs.Views.{last_tag_in}
use Rattle.gen_core.specs.Events.{handed_out, widened}
use Rattle.word_arena.specs.Ruled.{Slot, writer_of, writer_in}
use Rattle.word_arena.specs.Knows.{given, StoresEntries}
use Rattle.word_arena.proofs.Entries.{entries-given}
use Rattle.word_arena.proofs.Allowed.{hand_out_owed, width_owed}
use Rattle.word_arena.proofs.Guards.{base-inside}
use Rattle.word_arena.proofs.Desks.{arena-words, desk_after, few-buffers, few-words}
use Rattle.word_arena.proofs.Stores.{free-here}
use Rattle.gen_core.proofs.Layouts.{IsLayout}
use Rattle.word_arena.specs.Released.{HandsOut}
use Rattle.word_arena.proofs.HandsOut.{hands_out, hands_on}
use Rattle.word_arena.proofs.writer.Writer.take_buffer.Goals as goal
use Rattle.gen_core.specs.Good.{GoodView}
use Rattle.gen_core.proofs.StoredWords.{two-steps, may-hand-out, may-width}

pub first_word-first-requires : goal.first_word-first-requires
first_word-first-requires g c = let s = c.args.self.now in rw c.arena-arena.ensures (record { few_buffers = few-buffers s.stands; few_words = few-words s.stands })

pub store-requires : goal.store-requires
store-requires g c =
    let s = c.args.self.now in
    let w : WriterView = writer_of s.place.me.0 in
    let b : ℕ = c.args.buffer in
    let below : b < length w.buffers = let h = c.requires.below in omega (arith, h, s.stands.good.count) in
    let free = free-here w b below c.requires.free in
    let inside : 18 + b < s.seats.arena.value.table.shared.table_id.words = let h = c.requires.below in omega (arith, h, arena-words s.stands, ap (λ (z : Sizes). z.buffers) s.stands.same_sizes) in
    rw c.arena-arena.ensures (s.stands.own, inside, hand_out_owed _ _ _ _ _ _ w b _ s.stands.is refl (may-hand-out w s.stands.good b (last_tag_in w.buffers b) c.args.width free c.requires.some s.stands.calm))

pub store-requires-2 : goal.store-requires-2
store-requires-2 g c =
    let s = c.args.self.now in
    let w : WriterView = writer_of s.place.me.0 in
    let b : ℕ = c.args.buffer in
    let below : b < length w.buffers = let h = c.requires.below in omega (arith, h, s.stands.good.count) in
    let free = free-here w b below c.requires.free in
    let some : 0 < c.from.result = let h = c.requires.some in omega (arith, h, c.from.ensures) in
    let size = s.stands.same_sizes in
    let at : c.first_word-first.result ≡ base w.sizes.buffers w.sizes.words b = (rw c.arena-arena.ensures at c.first_word-first.ensures) ∙ (λ k. base (sym size k).buffers (sym size k).words b) in
    let in_table : b < s.seats.arena.value.sizes.buffers = let h = c.requires.below in omega (arith, h, ap (λ (z : Sizes). z.buffers) size) in
    let word : 0 < s.seats.arena.value.sizes.words = subst (λ (z : Sizes). 0 < z.words) size s.stands.good.some_word in
    let low = base-inside s.seats.arena.value.sizes.buffers s.seats.arena.value.sizes.words b in_table word in
    let here = (rw c.arena-arena.ensures at c.first_word-first.ensures) in
    let e = c.store.ensures in
    let slots : s.place.me.1 ≡ [] = ap (λ (m : Me Slot View). m.1) s.stands.is in rw c.arena-arena.ensures (
      e.0 ∙ s.stands.own,
      omega (arith, low, here, arena-words s.stands),
      width_owed _ _ _ _ _ _ (handed_out w b) b _ _ ((e.2.told b refl).is ∙ (λ k. (Writer (handed_out w b), slots k))) at
          (may-width w s.stands.good b (last_tag_in w.buffers b) c.from.result free some s.stands.calm),
    )

pub invariant_of-self : goal.invariant_of-self
invariant_of-self g c =
    let s = c.args.self.now in
    let w : WriterView = writer_of s.place.me.0 in
    let b : ℕ = c.args.buffer in
    let below : b < length w.buffers = let h = c.requires.below in omega (arith, h, s.stands.good.count) in
    let free = free-here w b below c.requires.free in
    let some : 0 < c.from.result = let h = c.requires.some in omega (arith, h, c.from.ensures) in
    let size = s.stands.same_sizes in
    let at : c.first_word-first.result ≡ base w.sizes.buffers w.sizes.words b = (rw c.arena-arena.ensures at c.first_word-first.ensures) ∙ (λ k. base (sym size k).buffers (sym size k).words b) in
    let e = c.store.ensures in
    let first = (e.2.told b refl).is in
    let mid : writer_of c.store.new.seat.me.0 ≡ handed_out w b = ap (λ (m : Me Slot View). writer_in m.0) first in
    let f = c.store-2.ensures in
    let second = f.2.told b (at ∙ ap (λ (v : WriterView). base v.sizes.buffers v.sizes.words b) (sym mid)) in
    let v : WriterView = widened (handed_out w b) b c.from.result in
    let steps = two-steps w s.stands.good b (last_tag_in w.buffers b) c.from.result free some in
    let value : c.from.result ≡ c.from-2.result = c.from.ensures ∙ sym c.from-2.ensures in
    let tag : last_tag_in w.buffers b ≡ c.last_of-last.result =
    ap (λ (l : List Buffer). last_tag_in l b) (s.stands.same_buffers ∙ sym c.as_slice.ensures.value) ∙ sym c.last_of-last.ensures in
    let list : v.buffers ≡ set s.buffers.items b (Active c.from-2.result c.last_of-last.result) =
    ap (λ (x : WriterView). x.buffers) steps ∙ (λ k. set (s.stands.same_buffers k) b (Active (value k) (tag k))) in
    record {
      stands = desk_after s.stands v (f.0 ∙ e.0) (second.is ∙ ap (λ (m : Me Slot View). (Writer (widened (writer_in m.0) b c.from.result), m.1)) first) refl list s.stands.same_holds
          s.stands.commits s.stands.readers s.stands.calm (subst (λ (x : WriterView). GoodView (widened x b c.from.result)) mid second.good)
          (subst StoresEntries (sym steps) (entries-given w s.stands.good b (last_tag_in w.buffers b) c.from.result free some s.stands.entries));
    }

pub returns-clause-view : goal.returns-clause-view
returns-clause-view g c =
    let s = c.args.self.now in
    let w : WriterView = writer_of s.place.me.0 in
    let b : ℕ = c.args.buffer in
    let below : b < length w.buffers = let h = c.requires.below in omega (arith, h, s.stands.good.count) in
    let free = free-here w b below c.requires.free in
    let some : 0 < c.from.result = let h = c.requires.some in omega (arith, h, c.from.ensures) in
    let size = s.stands.same_sizes in
    let at : c.first_word-first.result ≡ base w.sizes.buffers w.sizes.words b = (rw c.arena-arena.ensures at c.first_word-first.ensures) ∙ (λ k. base (sym size k).buffers (sym size k).words b) in
    let mid : writer_of c.store.new.seat.me.0 ≡ handed_out w b = ap (λ (m : Me Slot View). writer_in m.0) (c.store.ensures.2.told b refl).is in
    let second = c.store-2.ensures.2.told b (at ∙ ap (λ (v : WriterView). base v.sizes.buffers v.sizes.words b) (sym mid)) in
    ap (λ (m : Me Slot View). writer_in m.0) second.is ∙ ap (λ (x : WriterView). widened x b c.from.result) mid
    ∙ two-steps w s.stands.good b (last_tag_in w.buffers b) c.from.result free some
    ∙ ap (λ (n : ℕ). given w b n (last_tag_in w.buffers b)) c.from.ensures

pub returns-clause-hands : goal.returns-clause-hands
returns-clause-hands g c =
    let s = c.args.self.now in
    let layout : IsLayout g.L.Layout.reaches g.L.Layout.lawful = record { empty_reaches = g.L.Layout.empty_reaches; empty_lawful = g.L.Layout.empty_lawful; present = g.L.Layout.present; stays = g.L.Layout.stays } in
    let e = c.store.ensures.2.event in
    let place = e.1.is.word in
    let b : e.0 ≡ c.args.buffer = omega (arith, place) in
    let first = hands_out g.L.Layout.reaches g.L.Layout.lawful layout e.0 _ _ _ _ e.1 in
    subst (λ (n : ℕ). HandsOut g.L.Layout.reaches g.L.Layout.lawful (writer_of s.place.me.0).sizes s.place.me.0.seen c.store-2.new.seat.me.0.seen n) b
    (hands_on g.L.Layout.reaches g.L.Layout.lawful first c.store-2.ensures.2.event.1)
