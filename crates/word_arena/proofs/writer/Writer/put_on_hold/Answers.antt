use Rattle.std.proofs.Common.{ap, sym, refl, arith, ◌∙◌, ◌≡◌, ◌+◌, ◌<◌, ℕ, length, set, List}
use Rattle.atomic_table.specs.Table.{Me}
use Rattle.generation_handler.specs.declared.HoldEntry.{HoldEntry}
use Rattle.gen_core.specs.declared.views.Sizes.{Sizes}
use Rattle.gen_core.specs.declared.views.Buffer.{Buffer}
use Rattle.gen_core.specs.declared.views.Buffer.TheVariants.{Held}
use Rattle.gen_core.specs.declared.views.View.{View}
use Rattle.gen_core.specs.declared.views.WriterView.{WriterView}
use Rattle.gen_core.specs.Events.{put_aside}
use Rattle.gen_core.proofs.Frames.{active-inside}
use Rattle.arena_api.specs.Works.{active_width}
use Rattle.word_arena.specs.Ruled.{Slot, writer_of, writer_in}
use Rattle.word_arena.specs.Knows.{buffers_by}
use Rattle.word_arena.proofs.AllowedHolds.{hold_owed}
use Rattle.word_arena.proofs.Desks.{arena-words, desk_after}
use Rattle.word_arena.proofs.Entries.{entries-held}
use Rattle.word_arena.proofs.OwnHolds.{own-newest}
use Rattle.word_arena.proofs.writer.Writer.put_on_hold.Goals as goal

pub index_mut-requires : goal.index_mut-requires
index_mut-requires g c =
    let s = c.args.self.now in
    let below = active-inside (writer_of s.place.me.0).buffers c.args.buffer _ c.requires.active in
    omega (arith, below, ap (λ (l : List Buffer). length l) s.stands.same_buffers, s.buffers.ok.0)

pub store-requires : goal.store-requires
store-requires g c =
    let s = c.args.self.now in
    let w : WriterView = writer_of s.place.me.0 in
    let below = active-inside w.buffers c.args.buffer _ c.requires.active in
    let inside : 18 + c.args.buffer < s.seats.arena.value.table.shared.table_id.words = omega (arith, below, s.stands.good.count, arena-words s.stands, ap (λ (z : Sizes). z.buffers) s.stands.same_sizes) in
    rw c.arena-arena.ensures (s.stands.own, inside, hold_owed _ _ _ _ _ _ w c.args.buffer _ _ s.stands.is refl c.requires)

pub invariant_of-self : goal.invariant_of-self
invariant_of-self g c =
    let s = c.args.self.now in
    let w : WriterView = writer_of s.place.me.0 in
    let b : ℕ = c.args.buffer in
    let width : ℕ = active_width (buffers_by w.buffers b) in
    let e = c.store.ensures in
    let told = e.2.told b width refl c.requires.active in
    let same : c.as_slice.result.now ≡ w.buffers = c.as_slice.ensures.value ∙ sym s.stands.same_buffers in
    let wide : width ≡ c.width_of-width.result = sym (c.width_of-width.ensures ∙ ap (λ (l : List Buffer). active_width (buffers_by l b)) same) in
    let newest = own-newest w.queue s.holds s.stands.same_holds in
    let generation : w.queue.newest.generation ≡ c.newest-newest.result.generation = sym (ap (λ (h : HoldEntry). h.generation) (c.newest-newest.ensures ∙ newest)) in
    let commit = sym (c.from.ensures ∙ s.stands.commits) in
    let list : (put_aside w b width).buffers ≡ set s.buffers.items b (Held c.width_of-width.result (record { generation = c.newest-newest.result.generation; commit = c.from.result })) =
    (λ k. set (s.stands.same_buffers k) b (Held (wide k) (record { generation = generation k; commit = commit k }))) in
    record { stands = desk_after s.stands (put_aside w b width) e.0 told.is refl list s.stands.same_holds s.stands.commits s.stands.readers s.stands.calm told.good (entries-held w b width c.requires s.stands.entries) }

pub returns-clause-view : goal.returns-clause-view
returns-clause-view g c =
    let s = c.args.self.now in
    let w : WriterView = writer_of s.place.me.0 in
    let width : ℕ = active_width (buffers_by w.buffers c.args.buffer) in
    ap (λ (m : Me Slot View). writer_in m.0) (c.store.ensures.2.told c.args.buffer width refl c.requires.active).is
