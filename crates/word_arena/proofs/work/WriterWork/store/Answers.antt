use Rattle.std.proofs.Common.{◌≡◌, sym, arith, ◌∙◌}
use Rattle.std.specs.Prelude.{slice_get}
use Rattle.entry_ref.specs.References.{buffer_of}
use Rattle.gen_core.specs.declared.views.WriterView.{WriterView}
use Rattle.arena_api.specs.Works.{active_width}
use Rattle.word_arena.specs.Ruled.{writer_of, bare}
use Rattle.word_arena.specs.Knows.{api_buffer, IsDesk}
use Rattle.word_arena.proofs.work.WriterWork.store.Goals as goal

pub place_in-place-requires : goal.place_in-place-requires
place_in-place-requires g c =
    let s = c.args.self.now in
    let w : WriterView = writer_of s.place.me.0 in
    let list : c.as_slice.result.now ≡ w.buffers = c.as_slice.ensures.value ∙ sym s.stands.same_buffers in
    let is : c.width_of-width.result ≡ active_width (api_buffer (slice_get w.buffers (buffer_of g.row.OFFSET_BITS c.args.entry))) =
    c.width_of-width.ensures ∙ (λ k. active_width (api_buffer (slice_get (list k) (c.buffer.ensures.value k)))) in
    (omega arith, (omega arith, (c.requires.word, sym is)))

pub invariant_of-self-2 : goal.invariant_of-self-2
invariant_of-self-2 g c =
    let s = c.args.self.now in
    let st : IsDesk g.row.OFFSET_BITS c.arena-arena.result.now.table.shared.table_id c.arena-arena.result.now.sizes s.buffers.items s.holds s.last s.seats.made s.place.table_id (bare s.place.me) =
    rw c.arena-arena.ensures s.stands in
    record { stands = rw (sym c.arena-arena.ensures) (c.store_in.ensures.desk s.buffers.items s.holds s.last s.seats.made st) }
