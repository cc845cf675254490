use Rattle.std.proofs.Common.{◌∷◌, [], ap, refl, sym, subst, ◌≡◌, ℕ, zero, suc, None, true}
use Rattle.std.specs.Prelude.{slice_get, replicate}
use Rattle.atomic_table.specs.Table.{Me}
use Rattle.gen_core.specs.declared.views.Buffer.TheVariants.{Free}
use Rattle.gen_core.specs.declared.views.View.{View}
use Rattle.gen_core.specs.declared.views.WriterView.{WriterView}
use Rattle.arena_api.specs.Calls.{IsFresh}
use Rattle.arena_api.specs.Works.{is_free}
use Rattle.gen_core.specs.declared.views.Sizes.{Sizes}
use Rattle.gen_core.specs.Events.{opening_hold}
use Rattle.gen_core.proofs.Layouts.{IsLayout}
use Rattle.word_arena.specs.Ruled.{Slot, bare, writer_in}
use Rattle.word_arena.specs.Knows.{api_buffer, own_hold, view_of, IsDesk}
use Rattle.word_arena.proofs.OpeningDesk.{opening_desk}
use Rattle.word_arena.proofs.arena.Arena.writer.Goals as goal

pub invariant_of-result : goal.invariant_of-result
invariant_of-result g c =
    let a = c.args.token in
    let s = c.args.self in
    let layout : IsLayout g.L.Layout.reaches g.L.Layout.lawful = record { empty_reaches = g.L.Layout.empty_reaches; empty_lawful = g.L.Layout.empty_lawful; present = g.L.Layout.present; stays = g.L.Layout.stays } in
    let it : IsDesk g.row.OFFSET_BITS s.table.shared.table_id a.sizes a.buffers.items (own_hold opening_hold ∷ []) 0 0 a.place.table_id (bare a.place.me) =
    opening_desk g.L.Layout.reaches g.L.Layout.lawful layout g.row.OFFSET_BITS s.table.shared.table_id a.sizes a.buffers.items a.place.table_id (bare a.place.me) a.stands c.requires.0 in
    record {
      stands = rw (c.in_ok-seats.ensures.arena, c.in_ok-seats.ensures.made)
          (subst (λ (z : Sizes). IsDesk g.row.OFFSET_BITS s.table.shared.table_id z a.buffers.items c.new-2.result 0 0 a.place.table_id (bare a.place.me)) c.requires.1
          (subst (λ l. IsDesk g.row.OFFSET_BITS s.table.shared.table_id a.sizes a.buffers.items l 0 0 a.place.table_id (bare a.place.me)) (sym c.new-2.ensures) it));
    }

-- no buffer of a new arena is in use
free_all : (n b : ℕ) → is_free (api_buffer (slice_get (replicate n (Free None)) b)) ≡ true
free_all zero b = refl
free_all (suc n) zero = refl
free_all (suc n) (suc b) = free_all n b

pub returns-clause-fresh : goal.returns-clause-fresh
returns-clause-fresh g c =
    let a = c.args.token in
    subst (λ (v : WriterView). IsFresh (view_of a.place.table_id v)) (sym (ap (λ (m : Me Slot View). writer_in m.0) a.stands.is))
    (record { queue = refl; floor = refl; last = refl; image = refl; buffers = free_all a.sizes.buffers })
