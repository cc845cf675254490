use Rattle.std.proofs.Common.{ap, sym, refl, subst, arith, ◌∙◌, ◌≡◌, ◌+◌, ◌<◌, ℕ, set, List, Some}
use Rattle.atomic_table.specs.Table.{Me}
use Rattle.gen_core.specs.declared.views.Sizes.{Sizes}
use Rattle.gen_core.specs.declared.views.View.{View}
use Rattle.gen_core.specs.declared.views.WriterView.{WriterView}
use Rattle.word_arena.specs.Ruled.{Slot, writer_of, writer_in}
use Rattle.word_arena.proofs.AllowedHolds.{free_owed}
use Rattle.word_arena.proofs.Desks.{arena-words, desk_after}
use Rattle.std.specs.Prelude.{slice_get}
use Rattle.gen_core.specs.declared.views.Buffer.{Buffer}
use Rattle.gen_core.specs.declared.views.Buffer.TheVariants.{Free}
use Rattle.gen_core.specs.Events.{freed}
use Rattle.word_arena.specs.WriterSteps.{unused_tag_in, FreesOne}
use Rattle.word_arena.proofs.Entries.{entries-buffers}
use Rattle.word_arena.proofs.Reclaims.{tag-found, tag-none, frees-one, frees-none, freed-active}
use Rattle.word_arena.proofs.writer.Writer.free_one.Goals as goal

pub store-requires : goal.store-requires
store-requires g c =
    let s = c.args.self.now in
    let w : WriterView = writer_of s.place.me.0 in
    let b : ℕ = c.args.buffer in
    let list : c.as_slice.result.now ≡ w.buffers = c.as_slice.ensures.value ∙ sym s.stands.same_buffers in
    let at = tag-found c.args.oldest (slice_get w.buffers b) c.in-Some.tag (ap (λ (l : List Buffer). unused_tag_in c.args.oldest l b) (sym list) ∙ sym c.in-Some.ensures) in
    let below = c.requires.below in
    let inside : 18 + c.args.buffer < s.seats.arena.value.table.shared.table_id.words = omega (arith, below, s.stands.good.count, arena-words s.stands, ap (λ (z : Sizes). z.buffers) s.stands.same_sizes) in
    let low = at.2 in
    let oldest = c.requires.oldest in
    rw c.arena-arena.ensures (s.stands.own, inside, free_owed _ _ _ _ _ _ w b c.in-Some.tag _ s.stands.is refl (record { calm = s.stands.calm; width = at.0; held = at.1; below = omega (arith, low, oldest) }))

pub invariant_of-self-in-Some : goal.invariant_of-self-in-Some
invariant_of-self-in-Some g c =
    let s = c.args.self.now in
    let w : WriterView = writer_of s.place.me.0 in
    let b : ℕ = c.args.buffer in
    let list : c.as_slice.result.now ≡ w.buffers = c.as_slice.ensures.value ∙ sym s.stands.same_buffers in
    let at = tag-found c.args.oldest (slice_get w.buffers b) c.in-Some.tag (ap (λ (l : List Buffer). unused_tag_in c.args.oldest l b) (sym list) ∙ sym c.in-Some.ensures) in
    let told = c.store.ensures.2.told b at.0 c.in-Some.tag refl at.1 in
    let buffers : (freed w b c.in-Some.tag).buffers ≡ set s.buffers.items b (Free (Some c.in-Some.tag)) = (λ k. set (s.stands.same_buffers k) b (Free (Some c.in-Some.tag))) in
    record {
      stands = desk_after s.stands (freed w b c.in-Some.tag) c.store.ensures.0 told.is refl buffers s.stands.same_holds s.stands.commits s.stands.readers s.stands.calm told.good
          (entries-buffers w (freed w b c.in-Some.tag).buffers (freed-active w b at.0 c.in-Some.tag at.1) s.stands.entries);
    }

pub returns-in-Some-clause-view : goal.returns-in-Some-clause-view
returns-in-Some-clause-view g c =
    let s = c.args.self.now in
    let w : WriterView = writer_of s.place.me.0 in
    let b : ℕ = c.args.buffer in
    let list : c.as_slice.result.now ≡ w.buffers = c.as_slice.ensures.value ∙ sym s.stands.same_buffers in
    let at = tag-found c.args.oldest (slice_get w.buffers b) c.in-Some.tag (ap (λ (l : List Buffer). unused_tag_in c.args.oldest l b) (sym list) ∙ sym c.in-Some.ensures) in
    let told = c.store.ensures.2.told b at.0 c.in-Some.tag refl at.1 in
    subst (FreesOne c.args.oldest b w) (sym (ap (λ (m : Me Slot View). writer_in m.0) told.is)) (frees-one w b at.0 c.args.oldest c.in-Some.tag at.1 at.2)

pub returns-in-None-clause-view : goal.returns-in-None-clause-view
returns-in-None-clause-view g c =
    let s = c.args.self.now in
    let w : WriterView = writer_of s.place.me.0 in
    let b : ℕ = c.args.buffer in
    let list : c.as_slice.result.now ≡ w.buffers = c.as_slice.ensures.value ∙ sym s.stands.same_buffers in
    frees-none w b c.args.oldest (tag-none c.args.oldest (slice_get w.buffers b) (ap (λ (l : List Buffer). unused_tag_in c.args.oldest l b) (sym list) ∙ sym c.in-None.ensures))
