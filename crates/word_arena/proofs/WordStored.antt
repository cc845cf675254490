-- The writer's seat after a step that stores a word of an entry, or finds it there.
use Rattle.std.proofs.Common.{◌≡◌, ◌≢◌, ℕ, ◌*◌, ◌<◌, List, Some, refl, sym, ap, subst, arith, ◌∙◌}
use Rattle.std.specs.Prelude.{slice_get}
use Rattle.atomic_table.specs.Table.{Me}
use Rattle.atomic_table.specs.Seated.{TableId}
use Rattle.entry_ref.specs.References.{buffer_of}
use Rattle.entry_ref.proofs.Apart.{place-below}
use Rattle.generation_handler.specs.declared.HoldEntry.{HoldEntry}
use Rattle.gen_core.specs.declared.views.Sizes.{Sizes}
use Rattle.gen_core.specs.declared.views.Buffer.{Buffer}
use Rattle.gen_core.specs.declared.views.View.{View}
use Rattle.gen_core.specs.declared.views.View.TheVariants.{Writer}
use Rattle.gen_core.specs.declared.views.WriterView.{WriterView}
use Rattle.gen_core.specs.Views.{active_in}
use Rattle.gen_core.specs.Work.{place_in, writer_records}
use Rattle.gen_core.specs.Good.{GoodView}
use Rattle.gen_core.specs.Conditions.{MayStoreWord}
use Rattle.gen_core.specs.Events.{stored}
use Rattle.gen_core.proofs.WriterRecords.{records-others}
use Rattle.arena_api.specs.Works.{active_width}
use Rattle.arena_api.specs.Calls.{MayStore, with_stored}
use Rattle.word_arena.specs.Ruled.{Slot, writer_in}
use Rattle.word_arena.specs.Knows.{api_buffer, place_by, view_of, StoresEntries, IsDesk}
use Rattle.word_arena.specs.ProofsForWork.{core-active}
use Rattle.word_arena.proofs.Entries.{entries-stored}
use Rattle.word_arena.proofs.Desks.{desk_after, view-bits, Keeps}
use Rattle.word_arena.proofs.Stores.{may_store, store-knows}

module _ {bits : ℕ} {arena : TableId} {sizes : Sizes} {buffers : List Buffer} {holds : List HoldEntry} {last made : ℕ} {z : TableId} {me : Me Slot View}
    (d : IsDesk bits arena sizes buffers holds last made z me) (r i at : ℕ)
    (may : MayStore bits (view_of z (writer_in me.0)) r i) (place : at ≡ place_by bits (view_of z (writer_in me.0)) r i) where
  abbrev w : WriterView
  w = writer_in me.0

  abbrev width : ℕ
  width = active_width (api_buffer (slice_get w.buffers (buffer_of w.sizes.offset_bits r)))

  may_in : MayStore w.sizes.offset_bits (view_of z w) r i
  may_in = subst (λ b. MayStore b (view_of z w) r i) (sym (view-bits d)) may

  is_place : at ≡ place_in w.sizes width r i
  is_place = place ∙ (λ k. place_by (sym (view-bits d) k) (view_of z w) r i)

  is_active : active_in w.buffers (buffer_of w.sizes.offset_bits r) ≡ Some width
  is_active = core-active (slice_get w.buffers (buffer_of w.sizes.offset_bits r)) may_in.word.entry.wide

  pub inside_table : at < arena.words
  inside_table =
      let below = place-below may_in.word.entry i may_in.word.inside in
      let on = is_place in
      omega (arith, below, on, ap (λ (x : TableId). x.words) d.own, d.words, ap (λ (x : Sizes). x.buffers * x.words) d.same_sizes, ap (λ (x : Sizes). x.buffers) d.same_sizes)

  pub may_word : MayStoreWord w at
  may_word = subst (MayStoreWord w) (sym is_place) (may_store w d.good d.calm z r i may_in)

  is_stored : {me' : Me Slot View} (word : ℕ) → me' ≡ (Writer (stored w at word), me.1) → writer_in me'.0 ≡ stored w (place_in w.sizes width r i) word
  is_stored word told = ap (λ (m : Me Slot View). writer_in m.0) told ∙ ap (λ (q : ℕ). stored w q word) is_place

  pub knows_stored : {z' : TableId} {me' : Me Slot View} (word : ℕ) → z' ≡ z → me' ≡ (Writer (stored w at word), me.1)
      → view_of z' (writer_in me'.0) ≡ record (view_of z w) { stored = with_stored (view_of z w).stored r i word }
  knows_stored word same told =
      let is = is_stored word told in
      (λ k. view_of (same k) (is k)) ∙ store-knows w r i width word is_active may_in.word.entry may_in.word.inside z

  pub others_stored : {me' : Me Slot View} (word : ℕ) → me' ≡ (Writer (stored w at word), me.1)
      → (q : ℕ) → q ≢ r → writer_records (writer_in me'.0) q ≡ writer_records w q
  others_stored word told q other =
      ap (λ (v : WriterView). writer_records v q) (is_stored word told) ∙ records-others w r width i word is_active may_in.word.entry may_in.word.inside q other

  pub desk_stored : {z' : TableId} {me' : Me Slot View} (word : ℕ) → z' ≡ z → me' ≡ (Writer (stored w at word), me.1) → GoodView (stored w at word)
      → Keeps bits arena sizes z me z' me'
  desk_stored word same told good buffers' holds' last' made' e =
      let kept = subst (λ q. StoresEntries (stored w q word)) (sym is_place) (entries-stored w r i width word is_active may_in.word.entry may_in.word.inside e.entries) in
      desk_after e (stored w at word) same told refl e.same_buffers e.same_holds e.commits e.readers e.calm good kept
