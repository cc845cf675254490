-- What the writer's steps on holds tell its seat.
use Rattle.std.specs.Prelude.{◌≡◌, ◌≢◌, ℕ, List, ◌∷◌, slice_get, Some}
use Rattle.atomic_table.specs.Table.{Me, Step}
use Rattle.gen_core.specs.declared.views.OpenHold.{OpenHold}
use Rattle.gen_core.specs.declared.views.Tag.{Tag}
use Rattle.gen_core.specs.declared.views.Pending.TheVariants.{Next, Probed}
use Rattle.gen_core.specs.declared.views.Buffer.TheVariants.{Held}
use Rattle.gen_core.specs.declared.views.View.{View}
use Rattle.entry_ref.specs.Places.{state_place}
use Rattle.gen_core.specs.Views.{hold_place, active_in}
use Rattle.gen_core.specs.Events.{probed, advanced, morphed, put_aside, freed, reopened, closed, stopped}
use Rattle.word_arena.specs.Ruled.{Slot, writer_in, Becomes}

abbrev pub told_reopen : Step Slot → Me Slot View → ℕ → Me Slot View → Type 0
told_reopen st me found me' = (h : ℕ) → st.word ≡ hold_place h → Becomes me (reopened (writer_in me.0) h) me'

abbrev pub told_store_newest : Step Slot → Me Slot View → ℕ → Me Slot View → Type 0
told_store_newest st me found me' = (h : ℕ) → (writer_in me.0).queue.pending ≡ Next h → Becomes me (advanced (writer_in me.0) h) me'

abbrev pub told_morph : Step Slot → Me Slot View → ℕ → Me Slot View → Type 0
told_morph st me found me' = (writer_in me.0).queue.pending ≡ Probed → Becomes me (morphed (writer_in me.0)) me'

pub record ToldProbe (me : Me Slot View) (found : ℕ) (me' : Me Slot View) : Type 0 where
  pub hit : found ≡ 0 → Becomes me (probed (writer_in me.0)) me'
  pub miss : found ≢ 0 → Becomes me (stopped (writer_in me.0) found) me'
  pub alone : (writer_in me.0).made ≡ 0 → found ≡ 0

abbrev pub told_probe : Step Slot → Me Slot View → ℕ → Me Slot View → Type 0
told_probe st me found me' = ToldProbe me found me'

pub record ToldClose (me : Me Slot View) (found : ℕ) (me' : Me Slot View) : Type 0 where
  pub hit : found ≡ 0 → (e : OpenHold) (es : List OpenHold) → (writer_in me.0).queue.older ≡ e ∷ es
      → Becomes me (closed (writer_in me.0) es) me'
  pub miss : found ≢ 0 → Becomes me (stopped (writer_in me.0) found) me'
  pub alone : (writer_in me.0).made ≡ 0 → found ≡ 0

abbrev pub told_close : Step Slot → Me Slot View → ℕ → Me Slot View → Type 0
told_close st me found me' = ToldClose me found me'

abbrev pub told_hold : Step Slot → Me Slot View → ℕ → Me Slot View → Type 0
told_hold st me found me' = (b width : ℕ) → st.word ≡ state_place b → active_in (writer_in me.0).buffers b ≡ Some width
    → Becomes me (put_aside (writer_in me.0) b width) me'

abbrev pub told_free : Step Slot → Me Slot View → ℕ → Me Slot View → Type 0
told_free st me found me' = (b width : ℕ) (tag : Tag) → st.word ≡ state_place b
    → slice_get (writer_in me.0).buffers b ≡ Some (Held width tag)
    → Becomes me (freed (writer_in me.0) b tag) me'
