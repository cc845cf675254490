-- The steps of a work are the writer's steps on words.
use Rattle.std.proofs.Common.{◌≡◌, inl, inr, ℕ, ◌+◌, ◌*◌, ◌<◌, [], ◌∷◌, ◌++◌, length, get_or, set, Option, Some, None, true, cond, refl, sym, ap, ◌∙◌, arith, length-drop, length-append, true≢false, ne_eqb, eq-eqb}
use Rattle.std.specs.Prelude.{slice_get, All, option_and_then}
use Rattle.std.specs.Option.{unwrap_or}
use Rattle.std.proofs.lemmas.Bool.{cases_eq}
use Rattle.std.proofs.lemmas.List.{get_or-drop}
use Rattle.std.proofs.lemmas.Option.{slice_get_within, slice_get-get_or, get_or_from_slice_get}
use Rattle.entry_ref.specs.References.{buffer_of, offset_of}
use Rattle.entry_ref.specs.declared.images.Image.{Image}
use Rattle.entry_ref.specs.Images.{no_image, words_at}
use Rattle.entry_ref.specs.Places.{IsEntry}
use Rattle.entry_ref.proofs.Apart.{within}
use Rattle.gen_core.specs.declared.views.Pending.TheVariants.{Nothing}
use Rattle.gen_core.specs.declared.views.Tag.{Tag}
use Rattle.gen_core.specs.declared.views.Buffer.{Buffer}
use Rattle.gen_core.specs.declared.views.Buffer.TheVariants.{Free, Active, Held}
use Rattle.gen_core.specs.declared.views.WriterView.{WriterView}
use Rattle.gen_core.specs.Views.{floor_of, kept_of, last_number, active_in, last_tag, last_tag_in}
use Rattle.gen_core.specs.Work.{place_in, writer_records, stored_by}
use Rattle.gen_core.specs.Good.{GoodView}
use Rattle.gen_core.specs.Conditions.{MayStoreWord}
use Rattle.gen_core.specs.Events.{stored, published}
use Rattle.gen_core.proofs.Lists.{at_longer}
use Rattle.list_lemmas.proofs.Places.{slice_get-set_same, slice_get-set_other}
use Rattle.gen_core.proofs.ViewLemmas.{last_at, last_image-push}
use Rattle.gen_core.proofs.WriterRecords.{records-published}
use Rattle.gen_core.proofs.GoodViews.{some-commit, floor-last, unkept-avoids}
use Rattle.gen_core.proofs.StoredWords.{stored-step, stored-given}
use Rattle.arena_api.specs.Works.{Buffer as ApiBuffer, active_width as api_active, is_free, last_tag as api_last_tag}
use Rattle.arena_api.specs.Calls.{MayStore, InNoCommit, AddsCommit, with_stored, with_buffer as api_with_buffer, handed_out as api_handed_out}
use Rattle.word_arena.specs.Knows.{given, api_buffer, image_at, view_of}
use Rattle.word_arena.specs.WriterSteps.{IsTaggedBelow}
use Rattle.word_arena.specs.ProofsForWork.{core-active, at_number}
use Rattle.gen_core.proofs.Holds.{oldest-least}

-- a work's commits that have no record are the writer's kept ones
unkept-all : (w : WriterView) → GoodView w → {H : Type 0} (home : H) (r : ℕ) → InNoCommit (view_of home w).commits r → All (λ image. words_at image r ≡ []) (kept_of w)
unkept-all w g home r unkept k d lt =
    let n : ℕ = floor_of w + k in
    let below : n < length w.commits = omega (arith, lt, length-drop (floor_of w) w.commits) in
    let is : get_or (kept_of w) k d ≡ image_at w.commits n = get_or-drop (floor_of w) w.commits k d ∙ get_or_from_slice_get w.commits n _ d (at_number w.commits n below) in
    ap (λ (x : Image). words_at x r) is ∙ unkept n (record { from = omega arith; to = omega (arith, below) })

-- what a work may store, the writer may
pub may_store : (w : WriterView) → GoodView w → w.queue.pending ≡ Nothing → {H : Type 0} (home : H) (r i : ℕ) → MayStore w.sizes.offset_bits (view_of home w) r i
    → MayStoreWord w (place_in w.sizes (api_active (api_buffer (slice_get w.buffers (buffer_of w.sizes.offset_bits r)))) r i)
may_store w g calm home r i may =
    let b : ℕ = buffer_of w.sizes.offset_bits r in
    let width : ℕ = api_active (api_buffer (slice_get w.buffers b)) in
    let e = may.word.entry in
    let active : active_in w.buffers b ≡ Some width = core-active (slice_get w.buffers b) e.wide in
    let inner = within e i may.word.inside in
    record {
      calm = calm;
      active = record { b = b; width = width; x = offset_of w.sizes.offset_bits r * width + i; active = active; some = e.wide; behind = inner.0; inside = inner.1; is = refl };
      apart = unkept-avoids w g r i width active e may.word.inside (unkept-all w g home r may.unkept);
    }

-- a store is what a work's store makes of what it knows
pub store-knows : (w : WriterView) (r i width n : ℕ) → active_in w.buffers (buffer_of w.sizes.offset_bits r) ≡ Some width → IsEntry w.sizes.offset_bits w.sizes.buffers w.sizes.words width r → i < width
    → {H : Type 0} (home : H) → view_of home (stored w (place_in w.sizes width r i) n) ≡ record (view_of home w) { stored = with_stored (stored_by w) r i n }
store-knows w r i width n active entry inside home k = record (view_of home w) { stored = λ q j. stored-step w r i width n active entry inside q j k }

-- the free buffer of lowest number is free
free-at : (w : WriterView) (b : ℕ) → b < length w.buffers → is_free (api_buffer (slice_get w.buffers b)) ≡ true → (tag : Option Tag) × (slice_get w.buffers b ≡ Some (Free tag))
free-at w b lt free = by_buffer (slice_get w.buffers b) refl free
  where
    by_buffer : (o : Option Buffer) → slice_get w.buffers b ≡ o → is_free (api_buffer o) ≡ true → (tag : Option Tag) × (slice_get w.buffers b ≡ Some (Free tag))
    by_buffer None e h = let at : slice_get w.buffers b ≡ Some (get_or w.buffers b (Free None)) = slice_get-get_or w.buffers b (Free None) lt in absurd (cc)
    by_buffer (Some (Free tag)) e h = (tag, e)
    by_buffer (Some (Active width tag)) e h = absurd (true≢false (sym h))
    by_buffer (Some (Held width tag)) e h = absurd (true≢false (sym h))

-- with its own last tag
pub free-here : (w : WriterView) (b : ℕ) → b < length w.buffers → is_free (api_buffer (slice_get w.buffers b)) ≡ true → slice_get w.buffers b ≡ Some (Free (last_tag_in w.buffers b))
free-here w b lt free = let at = free-at w b lt free in at.1 ∙ ap (λ t. Some (Free t)) (sym (ap (option_and_then last_tag) at.1))

module _ (w : WriterView) (g : GoodView w) (b : ℕ) (tag : Option Tag) (width : ℕ) (free : slice_get w.buffers b ≡ Some (Free tag)) (some : 0 < width) where
  within-buffers : b < length w.buffers
  within-buffers = slice_get_within w.buffers b (Free tag) free

  buffers-given : {H : Type 0} (home : H) (a : ℕ) → (view_of home (given w b width tag)).buffer a ≡ api_with_buffer (view_of home w).buffer b (ApiBuffer.active width (api_last_tag ((view_of home w).buffer b))) a
  buffers-given home a = elim (cases_eq a b) [
    | inl e ↦
        ap (λ c. api_buffer (slice_get (set w.buffers b (Active width tag)) c)) e ∙ ap api_buffer (slice_get-set_same w.buffers b (Active width tag) within-buffers)
        ∙ ap (λ o. ApiBuffer.active width (api_last_tag (api_buffer o))) (sym free)
        ∙ ap (λ t. cond t (ApiBuffer.active width (api_last_tag ((view_of home w).buffer b))) ((view_of home w).buffer a)) (sym (eq-eqb a b e))
    | inr ne ↦
        ap api_buffer (slice_get-set_other w.buffers b a (Active width tag) ne) ∙ ap (λ t. cond t (ApiBuffer.active width (api_last_tag ((view_of home w).buffer b))) ((view_of home w).buffer a)) (sym (ne_eqb a b ne))
  ]

  pub hand-knows : {H : Type 0} (home : H) → view_of home (given w b width tag) ≡ api_handed_out (view_of home w) b width
  hand-knows home k = record (view_of home w) { buffer = λ a. buffers-given home a k; stored = λ q i. stored-given w g b tag width free some q i k }

-- a publish adds one commit
module _ (w : WriterView) (g : GoodView w) (image : Image) {H : Type 0} (home : H) where
  length-more : length (w.commits ++ image ∷ []) ≡ length w.commits + 1
  length-more = length-append w.commits (image ∷ [])

  pub last-more : last_number (w.commits ++ image ∷ []) ≡ last_number w.commits + 1
  last-more = let s = some-commit w g in omega (arith, length-more)

  pub publish-adds : AddsCommit (view_of home w).commits (view_of home (published w image)).commits image
  publish-adds = record {
    last = last-more;
    image_is = ap (λ o. unwrap_or o no_image) (last_at (w.commits ++ image ∷ []) (omega (arith, length-more))) ∙ last_image-push w.commits image;
    rises = omega arith;
    within = (let h = floor-last w g in omega (arith, last-more));
    kept = λ n from to. ap (λ o. unwrap_or o no_image) (at_longer w.commits (image ∷ []) n _ (at_number w.commits n (let s = some-commit w g in omega arith)));
  }

  pub publish-records : writer_records (published w image) ≡ words_at image
  publish-records k ref = records-published w image ref k

-- the last tag of a free buffer is below each open hold's generation
pub tagged-below : (w : WriterView) (b : ℕ) → GoodView w → slice_get w.buffers b ≡ Some (Free (last_tag_in w.buffers b)) → IsTaggedBelow w b
tagged-below w b g free tag is k d lt =
    let below = g.tags.free b tag (free ∙ ap (λ (o : Option Tag). Some (Free o)) is) in
    let least = oldest-least w.queue.older w.queue.newest g.queue.rising k d lt in
    omega (arith, below, least)
