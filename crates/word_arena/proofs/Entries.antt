-- Only words of entries are stored, after each step; and a buffer that a work may put on hold, the writer may.
use Rattle.std.proofs.Common.{◌≡◌, ◌≢◌, inl, inr, ℕ, ◌+◌, ◌*◌, ◌<◌, List, [], ◌∷◌, length, get_or, cond, Option, Some, None, refl, sym, ap, ◌∙◌, arith, ne_eqb, eq-eqb}
use Rattle.std.specs.Prelude.{slice_get, All, option_and_then}
use Rattle.std.specs.Option.{unwrap_or}
use Rattle.std.proofs.lemmas.Bool.{cases_eq, and_from, and_left}
use Rattle.std.proofs.lemmas.Nat.{same_from_place}
use Rattle.list_lemmas.proofs.Places.{slice_get-set_same, slice_get-set_other}
use Rattle.entry_ref.specs.References.{buffer_of, offset_of}
use Rattle.entry_ref.specs.declared.images.Image.{Image}
use Rattle.entry_ref.specs.Images.{words_at}
use Rattle.entry_ref.specs.Places.{base, IsEntry}
use Rattle.entry_ref.proofs.Apart.{within}
use Rattle.gen_core.specs.declared.views.Pending.TheVariants.{Nothing}
use Rattle.gen_core.specs.declared.views.Tag.{Tag}
use Rattle.gen_core.specs.declared.views.Buffer.{Buffer}
use Rattle.gen_core.specs.declared.views.Buffer.TheVariants.{Free, Held}
use Rattle.gen_core.specs.declared.views.WriterView.{WriterView}
use Rattle.gen_core.specs.Views.{active_width, active_in, last_image, last_number}
use Rattle.gen_core.specs.Work.{work_at, place_in, whole_at, whole_by, writer_records, stored_in, stored_by}
use Rattle.gen_core.specs.Good.{GoodView, IsPlaced, HasNothingIn}
use Rattle.gen_core.specs.Conditions.{MayPutOnHold}
use Rattle.gen_core.specs.Events.{stored, put_aside, tag_of}
use Rattle.gen_core.proofs.Frames.{active-inside}
use Rattle.gen_core.proofs.GoodViews.{last-kept, found-some}
use Rattle.gen_core.proofs.StoredWords.{stored-step, stored-given, stored-there}
use Rattle.gen_core.proofs.Work.{whole-found}
use Rattle.arena_api.specs.Works.{Buffer as ApiBuffer, active_width as api_active}
use Rattle.arena_api.specs.Calls.{with_buffer as api_with_buffer}
use Rattle.arena_api.specs.Generations.{MayRetire, retired, tag_now}
use Rattle.word_arena.specs.Knows.{api_buffer, api_tag, buffers_by, view_of, given, StoresEntries}
use Rattle.word_arena.specs.ProofsForWork.{core-active, last-image, newest-api}
use Rattle.arena_api.specs.Works.{Hold}

-- one word of an entry more
pub entries-stored : (w : WriterView) (r i width n : ℕ) → active_in w.buffers (buffer_of w.sizes.offset_bits r) ≡ Some width → IsEntry w.sizes.offset_bits w.sizes.buffers w.sizes.words width r → i < width
    → StoresEntries w → StoresEntries (stored w (place_in w.sizes width r i) n)
entries-stored w r i width n active entry inside old = record { none = none_at }
  where
    none_at : (b x : ℕ) → x < w.sizes.words → ((q j : ℕ) → buffer_of w.sizes.offset_bits q ≡ b → stored_by (stored w (place_in w.sizes width r i) n) q j ≡ None)
        → work_at ((place_in w.sizes width r i, n) ∷ w.work) (base w.sizes.buffers w.sizes.words b + x) ≡ None
    none_at b x lt h = elim (cases_eq b (buffer_of w.sizes.offset_bits r)) [
      | inl e ↦
          (let is : stored_by (stored w (place_in w.sizes width r i) n) r i ≡ Some n =
          stored-step w r i width n active entry inside r i ∙ ap (λ t. cond t (Some n) (stored_by w r i)) (and_from _ _ (eq-eqb r r refl) (eq-eqb i i refl)) in
          let none = h r i (sym e) in absurd (cc))
      | inr ne ↦
          (let before : work_at w.work (base w.sizes.buffers w.sizes.words b + x) ≡ None = old.none b x lt (λ q j in_b.
          sym (stored-step w r i width n active entry inside q j
          ∙ ap (λ t. cond t (Some n) (stored_by w q j)) (and_left _ _ (ne_eqb q r (λ same. ne (sym in_b ∙ ap (buffer_of w.sizes.offset_bits) same))))) ∙ h q j in_b) in
          let apart : base w.sizes.buffers w.sizes.words b + x ≢ place_in w.sizes width r i = λ same.
          ne (same_from_place b x (buffer_of w.sizes.offset_bits r) (offset_of w.sizes.offset_bits r * width + i) w.sizes.words lt (within entry i inside).1 (omega (arith, same))).0 in
          ap (λ t. cond t (Some n) (work_at w.work (base w.sizes.buffers w.sizes.words b + x))) (ne_eqb _ _ apart) ∙ before)
    ]

-- one buffer more
pub entries-given : (w : WriterView) → GoodView w → (b : ℕ) (tag : Option Tag) (width : ℕ) → slice_get w.buffers b ≡ Some (Free tag) → 0 < width → StoresEntries w → StoresEntries (given w b width tag)
entries-given w g b tag width free some old = record {
  none = λ a x lt h. old.none a x lt (λ r i in_a. sym (stored-given w g b tag width free some r i) ∙ h r i in_a);
}

-- other buffers of the same active widths
pub entries-buffers : (w : WriterView) (l : List Buffer) → ((a : ℕ) → active_in l a ≡ active_in w.buffers a) → StoresEntries w → StoresEntries (record w { buffers = l })
entries-buffers w l each old = record {
  none = λ b x lt h. old.none b x lt (λ r i in_b. sym (ap (stored_in w r i) (each (buffer_of w.sizes.offset_bits r))) ∙ h r i in_b);
}

module _ (w : WriterView) (g : GoodView w) (calm : w.queue.pending ≡ Nothing) (old : StoresEntries w) (b : ℕ) {H : Type 0} (home : H) (may : MayRetire w.sizes.offset_bits (view_of home w) b) where
  abbrev width : ℕ
  width = api_active (buffers_by w.buffers b)

  is_active : active_in w.buffers b ≡ Some (api_active (buffers_by w.buffers b))
  is_active = core-active (slice_get w.buffers b) may.active

  unused : HasNothingIn w.sizes.offset_bits b (last_image w.commits)
  unused l e less same =
      let image : Image = last_image w.commits in
      let ref : ℕ = (get_or image.records l e).0 in
      let placed : All (IsPlaced w.sizes w.buffers) image.records = last-kept w g (λ i. All (IsPlaced w.sizes w.buffers) i.records) g.records in
      let some = found-some image.records ref l e (λ m x h. (placed m x h).inside.wide) less refl in
      let none : words_at image ref ≡ [] = ap (λ i. words_at i ref) (sym (last-image w g w.sizes.offset_bits refl)) ∙ may.uncommitted ref same in
      omega (arith, some, ap length none)

  -- the writer may put it on hold
  pub may_hold : MayPutOnHold w b (api_active (buffers_by w.buffers b))
  may_hold = record {
    calm = calm;
    active = is_active;
    unused = unused;
    idle = λ p n x is lt same.
        let none = old.none b x lt may.unstored in
        let both : Some n ≡ None = sym is ∙ ap (work_at w.work) same ∙ none in
        absurd (cc);
  }

  there : slice_get (put_aside w b width).buffers b ≡ Some (Held width (tag_of w))
  there = slice_get-set_same w.buffers b (Held width (tag_of w)) (active-inside w.buffers b width is_active)

  other : (a : ℕ) → a ≢ b → slice_get (put_aside w b width).buffers a ≡ slice_get w.buffers a
  other a ne = slice_get-set_other w.buffers b a (Held width (tag_of w)) ne

  stored-held : (r i : ℕ) → stored_by (put_aside w b width) r i ≡ stored_by w r i
  stored-held r i = elim (cases_eq (buffer_of w.sizes.offset_bits r) b) [
    | inl e ↦ ap (stored_in w r i) (ap (active_in (put_aside w b width).buffers) e ∙ ap (option_and_then active_width) there) ∙ sym (may.unstored r i e)
    | inr ne ↦ ap (stored_in w r i) (ap (option_and_then active_width) (other (buffer_of w.sizes.offset_bits r) ne))
  ]

  no-whole : (r : ℕ) → buffer_of w.sizes.offset_bits r ≡ b → whole_at w r ≡ None
  no-whole r in_b = by_whole (whole_at w r) refl
    where
      by_whole : (o : Option (List ℕ)) → whole_at w r ≡ o → o ≡ None
      by_whole None e = refl
      by_whole (Some ws) e =
          let whole = whole-found w r ws e in
          let wide = whole.entry.wide in
          let is : stored_by w r 0 ≡ Some (get_or ws 0 0) = stored-there w r 0 (length ws) whole.active whole.entry wide ∙ whole.words 0 wide in
          let none = may.unstored r 0 in_b in
          absurd (cc)

  pub hold-records : writer_records (put_aside w b width) ≡ writer_records w
  hold-records k r = ap (λ o. unwrap_or o (words_at (last_image w.commits) r)) (elim (cases_eq (buffer_of w.sizes.offset_bits r) b) [
    | inl e ↦ ap (whole_by w r) (ap (active_in (put_aside w b width).buffers) e ∙ ap (option_and_then active_width) there) ∙ sym (no-whole r e)
    | inr ne ↦ ap (whole_by w r) (ap (option_and_then active_width) (other (buffer_of w.sizes.offset_bits r) ne))
  ]) k

  tag-held : api_tag (tag_of w) ≡ tag_now (view_of home w)
  tag-held = λ k. record { generation = sym (ap (λ (h : Hold). h.generation) (newest-api w.queue.older w.queue.newest)) k; commit = last_number w.commits }

  buffers-held : (a : ℕ) → (view_of home (put_aside w b width)).buffer a ≡ api_with_buffer (view_of home w).buffer b (ApiBuffer.held width (tag_now (view_of home w))) a
  buffers-held a = elim (cases_eq a b) [
    | inl e ↦
        ap (λ c. api_buffer (slice_get (put_aside w b width).buffers c)) e ∙ ap api_buffer there ∙ ap (ApiBuffer.held width) tag-held
        ∙ ap (λ t. cond t (ApiBuffer.held width (tag_now (view_of home w))) ((view_of home w).buffer a)) (sym (eq-eqb a b e))
    | inr ne ↦
        ap api_buffer (other a ne) ∙ ap (λ t. cond t (ApiBuffer.held width (tag_now (view_of home w))) ((view_of home w).buffer a)) (sym (ne_eqb a b ne))
  ]

  pub hold-knows : view_of home (put_aside w b width) ≡ retired (view_of home w) b
  hold-knows k = record (view_of home w) { buffer = λ a. buffers-held a k; stored = λ r i. stored-held r i k }

-- on hold
pub entries-held : (w : WriterView) (b n : ℕ) → MayPutOnHold w b n → StoresEntries w → StoresEntries (put_aside w b n)
entries-held w b n may old = record { none = none_at }
  where
    none_at : (a x : ℕ) → x < w.sizes.words → ((q j : ℕ) → buffer_of w.sizes.offset_bits q ≡ a → stored_by (put_aside w b n) q j ≡ None)
        → work_at w.work (base w.sizes.buffers w.sizes.words a + x) ≡ None
    none_at a x lt h = elim (cases_eq a b) [
      | inl e ↦ by_word (work_at w.work (base w.sizes.buffers w.sizes.words a + x)) refl e
      | inr ne ↦ old.none a x lt (λ r i in_a.
          sym (ap (stored_in w r i) (ap (option_and_then active_width) (slice_get-set_other w.buffers b (buffer_of w.sizes.offset_bits r) (Held n (tag_of w)) (λ same. ne (sym in_a ∙ same))))) ∙ h r i in_a)
    ]
      where
        by_word : (o : Option ℕ) → work_at w.work (base w.sizes.buffers w.sizes.words a + x) ≡ o → a ≡ b → o ≡ None
        by_word None is e = refl
        by_word (Some m) is e = absurd (may.idle _ m x is lt (ap (λ c. base w.sizes.buffers w.sizes.words c + x) e))
