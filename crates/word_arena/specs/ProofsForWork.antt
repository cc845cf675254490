-- Lemmas that the writer cites for the invariants of a work. They are proofs, not part of the specification.
use Rattle.std.proofs.Common.{◌≡◌, ◌≢◌, ◌⊎◌, inl, inr, ⊎_elim, ℕ, suc, ◌+◌, ◌<◌, ◌≤◌, List, [], ◌∷◌, map, length, get_or, slice_index}
use Rattle.std.proofs.Common.{Option, Some, None, refl, sym, ap, subst, ◌∙◌, arith}
use Rattle.std.specs.Prelude.{◌^◌, ◌++◌, slice_get, All, AllPairs, option_and_then}
use Rattle.std.specs.List.{AllByRecursion}
use Rattle.std.specs.Option.{unwrap_or}
use Rattle.std.proofs.lemmas.Option.{slice_get-get_or}
use Rattle.entry_ref.specs.References.{offset_limit, buffer_of}
use Rattle.entry_ref.specs.declared.images.Image.{Image}
use Rattle.entry_ref.specs.Images.{no_image, record_at, words_at}
use Rattle.entry_ref.specs.Places.{IsEntry}
use Rattle.entry_ref.proofs.Apart.{entry-small}
use Rattle.generation_handler.specs.declared.HoldEntry.{HoldEntry}
use Rattle.gen_core.specs.declared.views.Sizes.{Sizes}
use Rattle.gen_core.specs.declared.views.OpenHold.{OpenHold}
use Rattle.gen_core.specs.declared.views.Pending.{Pending}
use Rattle.gen_core.specs.declared.views.Pending.TheVariants.{Nothing, Next, Probed}
use Rattle.gen_core.specs.declared.views.Tag.{Tag}
use Rattle.gen_core.specs.declared.views.Buffer.{Buffer}
use Rattle.gen_core.specs.declared.views.Buffer.TheVariants.{Free, Active, Held}
use Rattle.gen_core.specs.declared.views.WriterView.{WriterView}
use Rattle.gen_core.specs.Views.{open_holds, oldest_in, coming_after, floor_of, last_number, last_image, record_width, active_width}
use Rattle.gen_core.specs.Views.{active_in}
use Rattle.gen_core.specs.Work.{writer_records, stored_by, IsRecordStored}
use Rattle.gen_core.proofs.Work.{records-found}
use Rattle.std.proofs.lemmas.List.{length-map, length_push}
use Rattle.list_lemmas.proofs.Options.{same_Some}
use Rattle.gen_core.specs.Good.{GoodView, IsBefore, HasNothingIn}
use Rattle.gen_core.proofs.Lists.{all_drop-at, all_found}
use Rattle.gen_core.proofs.Holds.{newest-most, oldest-least}
use Rattle.gen_core.proofs.WriterRecords.{records-whole}
use Rattle.gen_core.proofs.GoodViews.{some-commit, floor-last, last-in, kept-placed, records-last, records-placed, records-active}
use Rattle.gen_core.proofs.StoredWords.{is_stored, stored-there}
use Rattle.arena_api.specs.Works.{Hold, Tag as ApiTag, Buffer as ApiBuffer, active_width as api_active, width_of, newest_of, oldest_of}
use Rattle.arena_api.specs.Generations.{IsBefore as IsLater, AreInOrder, IsOpenHold, IsQueue, IsHeldUnder}
use Rattle.arena_api.specs.Calls.{IsWithinLimits, IsInOrder, IsWordIn, FitsEntry}
use Rattle.word_arena.specs.Ruled.{api_sizes, Slot, writer_in}
use Rattle.word_arena.specs.Knows.{api_tag, api_buffer, api_hold, image_at, view_of, IsDesk}
use Rattle.gen_core.specs.declared.views.View.{View}
use Rattle.atomic_table.specs.Seated.{TableId}
use Rattle.atomic_table.specs.Table.{Me}

-- the words of an existing record
there : (o : Option (List ℕ)) → 0 < length (unwrap_or o []) → o ≡ Some (unwrap_or o [])
there None h = absurd (omega arith)
there (Some ws) h = refl

pub at_number : (commits : List Image) (n : ℕ) → n < length commits → slice_get commits n ≡ Some (image_at commits n)
at_number commits n lt = by_commit (slice_get commits n) refl
  where
    by_commit : (o : Option Image) → slice_get commits n ≡ o → o ≡ Some (unwrap_or o no_image)
    by_commit None e = let at : slice_get commits n ≡ Some (get_or commits n no_image) = slice_get-get_or commits n no_image lt in
        absurd (cc)
    by_commit (Some x) e = refl

-- what holds of each element by its index holds by recursion
by_places : {A : Type 0} (P : Hold → Type 0) (f : A → Hold) (xs : List A) → All (λ x. P (f x)) xs → AllByRecursion P (map f xs)
by_places P f [] all = tt
by_places P f (x ∷ xs) all = (all 0 x (omega arith), by_places P f xs (λ k d lt. all (suc k) d (omega arith)))

pub coming-least : (newest : OpenHold) (pending : Pending) → newest.generation ≤ coming_after newest pending
coming-least newest Nothing = omega arith
coming-least newest (Next h) = omega arith
coming-least newest Probed = omega arith

oldest-hold : (older : List OpenHold) (newest : OpenHold)
    → (oldest_of (map api_hold (older ++ newest ∷ []))).first ≡ (oldest_in older newest).first_commit
oldest-hold [] newest = refl
oldest-hold (e ∷ es) newest = refl

-- the holds of a work are in order
in_order : (xs : List OpenHold) → AllPairs IsBefore xs → AreInOrder (map api_hold xs)
in_order [] rising = tt
in_order (x ∷ xs) rising = (
  by_places (λ h. IsLater (api_hold x) h) api_hold xs (λ k d lt.
      let before = rising 0 (suc k) d (omega arith) (omega arith) in
      record { generation = before.generation; hold = before.hold; first = before.first_commit }),
  in_order xs (λ i j d less more. rising (suc i) (suc j) d (omega arith) (omega arith)),
)

pub length-holds : (older : List OpenHold) (newest : OpenHold) → length (map api_hold (older ++ newest ∷ [])) ≡ length older + 1
length-holds older newest = length-map (older ++ newest ∷ []) api_hold ∙ length_push older newest

pub newest-api : (older : List OpenHold) (newest : OpenHold) → newest_of (map api_hold (older ++ newest ∷ [])) ≡ api_hold newest
newest-api [] newest = refl
newest-api (x ∷ []) newest = refl
newest-api (x ∷ y ∷ ys) newest = newest-api (y ∷ ys) newest

-- the core and the work agree on widths
pub api-active : (o : Option Buffer) (n : ℕ) → option_and_then active_width o ≡ Some n → api_active (api_buffer o) ≡ n
api-active None n e = absurd (cc)
api-active (Some (Free last)) n e = absurd (cc)
api-active (Some (Active width last)) n e = cc
api-active (Some (Held width tag)) n e = absurd (cc)

pub core-active : (o : Option Buffer) → 0 < api_active (api_buffer o) → option_and_then active_width o ≡ Some (api_active (api_buffer o))
core-active None h = absurd (omega arith)
core-active (Some (Free last)) h = absurd (omega arith)
core-active (Some (Active width last)) h = refl
core-active (Some (Held width tag)) h = absurd (omega arith)

api-width : (o : Option Buffer) (n : ℕ) → option_and_then record_width o ≡ Some n → width_of (api_buffer o) ≡ n
api-width None n e = absurd (cc)
api-width (Some (Free last)) n e = absurd (cc)
api-width (Some (Active width last)) n e = cc
api-width (Some (Held width tag)) n e = cc

module _ (w : WriterView) (g : GoodView w) (bits : ℕ) (same : w.sizes.offset_bits ≡ bits) where
  pub last-image : image_at w.commits (last_number w.commits) ≡ last_image w.commits
  last-image = ap (λ o. unwrap_or o no_image) (last-in w g)

  fits : (width r n : ℕ) → width ≡ n → IsEntry w.sizes.offset_bits w.sizes.buffers w.sizes.words n r
      → FitsEntry w.sizes.offset_bits (api_sizes w.sizes) width r n
  fits width r n is e = record {
    entry = subst (λ x. IsEntry w.sizes.offset_bits w.sizes.buffers w.sizes.words x r) (sym is) e;
    whole = sym is;
  }

  pub work_entries : (r : ℕ) → 0 < length (writer_records w r)
      → FitsEntry bits (api_sizes w.sizes) (api_active (api_buffer (slice_get w.buffers (buffer_of bits r)))) r
      (length (writer_records w r))
  work_entries r some = subst (λ b. FitsEntry b (api_sizes w.sizes) (api_active (api_buffer (slice_get w.buffers (buffer_of b r)))) r
      (length (writer_records w r))) same
      (fits _ r _ (api-active (slice_get w.buffers (buffer_of w.sizes.offset_bits r)) _ (records-active w g r some))
      (records-placed w g r some).inside)

  pub work_kept : (n r : ℕ) → floor_of w ≤ n → n ≤ last_number w.commits → 0 < length (words_at (image_at w.commits n) r)
      → FitsEntry bits (api_sizes w.sizes) (width_of (api_buffer (slice_get w.buffers (buffer_of bits r)))) r
      (length (words_at (image_at w.commits n) r))
  work_kept n r from to some =
      let at = at_number w.commits n (let c = some-commit w g in omega arith) in
      let placed = kept-placed w g n (image_at w.commits n) from at r _ (there (record_at (image_at w.commits n) r) some) in
      subst (λ b. FitsEntry b (api_sizes w.sizes) (width_of (api_buffer (slice_get w.buffers (buffer_of b r)))) r
      (length (words_at (image_at w.commits n) r))) same
      (fits _ r _ (api-width (slice_get w.buffers (buffer_of w.sizes.offset_bits r)) _ placed.width) placed.inside)

  pub work_last : (r : ℕ) → 0 < length (words_at (image_at w.commits (last_number w.commits)) r)
      → writer_records w r ≡ words_at (image_at w.commits (last_number w.commits)) r
  work_last r some =
      let P : Image → Type 0 = λ image. 0 < length (words_at image r) → writer_records w r ≡ words_at image r in
      subst P (sym last-image) (λ h. records-last w g r _ (there (record_at (last_image w.commits) r) h)) some

  pub work_whole : (r : ℕ) (ws : List ℕ) → 0 < length ws → length ws ≡ api_active (api_buffer (slice_get w.buffers (buffer_of bits r)))
      → ((i : ℕ) → i < length ws → stored_by w r i ≡ Some (slice_index ws i)) → writer_records w r ≡ ws
  work_whole r ws some long each =
      let here : length ws ≡ api_active (api_buffer (slice_get w.buffers (buffer_of w.sizes.offset_bits r))) =
      subst (λ b. length ws ≡ api_active (api_buffer (slice_get w.buffers (buffer_of b r)))) (sym same) long in
      let active : active_in w.buffers (buffer_of w.sizes.offset_bits r) ≡ Some (length ws) =
      core-active (slice_get w.buffers (buffer_of w.sizes.offset_bits r)) (omega (arith, some, here)) ∙ ap Some (sym here) in
      let first = is_stored w r 0 _ (each 0 some) in
      let is : first.width ≡ length ws = same_Some _ _ (sym first.active ∙ active) in
      let e : IsEntry w.sizes.offset_bits w.sizes.buffers w.sizes.words (length ws) r =
      subst (λ n. IsEntry w.sizes.offset_bits w.sizes.buffers w.sizes.words n r) is first.entry in
      records-whole w r ws (record {
        entry = e;
        active = active;
        words = λ i lt. sym (stored-there w r i (length ws) active e lt)
            ∙ each i lt;
      })

  pub work_order : {H : Type 0} (home : H) → IsInOrder (view_of home w)
  work_order home = record {
    floor = floor-last w g;
    limit = g.queue.commit;
    oldest = (let e = oldest-hold w.queue.older w.queue.newest in omega (arith, e));
  }

  pub work_queue : {H : Type 0} (home : H) → IsQueue (view_of home w)
  work_queue home = record {
    some = omega (arith, length-holds w.queue.older w.queue.newest);
    few = (let f = g.queue.few in omega (arith, length-holds w.queue.older w.queue.newest));
    order = in_order (open_holds w.queue) g.queue.rising;
    each = by_places (IsOpenHold (view_of home w)) api_hold (open_holds w.queue) (λ k d lt.
        let fits = g.queue.each k d lt in let hold = fits.hold in let first = fits.first_commit in
        let a = newest-most w.queue.older w.queue.newest g.queue.rising k d lt in let b = coming-least w.queue.newest w.queue.pending in
        let c = g.queue.generation in
        record { hold = hold; first = first; generation = omega arith });
  }

  pub work_only : (r : ℕ) → 0 < length (writer_records w r)
      → (writer_records w r ≡ words_at (image_at w.commits (last_number w.commits)) r)
      ⊎ ((i : ℕ) → i < length (writer_records w r) → stored_by w r i ≡ Some (slice_index (writer_records w r) i))
  work_only r some = ⊎_elim
      (λ (old : record_at (last_image w.commits) r ≡ Some (writer_records w r)). inl
      (sym (ap (λ image. words_at image r) last-image ∙ ap (λ o. unwrap_or o []) old)))
      (λ (whole : IsRecordStored w r (writer_records w r)). inr
      (λ i lt. stored-there w r i (length (writer_records w r)) whole.active whole.entry lt ∙ whole.words i lt))
      (records-found w r some)

  pub work_held : {H : Type 0} (home : H) (b width : ℕ) (t : ApiTag) → api_buffer (slice_get w.buffers b) ≡ ApiBuffer.held width t
      → IsHeldUnder bits (view_of home w) b t
  work_held home b width t e = by_buffer (slice_get w.buffers b) refl e
    where
      under : (n : ℕ) (tag : Tag) → slice_get w.buffers b ≡ Some (Held n tag)
          → IsHeldUnder w.sizes.offset_bits (view_of home w) b (api_tag tag)
      under n tag at = let h = g.tags.held b n tag at in record {
        generation = subst (λ (x : ℕ). tag.generation ≤ x)
            (sym (ap (λ (x : Hold). x.generation) (newest-api w.queue.older w.queue.newest))) h.generation;
        commit = h.commit;
        unused = λ k r kept from in_b.
            let to = kept.to in let some = some-commit w g in
            let none = all_drop-at (HasNothingIn w.sizes.offset_bits b) tag.commit w.commits k (image_at w.commits k) h.unused from
            (at_number w.commits k (omega arith)) in
            by_record (image_at w.commits k) r none in_b (record_at (image_at w.commits k) r) refl;
        later = by_places (λ x. tag.generation < x.generation → tag.commit ≤ x.first) api_hold (open_holds w.queue) h.first_commits;
      }
        where
          by_record : (image : Image) (r : ℕ) → HasNothingIn w.sizes.offset_bits b image → buffer_of w.sizes.offset_bits r ≡ b
              → (o : Option (List ℕ)) → record_at image r ≡ o → unwrap_or o [] ≡ []
          by_record image r none in_b None is = refl
          by_record image r none in_b (Some ws) is =
              absurd (all_found (λ pair. buffer_of w.sizes.offset_bits pair.0 ≢ b) image.records r ws none is in_b)

      by_buffer : (o : Option Buffer) → slice_get w.buffers b ≡ o → api_buffer o ≡ ApiBuffer.held width t
          → IsHeldUnder bits (view_of home w) b t
      by_buffer None at is = absurd (cc)
      by_buffer (Some (Free last)) at is = absurd (cc)
      by_buffer (Some (Active n last)) at is = absurd (cc)
      by_buffer (Some (Held n tag)) at is =
          let alike : api_tag tag ≡ t = cc in
          subst (λ x. IsHeldUnder bits (view_of home w) b x) alike
          (subst (λ x. IsHeldUnder x (view_of home w) b (api_tag tag)) same (under n tag at))

  pub work_tags : (b : ℕ) (t : ApiTag) → api_buffer (slice_get w.buffers b) ≡ ApiBuffer.free (Some t)
      → AllByRecursion (λ (h : Hold). t.generation < h.generation) (map api_hold (open_holds w.queue))
  work_tags b t e = by_buffer (slice_get w.buffers b) refl e
    where
      above : (tag : Tag) → slice_get w.buffers b ≡ Some (Free (Some tag))
          → AllByRecursion (λ (h : Hold). tag.generation < h.generation) (map api_hold (open_holds w.queue))
      above tag at = by_places (λ h. tag.generation < h.generation) api_hold (open_holds w.queue)
          (λ k d lt. let low = g.tags.free b tag at in let le = oldest-least w.queue.older w.queue.newest g.queue.rising k d lt in
          omega arith)

      by_buffer : (o : Option Buffer) → slice_get w.buffers b ≡ o → api_buffer o ≡ ApiBuffer.free (Some t)
          → AllByRecursion (λ (h : Hold). t.generation < h.generation) (map api_hold (open_holds w.queue))
      by_buffer None at is = absurd (cc)
      by_buffer (Some (Free None)) at is = absurd (cc)
      by_buffer (Some (Free (Some tag))) at is =
          let alike : tag.generation ≡ t.generation = cc in
          subst (λ n. AllByRecursion (λ (h : Hold). n < h.generation) (map api_hold (open_holds w.queue))) alike (above tag at)
      by_buffer (Some (Active width tag)) at is = absurd (cc)
      by_buffer (Some (Held width tag)) at is = absurd (cc)

-- only words of active buffers were stored
pub work_stored : {H : Type 0} (home : H) (w : WriterView) (bits : ℕ) → w.sizes.offset_bits ≡ bits → (r i x : ℕ) → stored_by w r i ≡ Some x
    → IsWordIn bits (view_of home w) r i
work_stored home w bits same r i x e =
    let s = is_stored w r i x e in
    let at = api-active (slice_get w.buffers (buffer_of w.sizes.offset_bits r)) s.width s.active in
    subst (λ b. IsWordIn b (view_of home w) r i) same
    (record {
      entry = subst (λ n. IsEntry w.sizes.offset_bits w.sizes.buffers w.sizes.words n r) (sym at) s.entry;
      inside = subst (λ n. i < n) (sym at) s.inside;
    })

pub work_references : (w : WriterView) → GoodView w → (bits : ℕ) → w.sizes.offset_bits ≡ bits → IsWithinLimits bits (api_sizes w.sizes)
    → (r : ℕ) → 0 < length (writer_records w r) → r < 2 ^ 32
work_references w g bits same l r some = entry-small (records-placed w g r some).inside l.few_words
    (subst (λ b. w.sizes.words ≤ offset_limit b) (sym same) l.offsets)

pub desk_bits : {bits : ℕ} {arena : TableId} {sizes : Sizes} {buffers : List Buffer} {holds : List HoldEntry} {last made : ℕ} {z : TableId}
    {me : Me Slot View} → IsDesk bits arena sizes buffers holds last made z me → (writer_in me.0).sizes.offset_bits ≡ bits
desk_bits d = ap (λ (x : Sizes). x.offset_bits) d.same_sizes ∙ d.same_bits
