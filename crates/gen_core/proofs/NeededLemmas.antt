-- Without a condition the invariant is lost, and by a wrong step.
use Rattle.list_lemmas.specs.Counting.{one_if}
use Rattle.list_lemmas.proofs.Places.{slice_get-set_same}
use Rattle.std.proofs.Common.{true, false, ◌+◌, ◌*◌, ◌%◌, true≢false, ◌≡◌, ◌≢◌, ℕ, zero, suc, ◌<◌, ◌≤◌, List, [], ◌∷◌, ◌++◌, length, set, Option, Some, None, cond, eq-eqb, refl, sym, ap, ◌∙◌, arith, length-append}
use Rattle.std.proofs.Common.{slice_index}
use Rattle.std.proofs.Math.Seq.{get_or-set_other, get_or-set_same}
use Rattle.std.specs.Prelude.{slice_get, All, Contains, option_and_then, count_by}
use Rattle.std.proofs.lemmas.Option.{slice_get_within}
use Rattle.std.proofs.lemmas.List.Elements.{All-contains}
use Rattle.list_lemmas.proofs.Options.{same_Some}
use Rattle.entry_ref.specs.References.{buffer_of}
use Rattle.entry_ref.specs.declared.images.Image.{Image}
use Rattle.entry_ref.specs.Records.{Records}
use Rattle.entry_ref.specs.Places.{base, state_place}
use Rattle.gen_core.specs.declared.views.Buffer.{Buffer}
use Rattle.gen_core.specs.declared.views.Buffer.TheVariants.{Free, Active, Held}
use Rattle.gen_core.specs.declared.views.ReaderState.TheVariants.{Raised}
use Rattle.gen_core.specs.declared.views.ReaderView.{ReaderView}
use Rattle.gen_core.specs.Views.{floor_of, kept_of, last_number, last_image, state_word, record_width, width_in, active_width, active_in, last_tag_in, queue_of, open_holds, oldest_of, newest_word, hold_place}
use Rattle.gen_core.specs.Views.{is_open_hold}
use Rattle.gen_core.specs.Views.{is_counted_on}
use Rattle.gen_core.specs.Work.{work_at}
use Rattle.gen_core.specs.Good.{State, InActive, Avoids, IsPlaced, WordsStand, GoodReader, IsLawfulCommit, Good, HoldFits, hold_word}
use Rattle.gen_core.specs.Events.{after_store_word, after_store_width, after_hand_out, after_publish, after_split, after_load_root, with_buffer, reopened, coming_hold, with_state, sees, after_free, count_at}
use Rattle.gen_core.specs.Events.{after_store_newest, after_morph, after_count}
use Rattle.gen_core.proofs.Lists.{all_at, all_drop-at, count_moved, count_some}
use Rattle.gen_core.proofs.Holds.{at_newest, at_oldest, any-none, or-false, or-right, any-push, newest-open, oldest-open}
use Rattle.gen_core.proofs.GoodViews.{good_view, some-commit, floor-last}
use Rattle.gen_core.proofs.ViewLemmas.{last_at, last_image-push}
use Rattle.gen_core.specs.declared.views.Tag.{Tag}
use Rattle.gen_core.specs.declared.views.Pending.TheVariants.{Next}
use Rattle.gen_core.proofs.StoredWords.{p}

-- a record of a kept commit gives its buffer its width
kept-width : (s : State) (kept : List Image) (buffers : List Buffer) (image : Image) (pair : ℕ × List ℕ) → All (λ image. All (IsPlaced s.writer.sizes buffers) image.records) kept
    → Contains kept image → Contains image.records pair → IsPlaced s.writer.sizes buffers pair
kept-width s kept buffers image pair all there inside =
    All-contains (IsPlaced s.writer.sizes buffers) image.records pair (All-contains (λ image. All (IsPlaced s.writer.sizes buffers) image.records) kept image all there) inside

-- a buffer with a record is one of the view's
width-inside : (buffers : List Buffer) (b width : ℕ) → width_in buffers b ≡ Some width → b < length buffers
width-inside buffers b width e = by_buffer (slice_get buffers b) refl e
  where
    by_buffer : (o : Option Buffer) → slice_get buffers b ≡ o → option_and_then record_width o ≡ Some width → b < length buffers
    by_buffer None at h = absurd (cc)
    by_buffer (Some x) at h = slice_get_within buffers b x at

-- the word stored last is the one that is found
newest : (p n : ℕ) (work : List (ℕ × ℕ)) → work_at ((p, n) ∷ work) p ≡ Some n
newest p n work = ap (λ t. cond t (Some n) (work_at work p)) (eq-eqb p p refl)

module _ (reaches : ℕ → Records → ℕ → List ℕ) (lawful : ℕ → Records → ℕ → Type 0) where
  pub needs_active : (s : State) (p n : ℕ) → (InActive s.writer.sizes s.writer.buffers p → ⊥) → Good reaches lawful (after_store_word s p n) → ⊥
  needs_active s p n missing g = missing (g.places.stored p n (newest p n s.writer.work)).active

  pub needs_apart : (s : State) (p n : ℕ) → (All (Avoids s.writer.sizes p) (kept_of s.writer) → ⊥) → Good reaches lawful (after_store_word s p n) → ⊥
  needs_apart s p n missing g = missing (g.places.stored p n (newest p n s.writer.work)).apart

  pub needs_active_width : (s : State) (b width : ℕ) → Good reaches lawful s → b < s.writer.sizes.buffers → active_in s.writer.buffers b ≡ None
      → Good reaches lawful (after_store_width s b width) → ⊥
  needs_active_width s b width g inside none t =
      let z = s.writer.sizes in
      let buffers : List Buffer = s.writer.buffers in
      let p : ℕ = base z.buffers z.words b in
      let new : slice_index (set s.words p width) (state_place b) ≡ 1 =
      t.names.states b (Active width (last_tag_in buffers b)) (slice_get-set_same buffers b (Active width (last_tag_in buffers b)) (omega (arith, inside, g.sizes.count))) in
      let old : slice_index (set s.words p width) (state_place b) ≡ slice_index s.words (state_place b) = get_or-set_other s.words p (state_place b) width 0 (λ e. omega (arith, inside, e)) in
      by_buffer (slice_get buffers b) refl none (sym old ∙ new)
    where
      of_buffer : (x : Buffer) → active_width x ≡ None → state_word x ≡ 1 → ⊥
      of_buffer (Free tag) h e = omega (arith, e)
      of_buffer (Active n tag) h e = cc
      of_buffer (Held n tag) h e = omega (arith, e)

      by_buffer : (o : Option Buffer) → slice_get s.writer.buffers b ≡ o → option_and_then active_width o ≡ None → slice_index s.words (state_place b) ≡ 1 → ⊥
      by_buffer None at h e = let lt : b < length s.writer.buffers = omega (arith, inside, g.sizes.count) in missing s.writer.buffers b lt at
        where
          missing : (xs : List Buffer) (k : ℕ) → k < length xs → slice_get xs k ≡ None → ⊥
          missing [] k lt e = omega arith
          missing (x ∷ xs) zero lt e = cc
          missing (x ∷ xs) (suc k) lt e = missing xs k (omega arith) e
      by_buffer (Some x) at h e = of_buffer x h (sym (g.names.states b x at) ∙ e)

  pub needs_no_width : (s : State) (b width : ℕ) (image : Image) (pair : ℕ × List ℕ) → Good reaches lawful s → Contains (kept_of s.writer) image → Contains image.records pair
      → buffer_of s.writer.sizes.offset_bits pair.0 ≡ b → length pair.1 ≢ width → Good reaches lawful (after_store_width s b width) → ⊥
  needs_no_width s b width image pair g there inside at other t =
      let buffers : List Buffer = s.writer.buffers in
      let x : Buffer = Active width (last_tag_in buffers b) in
      let old = kept-width s (kept_of s.writer) buffers image pair g.places.records there inside in
      let new = kept-width s (kept_of s.writer) (set buffers b x) image pair t.places.records there inside in
      let lt : b < length buffers = width-inside buffers b _ (ap (width_in buffers) (sym at) ∙ old.width) in
      other (same_Some _ _ (sym new.width ∙ ap (width_in (set buffers b x)) at ∙ ap (option_and_then record_width) (slice_get-set_same buffers b x lt)))

  pub needs_free : (s : State) (b : ℕ) (image : Image) (pair : ℕ × List ℕ) → Good reaches lawful s → Contains (kept_of s.writer) image → Contains image.records pair
      → buffer_of s.writer.sizes.offset_bits pair.0 ≡ b → Good reaches lawful (after_hand_out s b) → ⊥
  needs_free s b image pair g there inside at t =
      let buffers : List Buffer = s.writer.buffers in
      let x : Buffer = Active 0 (last_tag_in buffers b) in
      let old = kept-width s (kept_of s.writer) buffers image pair g.places.records there inside in
      let new = kept-width s (kept_of s.writer) (set buffers b x) image pair t.places.records there inside in
      let lt : b < length buffers = width-inside buffers b _ (ap (width_in buffers) (sym at) ∙ old.width) in
      let none : length pair.1 ≡ 0 = same_Some _ _ (sym new.width ∙ ap (width_in (set buffers b x)) at ∙ ap (option_and_then record_width) (slice_get-set_same buffers b x lt)) in
      let wide = new.inside.wide in
      omega (arith, none, wide)

  -- what holds of each kept commit after a publish holds of the new one
  of_published : (s : State) (image : Image) (P : Image → Type 0) → Good reaches lawful (after_publish s image) → All P (kept_of (after_publish s image).writer) → P image
  of_published s image P t all =
      let commits : List Image = s.writer.commits ++ image ∷ [] in
      all_drop-at P (floor_of s.writer) commits (last_number commits) image all (floor-last (after_publish s image).writer (good_view reaches lawful (after_publish s image) t))
      (last_at commits (omega (arith, length-append s.writer.commits (image ∷ []))) ∙ ap Some (last_image-push s.writer.commits image))

  pub needs_lawful : (s : State) (image : Image) → (IsLawfulCommit reaches lawful s.writer.sizes.shape image → ⊥) → Good reaches lawful (after_publish s image) → ⊥
  needs_lawful s image missing t =
      let commits : List Image = s.writer.commits ++ image ∷ [] in
      missing (all_at (IsLawfulCommit reaches lawful s.writer.sizes.shape) commits (last_number commits) image t.commits.each
      (last_at commits (omega (arith, length-append s.writer.commits (image ∷ []))) ∙ ap Some (last_image-push s.writer.commits image)))

  pub needs_records : (s : State) (image : Image) (pair : ℕ × List ℕ) → Contains image.records pair
      → (IsPlaced s.writer.sizes s.writer.buffers pair → WordsStand s.writer.sizes (after_publish s image).words pair → ⊥)
      → Good reaches lawful (after_publish s image) → ⊥
  needs_records s image pair there missing t =
      let placed : ℕ × List ℕ → Type 0 = IsPlaced s.writer.sizes s.writer.buffers in
      let stand : ℕ × List ℕ → Type 0 = WordsStand s.writer.sizes (after_publish s image).words in
      missing
      (All-contains placed image.records pair (of_published s image (λ image. All placed image.records) t t.places.records) there)
      (All-contains stand image.records pair (of_published s image (λ image. All stand image.records) t t.memory.records) there)

  pub needs_number : (s : State) (image : Image) → Good reaches lawful s → s.writer.sizes.commit_limit ≤ last_number s.writer.commits → Good reaches lawful (after_publish s image) → ⊥
  needs_number s image g full t =
      let le = t.queue.commit in
      omega (arith, le, full, length-append s.writer.commits (image ∷ []), some-commit s.writer (good_view reaches lawful s g))

  pub needs_seat : (s : State) → 64 ≤ s.writer.made → Good reaches lawful (after_split s) → ⊥
  needs_seat s full t = let few = t.counts.few in omega (arith, few, full)

  -- a hold that is open has an even count, and one that is closed an odd one
  even-where-open : (s : State) (h : ℕ) → Good reaches lawful s → h < 16 → is_open_hold s.writer.queue h ≡ true → count_at s h % 2 ≡ 0
  even-where-open s h g low is = let word : count_at s h ≡ 2 * count_by (λ (q : ReaderView). is_counted_on h q.state) s.readers + 0 = g.counts.counts h low ∙ ap (hold_word _) is in omega (arith, word)

  odd-where-closed : (s : State) (h : ℕ) → Good reaches lawful s → h < 16 → is_open_hold s.writer.queue h ≡ false → count_at s h % 2 ≡ 1
  odd-where-closed s h g low is = let word : count_at s h ≡ 2 * count_by (λ (q : ReaderView). is_counted_on h q.state) s.readers + 1 = g.counts.counts h low ∙ ap (hold_word _) is in omega (arith, word)

  pub root_before_raise : (s : State) (j h : ℕ) (r : ReaderView) → Good reaches lawful s → slice_get s.readers j ≡ Some r → h < 16 → is_counted_on h r.state ≡ false
      → Good reaches lawful (after_load_root s j r h) → ⊥
  root_before_raise s j h r g at low off t =
      let v : ReaderView = sees r h (last_number s.writer.commits) (last_image s.writer.commits) in
      let moved = count_moved (λ (q : ReaderView). is_counted_on h q.state) s.readers j r v at in
      let before : one_if (is_counted_on h r.state) ≡ 0 = ap one_if off in
      let after : one_if (is_counted_on h v.state) ≡ 1 = ap one_if (eq-eqb h h refl) in
      let old = g.counts.counts h low in
      let new = t.counts.counts h low in
      omega (arith, moved, before, after, old, new)

  pub opens_by_zero : (s : State) (j h : ℕ) (r : ReaderView) → Good reaches lawful s → slice_get s.readers j ≡ Some r → h < 16 → is_counted_on h r.state ≡ true
      → Good reaches lawful (record { words = set s.words (hold_place h) 0; writer = reopened s.writer h; readers = s.readers }) → ⊥
  opens_by_zero s j h r g at low on t =
      let some = count_some (λ (q : ReaderView). is_counted_on h q.state) s.readers j r at on in
      let here : slice_index (set s.words (hold_place h) 0) (hold_place h) ≡ 0 = get_or-set_same s.words (hold_place h) 0 0 (omega (arith, low, g.sizes.table)) in
      let word = t.counts.counts h low in
      omega (arith, some, here, word)

  pub last_before_open : (s : State) (h : ℕ) → Good reaches lawful s → h < 16 → is_open_hold s.writer.queue h ≡ false → Good reaches lawful (after_store_newest s h) → ⊥
  last_before_open s h g low is t =
      let odd = odd-where-closed s h g low is in
      let even = even-where-open (after_store_newest s h) h t low (newest-open (after_store_newest s h).writer.queue) in
      let same : slice_index (set s.words 1 (newest_word (coming_hold s.writer h))) (hold_place h) ≡ count_at s h = get_or-set_other s.words 1 (hold_place h) _ 0 (λ e. omega arith) in
      omega (arith, odd, even, same)

  pub forgets_the_bounce : (s : State) (j h : ℕ) (r : ReaderView) → Good reaches lawful s → slice_get s.readers j ≡ Some r → is_open_hold s.writer.queue h ≡ false
      → Good reaches lawful (after_count s h (count_at s h + 2) j (with_state r (Raised h))) → ⊥
  forgets_the_bounce s j h r g at is t =
      let v : ReaderView = with_state r (Raised h) in
      let reader = all_at (GoodReader s.writer.sizes s.writer.queue s.writer.commits) (set s.readers j v) j v t.readers (slice_get-set_same s.readers j v (slice_get_within s.readers j r at)) in
      true≢false (sym reader.state.opened ∙ is)

  pub morph_beside_next : (s : State) (h : ℕ) → Good reaches lawful s → s.writer.queue.pending ≡ Next h → Good reaches lawful (after_morph s) → ⊥
  morph_beside_next s h g next t =
      let come = g.queue.next h next in
      let low = come.hold in
      let opened : is_open_hold s.writer.queue h ≡ true = ap (λ p. is_open_hold (queue_of s.writer.queue.older s.writer.queue.newest p) h) next ∙ or-right _ _ (eq-eqb h h refl) in
      let closed : is_open_hold (after_morph s).writer.queue h ≡ false =
      or-false _ ∙ any-push s.writer.queue.older (coming_hold s.writer s.writer.queue.newest.hold) h ∙ sym (any-push s.writer.queue.older s.writer.queue.newest h)
      ∙ any-none (open_holds s.writer.queue) h come.others in
      let even = even-where-open s h g low opened in
      let odd = odd-where-closed (after_morph s) h t low closed in
      let same : slice_index (set s.words 1 (newest_word (coming_hold s.writer s.writer.queue.newest.hold))) (hold_place h) ≡ count_at s h = get_or-set_other s.words 1 (hold_place h) _ 0 (λ e. omega arith) in
      omega (arith, odd, even, same)

  pub close_moves_no_floor : (s : State) → Good reaches lawful s
      → Good reaches lawful (record { words = set s.words (hold_place (oldest_of s.writer.queue).hold) 1; writer = s.writer; readers = s.readers }) → ⊥
  close_moves_no_floor s g t =
      let h : ℕ = (oldest_of s.writer.queue).hold in
      let low = (at_oldest (HoldFits s.writer.commits) s.writer.queue.older s.writer.queue.newest g.queue.each).hold in
      let here : slice_index (set s.words (hold_place h) 1) (hold_place h) ≡ 1 = get_or-set_same s.words (hold_place h) 1 0 (omega (arith, low, g.sizes.table)) in
      let even = even-where-open (record { words = set s.words (hold_place h) 1; writer = s.writer; readers = s.readers }) h t low (oldest-open s.writer.queue.older s.writer.queue.newest s.writer.queue.pending) in
      omega (arith, here, even)

  pub frees_at_the_oldest : (s : State) (b width : ℕ) (tag : Tag) → slice_get s.writer.buffers b ≡ Some (Held width tag) → (oldest_of s.writer.queue).generation ≤ tag.generation
      → Good reaches lawful (after_free s b tag) → ⊥
  frees_at_the_oldest s b width tag at le t =
      let low = t.tags.free b tag (slice_get-set_same s.writer.buffers b (Free (Some tag)) (slice_get_within s.writer.buffers b (Held width tag) at)) in
      omega (arith, le, low)

  pub tags_too_early : (s : State) (b width : ℕ) (tag : Tag) → b < length s.writer.buffers → tag.generation < s.writer.queue.newest.generation
      → s.writer.queue.newest.first_commit < tag.commit
      → Good reaches lawful (record { words = set s.words (state_place b) 2; writer = with_buffer s.writer b (Held width tag); readers = s.readers }) → ⊥
  tags_too_early s b width tag inside early since t =
      let good = t.tags.held b width tag (slice_get-set_same s.writer.buffers b (Held width tag) inside) in
      let le = at_newest (λ e. tag.generation < e.generation → tag.commit ≤ e.first_commit) s.writer.queue.older s.writer.queue.newest good.first_commits early in
      omega (arith, le, since)
