-- The laws of the core.
use Rattle.std.proofs.Common.{true≢false, eqb-true, ◌≡◌, ℕ, ◌/◌, ◌%◌, ◌<◌, ◌≤◌, List, [], ◌∷◌, length, Some, Bool, true, false, refl, sym, ap, ◌∙◌, subst, arith, slice_index, ◌^◌}
use Rattle.std.specs.Prelude.{slice_get, All, IsTrue, ◌||◌, nat_eq, option_and_then}
use Rattle.std.specs.List.{list_any}
use Rattle.std.proofs.lemmas.Nat.{mod-mul-add, div-mul-add}
use Rattle.entry_ref.specs.References.{buffer_of}
use Rattle.entry_ref.specs.declared.images.Image.{Image}
use Rattle.entry_ref.specs.Records.{Records}
use Rattle.entry_ref.specs.Places.{base, RecordStands, StandsIn}
use Rattle.entry_ref.proofs.Apart.{place-below}
use Rattle.gen_core.specs.declared.views.Sizes.{Sizes}
use Rattle.gen_core.specs.declared.views.Pending.{Pending}
use Rattle.gen_core.specs.declared.views.Pending.TheVariants.{Nothing, Next, Probed}
use Rattle.gen_core.specs.declared.views.Buffer.TheVariants.{Free}
use Rattle.gen_core.specs.declared.views.ReaderState.{ReaderState}
use Rattle.gen_core.specs.declared.views.ReaderState.TheVariants.{Idle, Aimed, Raised, Bounced, Guarded, Spent}
use Rattle.gen_core.specs.declared.views.ReaderView.{ReaderView}
use Rattle.gen_core.specs.declared.views.WriterView.{WriterView}
use Rattle.gen_core.specs.Views.{open_holds, oldest_of, floor_of, kept_of, last_number, last_image, is_open_hold, last_tag, stands_on, spent, queue_of}
use Rattle.gen_core.specs.Work.{next_image}
use Rattle.gen_core.specs.Good.{State, IsPlaced, WordsStand, RaiseFits, GuardFits, GoodReaderState, GoodReader, IsLawfulCommit, Good}
use Rattle.gen_core.specs.Conditions.{MayHandOut, MayPublish, IsUnder}
use Rattle.gen_core.specs.declared.views.Event.{Event}
use Rattle.gen_core.specs.declared.views.Event.TheVariants.{StoreWidth, StoreWord, FindWord, HandOut, Publish, PutOnHold, FreeBuffer, Reopen, StoreNewest, Close, StopAtOldest, Probe, StopAtNewest, Morph, Split, Join, MeetLoad, LoadOwn}
use Rattle.gen_core.specs.declared.views.Event.TheVariants.{LoadNewest, Raise, Bounce, LoadRoot, LoadWord, Release}
use Rattle.gen_core.specs.Events.{Happens, Happen, MayOpen, opening, NoneFromBefore, after_publish}
use Rattle.gen_core.specs.Laws.{TellsCommit, IsKeptFor}
use Rattle.gen_core.proofs.Lists.{all_at, all_drop-at, all_found}
use Rattle.gen_core.proofs.Writer.{store_word_keeps, find_word_keeps, store_width_keeps, hand_out_keeps}
use Rattle.gen_core.proofs.Publish.{publish_keeps}
use Rattle.gen_core.proofs.Readers.{load_root_keeps, split_keeps, join_keeps}
use Rattle.gen_core.proofs.Counts.{load_newest_keeps, raise_keeps, bounce_keeps, release_keeps}
use Rattle.gen_core.proofs.Holds.{oldest-least, commits-least, any-first}
use Rattle.gen_core.proofs.Advancing.{reopen_keeps, store_newest_keeps, stop_keeps, probe_keeps}
use Rattle.gen_core.proofs.Closing.{close_keeps, morph_keeps}
use Rattle.gen_core.proofs.Buffers.{put_on_hold_keeps, free_keeps}
use Rattle.gen_core.proofs.Opening.{opening_good}
use Rattle.gen_core.proofs.GoodViews.{good_view, some-commit, floor-last}
use Rattle.gen_core.proofs.ViewLemmas.{last_at, last_image-push}
use Rattle.gen_core.proofs.Layouts.{IsLayout}

module _ (reaches : ℕ → Records → ℕ → List ℕ) (lawful : ℕ → Records → ℕ → Type 0) where
  pub event_keeps : IsLayout reaches lawful → (s t : State) (e : Event) → Good reaches lawful s → Happens reaches lawful s e t → Good reaches lawful t
  event_keeps l s t (StoreWidth b width) g h = subst (Good reaches lawful) (sym h.1) (store_width_keeps reaches lawful s b width g h.0)
  event_keeps l s t (StoreWord p n) g h = subst (Good reaches lawful) (sym h.1) (store_word_keeps reaches lawful s p n g h.0)
  event_keeps l s t (FindWord p) g h = subst (Good reaches lawful) (sym h.1) (find_word_keeps reaches lawful s p g h.0)
  event_keeps l s t (HandOut b) g h = subst (Good reaches lawful) (sym h.1) (hand_out_keeps reaches lawful s b g h.0)
  event_keeps l s t (Publish root) g h = subst (Good reaches lawful) (sym h.1) (publish_keeps reaches lawful l s root g h.0)
  event_keeps l s t (PutOnHold b) g h = subst (Good reaches lawful) (sym h.2) (put_on_hold_keeps reaches lawful s b h.0 g h.1)
  event_keeps l s t (FreeBuffer b) g h = subst (Good reaches lawful) (sym h.2) (free_keeps reaches lawful s b h.0 g h.1)
  event_keeps l s t (Reopen k) g h = subst (Good reaches lawful) (sym h.1) (reopen_keeps reaches lawful s k g h.0)
  event_keeps l s t StoreNewest g h = subst (Good reaches lawful) (sym h.2) (store_newest_keeps reaches lawful s h.0 g h.1)
  event_keeps l s t Close g h = subst (Good reaches lawful) (sym h.4) (close_keeps reaches lawful s h.0 h.1 g h.2 h.3)
  event_keeps l s t StopAtOldest g h = subst (Good reaches lawful) (sym h.4) (stop_keeps reaches lawful s _ g)
  event_keeps l s t Probe g h = subst (Good reaches lawful) (sym h.2) (probe_keeps reaches lawful s g h.0 h.1)
  event_keeps l s t StopAtNewest g h = subst (Good reaches lawful) (sym h.2) (stop_keeps reaches lawful s _ g)
  event_keeps l s t Morph g h = subst (Good reaches lawful) (sym h.1) (morph_keeps reaches lawful s g h.0)
  event_keeps l s t Split g h = subst (Good reaches lawful) (sym h.1) (split_keeps reaches lawful s g h.0)
  event_keeps l s t (Join j) g h = subst (Good reaches lawful) (sym h.3) (join_keeps reaches lawful s j h.0 g h.1 h.2)
  event_keeps l s t MeetLoad g h = subst (Good reaches lawful) (sym h.1) g
  event_keeps l s t (LoadOwn p) g h = subst (Good reaches lawful) (sym h.1) g
  event_keeps l s t (LoadNewest j) g h = subst (Good reaches lawful) (sym h.3) (load_newest_keeps reaches lawful s j h.0 g h.1 h.2)
  event_keeps l s t (Raise j) g h = subst (Good reaches lawful) (sym h.5) (raise_keeps reaches lawful s j h.0 h.2 h.3 g h.1 h.4)
  event_keeps l s t (Bounce j) g h = subst (Good reaches lawful) (sym h.4) (bounce_keeps reaches lawful s j h.0 h.2 g h.1 h.3)
  event_keeps l s t (LoadRoot j) g h = subst (Good reaches lawful) (sym h.4) (load_root_keeps reaches lawful s j h.0 h.2 g h.1 h.3)
  event_keeps l s t (LoadWord j p) g h = subst (Good reaches lawful) (sym h.3) g
  event_keeps l s t (Release j) g h = subst (Good reaches lawful) (sym h.5) (release_keeps reaches lawful s j h.0 h.2 h.3 g h.1 h.4)

  pub events_keep : IsLayout reaches lawful → (events : List Event) (s t : State) → Good reaches lawful s → Happen reaches lawful s events t → Good reaches lawful t
  events_keep l [] s t g h = subst (Good reaches lawful) (sym h) g
  events_keep l (e ∷ events) s t g h = events_keep l events h.0 t (event_keeps l s h.0 e g h.1) h.2

  pub keeps_good : IsLayout reaches lawful → (sizes : Sizes) (events : List Event) (s : State) → MayOpen sizes → Happen reaches lawful (opening sizes) events s → Good reaches lawful s
  keeps_good l sizes events s may h = events_keep l events (opening sizes) s (opening_good reaches lawful l sizes may) h

  -- no view stands on a hold from before the last tag of a buffer that is free, while nothing is pending
  pub none_from_before : (s : State) (b : ℕ) → Good reaches lawful s → MayHandOut s.writer b → NoneFromBefore s b
  none_from_before s b g may j r h tag at stands tagged =
      let w : WriterView = s.writer in
      let reader = all_at (GoodReader w.sizes w.queue w.commits) s.readers j r g.readers at in
      let raised = raised_by r.state reader.state stands in
      record { there = in_queue w.queue.pending may.calm raised.opened; above = λ k d lt same. let le = oldest-least w.queue.older w.queue.newest g.queue.rising k d lt in omega (arith, le, below) }
    where
      raised_by : (t : ReaderState) → GoodReaderState s.writer.queue s.writer.commits r t → stands_on t ≡ Some h → RaiseFits s.writer.queue h
      raised_by Idle k e = absurd (cc)
      raised_by (Aimed generation hold) k e = absurd (cc)
      raised_by (Raised hold) k e = let same : hold ≡ h = cc in subst (RaiseFits s.writer.queue) same k
      raised_by (Bounced hold) k e = absurd (cc)
      raised_by (Guarded hold c) k e = let same : hold ≡ h = cc in subst (RaiseFits s.writer.queue) same k.raised
      raised_by Spent k e = absurd (cc)

      by_test : (t : Bool) → IsTrue (t || false) → IsTrue t
      by_test true k = k
      by_test false k = k

      in_queue : (pending : Pending) → pending ≡ Nothing → IsTrue (is_open_hold (queue_of s.writer.queue.older s.writer.queue.newest pending) h) → IsTrue (list_any (λ e. nat_eq e.hold h) (open_holds s.writer.queue))
      in_queue Nothing e k = by_test (list_any (λ e. nat_eq e.hold h) (open_holds s.writer.queue)) k
      in_queue (Next n) e k = absurd (cc)
      in_queue Probed e k = absurd (cc)

      free : slice_get s.writer.buffers b ≡ Some (Free (Some tag))
      free = let same : may.tag ≡ Some tag = sym (ap (option_and_then last_tag) may.free) ∙ tagged in may.free ∙ ap (λ o. Some (Free o)) same

      below : tag.generation < (oldest_of s.writer.queue).generation
      below = g.tags.free b tag free

  -- a record that is placed and whose words stand, stands
  record_stands : (s : State) → Good reaches lawful s → (ref : ℕ) (ws : List ℕ) (words : List ℕ) → length words ≡ length s.words → IsPlaced s.writer.sizes s.writer.buffers (ref, ws)
      → slice_index words (base s.writer.sizes.buffers s.writer.sizes.words (buffer_of s.writer.sizes.offset_bits ref)) ≡ length ws → WordsStand s.writer.sizes words (ref, ws)
      → RecordStands s.writer.sizes.offset_bits s.writer.sizes.buffers s.writer.sizes.words words ref ws
  record_stands s g ref ws words long placed width stand =
      let e = placed.inside in
      let some = e.wide in
      let first = place-below e 0 some in
      record {
        entry = e;
        width = record { below = omega (arith, first, long, g.sizes.table); is = width };
        each = λ i lt. record { below = let at = place-below e i lt in omega (arith, at, long, g.sizes.table); is = stand i lt };
      }

  -- every kept commit stands
  pub kept_stands : (s : State) → Good reaches lawful s → All (StandsIn s.writer.sizes.offset_bits s.writer.sizes.buffers s.writer.sizes.words s.words) (kept_of s.writer)
  kept_stands s g k d lt ref ws at =
      let placed = all_found (IsPlaced s.writer.sizes s.writer.buffers) _ ref ws (g.places.records k d lt) at in
      record_stands s g ref ws s.words refl placed (g.memory.widths _ _ placed.width placed.inside.wide)
      (all_found (WordsStand s.writer.sizes s.words) _ ref ws (g.memory.records k d lt) at)

  -- a guard's commit is kept
  pub guarded-kept : (s : State) → Good reaches lawful s → {saw : List (ℕ × Image)} {h c : ℕ} → GuardFits s.writer.queue s.writer.commits saw h c → floor_of s.writer ≤ c
  guarded-kept s g {saw} {h} {c} k = by_pending s.writer.queue.pending refl k.raised.opened
    where
      w : WriterView
      w = s.writer

      last : c ≡ last_number s.writer.commits → floor_of s.writer ≤ c
      last e = let le = floor-last s.writer (good_view reaches lawful s g) in omega arith

      in_queue : IsTrue (list_any (λ e. nat_eq e.hold h) (open_holds s.writer.queue)) → floor_of s.writer ≤ c
      in_queue t = any-first (open_holds s.writer.queue) h (floor_of s.writer) c k.first_commit (commits-least s.writer.queue.older s.writer.queue.newest g.queue.rising) t

      by_queue : (t u : Bool) → IsTrue (t || u) → (IsTrue t → floor_of s.writer ≤ c) → (IsTrue u → floor_of s.writer ≤ c) → floor_of s.writer ≤ c
      by_queue true u o f n = f o
      by_queue false u o f n = n o

      by_next : (n : ℕ) (t : Bool) → nat_eq n h ≡ t → s.writer.queue.pending ≡ Next n → IsTrue t → floor_of s.writer ≤ c
      by_next n true e p o = let same : n ≡ h = eqb-true n h e in last (k.next (p ∙ ap Next same))
      by_next n false e p o = absurd (true≢false (sym o))

      by_pending : (p : Pending) → s.writer.queue.pending ≡ p → IsTrue (is_open_hold (queue_of s.writer.queue.older s.writer.queue.newest p) h) → floor_of s.writer ≤ c
      by_pending Nothing e o = by_queue (list_any (λ x. nat_eq x.hold h) (open_holds s.writer.queue)) false o in_queue (λ u. absurd (true≢false (sym u)))
      by_pending (Next n) e o = by_queue (list_any (λ x. nat_eq x.hold h) (open_holds s.writer.queue)) (nat_eq n h) o in_queue (by_next n (nat_eq n h) refl e)
      by_pending Probed e o = by_queue (list_any (λ x. nat_eq x.hold h) (open_holds s.writer.queue)) false o in_queue (λ u. absurd (true≢false (sym u)))

  -- an image that a reader is under is kept
  pub seen_stands : (s : State) (j number : ℕ) (r : ReaderView) (image : Image) → Good reaches lawful s → slice_get s.readers j ≡ Some r → IsUnder r number image
      → StandsIn s.writer.sizes.offset_bits s.writer.sizes.buffers s.writer.sizes.words s.words image
  seen_stands s j number r image g at under =
      let w : WriterView = s.writer in
      let reader = all_at (GoodReader w.sizes w.queue w.commits) s.readers j r g.readers at in
      let commit : slice_get w.commits number ≡ Some image = all_at (λ c. slice_get w.commits c.0 ≡ Some c.1) r.saw 0 (number, image) reader.saw under.seen in
      let guarded : GuardFits w.queue w.commits r.saw under.hold number = subst (GoodReaderState w.queue w.commits r) under.guarded reader.state in
      all_drop-at (StandsIn w.sizes.offset_bits w.sizes.buffers w.sizes.words s.words) (floor_of w) w.commits number image (kept_stands s g) (guarded-kept s g guarded) commit

  -- and such a reader was not joined away, so it knows the table's sizes
  pub under_sizes : (s : State) (j number : ℕ) (r : ReaderView) (image : Image) → Good reaches lawful s → slice_get s.readers j ≡ Some r → IsUnder r number image → r.sizes ≡ s.writer.sizes
  under_sizes s j number r image g at under =
      let w : WriterView = s.writer in
      let reader = all_at (GoodReader w.sizes w.queue w.commits) s.readers j r g.readers at in
      reader.same_sizes (λ is. not_spent is (subst (GoodReaderState w.queue w.commits r) is reader.state))
    where
      not_spent : r.state ≡ Spent → r ≡ spent → ⊥
      not_spent is same = let guarded = under.guarded in cc

  pub image_stands : (s : State) (j number : ℕ) (r : ReaderView) (image : Image) → Good reaches lawful s → slice_get s.readers j ≡ Some r → IsUnder r number image
      → StandsIn r.sizes.offset_bits r.sizes.buffers r.sizes.words s.words image
  image_stands s j number r image g at under =
      let P : Sizes → Type 0 = λ sizes. StandsIn sizes.offset_bits sizes.buffers sizes.words s.words image in
      subst P (sym (under_sizes s j number r image g at under)) (seen_stands s j number r image g at under)

  pub kept_for : (s : State) (j number : ℕ) (r : ReaderView) (image : Image) → Good reaches lawful s → slice_get s.readers j ≡ Some r → IsUnder r number image → IsKeptFor reaches lawful s r number image
  kept_for s j number r image g at under =
      let w : WriterView = s.writer in
      let reader = all_at (GoodReader w.sizes w.queue w.commits) s.readers j r g.readers at in
      let commit : slice_get w.commits number ≡ Some image = all_at (λ c. slice_get w.commits c.0 ≡ Some c.1) r.saw 0 (number, image) reader.saw under.seen in
      let guarded : GuardFits w.queue w.commits r.saw under.hold number = subst (GoodReaderState w.queue w.commits r) under.guarded reader.state in
      record {
        kept = guarded-kept s g guarded;
        last = guarded.commit;
        commit = commit;
        lawful_commit = subst (λ (z : Sizes). IsLawfulCommit reaches lawful z.shape image) (sym (under_sizes s j number r image g at under))
            (all_at (IsLawfulCommit reaches lawful w.sizes.shape) w.commits number image g.commits.each commit);
        stands = image_stands s j number r image g at under;
      }

  pub tells_commit : (s : State) (j : ℕ) (r : ReaderView) → Good reaches lawful s → slice_get s.readers j ≡ Some r → TellsCommit reaches lawful s r
  tells_commit s j r g at =
      let w : WriterView = s.writer in
      let reader = all_at (GoodReader w.sizes w.queue w.commits) s.readers j r g.readers at in
      let commit = all_at (IsLawfulCommit reaches lawful w.sizes.shape) w.commits (last_number w.commits) (last_image w.commits) g.commits.each (last_at w.commits (some-commit s.writer (good_view reaches lawful s g))) in
      record {
        number = ap (λ n. n / 2 ^ 32) g.names.root ∙ div-mul-add (last_number w.commits) (2 ^ 32) (last_image w.commits).root commit.small;
        root = ap (λ n. n % 2 ^ 32) g.names.root ∙ mod-mul-add (last_number w.commits) (2 ^ 32) (last_image w.commits).root commit.small;
        later = reader.seen;
        lawful_commit = commit;
      }

  pub published_stands : IsLayout reaches lawful → (s : State) (root : ℕ) → Good reaches lawful s → MayPublish lawful s.writer root
      → StandsIn s.writer.sizes.offset_bits s.writer.sizes.buffers s.writer.sizes.words (after_publish s (next_image reaches s.writer root)).words (next_image reaches s.writer root)
  published_stands l s root g may =
      let t : State = after_publish s (next_image reaches s.writer root) in
      let good : Good reaches lawful t = publish_keeps reaches lawful l s root g may in
      let last : slice_get t.writer.commits (last_number t.writer.commits) ≡ Some (next_image reaches s.writer root) =
      last_at t.writer.commits (some-commit t.writer (good_view reaches lawful t good)) ∙ ap Some (last_image-push s.writer.commits (next_image reaches s.writer root)) in
      all_drop-at (StandsIn s.writer.sizes.offset_bits s.writer.sizes.buffers s.writer.sizes.words t.words) (floor_of t.writer) t.writer.commits (last_number t.writer.commits) (next_image reaches s.writer root)
      (kept_stands t good) (floor-last t.writer (good_view reaches lawful t good)) last
