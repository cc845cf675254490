-- Why each condition is needed: a step without it, or a wrong step in its place, breaks the invariant.
use Rattle.std.specs.Prelude.{◌≡◌, ◌≢◌, ℕ, ◌+◌, ◌<◌, ◌≤◌, List, length, set, slice_get, Some, None, All, Contains, false, true}
use Rattle.entry_ref.specs.References.{buffer_of}
use Rattle.entry_ref.specs.declared.images.Image.{Image}
use Rattle.entry_ref.specs.Records.{Records}
use Rattle.entry_ref.specs.Places.{state_place}
use Rattle.gen_core.specs.declared.views.Pending.TheVariants.{Next}
use Rattle.gen_core.specs.declared.views.Buffer.TheVariants.{Held}
use Rattle.gen_core.specs.declared.views.Tag.{Tag}
use Rattle.gen_core.specs.declared.views.ReaderState.TheVariants.{Raised}
use Rattle.gen_core.specs.declared.views.ReaderView.{ReaderView}
use Rattle.gen_core.specs.Views.{oldest_of, kept_of, last_number, hold_place, is_open_hold, active_in, is_counted_on}
use Rattle.gen_core.specs.Good.{State, InActive, Avoids, IsPlaced, WordsStand, IsLawfulCommit, Good}
use Rattle.gen_core.specs.Events.{after_store_word, after_store_width, after_hand_out, after_publish, after_free, after_store_newest}
use Rattle.gen_core.specs.Events.{after_morph, after_split, after_count, after_load_root, count_at, with_buffer, with_state, reopened}

module _ (reaches : ℕ → Records → ℕ → List ℕ) (lawful : ℕ → Records → ℕ → Type 0) where
  -- a word stored in a buffer that is not active, or has no width
  abbrev pub NeedsActive : Type 0
  NeedsActive = (s : State) (p n : ℕ) → (InActive s.writer.sizes s.writer.buffers p → ⊥) → Good reaches lawful (after_store_word s p n) → ⊥

  -- a word stored into a kept commit
  abbrev pub NeedsApart : Type 0
  NeedsApart =
      (s : State) (p n : ℕ) → (All (Avoids s.writer.sizes p) (kept_of s.writer) → ⊥)
      → Good reaches lawful (after_store_word s p n) → ⊥

  -- a width stored in a buffer that is not active
  abbrev pub NeedsActiveWidth : Type 0
  NeedsActiveWidth =
      (s : State) (b width : ℕ) → Good reaches lawful s → b < s.writer.sizes.buffers → active_in s.writer.buffers b ≡ None
      → Good reaches lawful (after_store_width s b width) → ⊥

  -- a second width stored in a buffer in which a kept commit has a record
  abbrev pub NeedsNoWidth : Type 0
  NeedsNoWidth =
      (s : State) (b width : ℕ) (image : Image) (pair : ℕ × List ℕ) → Good reaches lawful s
      → Contains (kept_of s.writer) image → Contains image.records pair
      → buffer_of s.writer.sizes.offset_bits pair.0 ≡ b → length pair.1 ≢ width → Good reaches lawful (after_store_width s b width) → ⊥

  -- a buffer handed out in which a kept commit has a record
  abbrev pub NeedsFree : Type 0
  NeedsFree =
      (s : State) (b : ℕ) (image : Image) (pair : ℕ × List ℕ) → Good reaches lawful s
      → Contains (kept_of s.writer) image → Contains image.records pair
      → buffer_of s.writer.sizes.offset_bits pair.0 ≡ b → Good reaches lawful (after_hand_out s b) → ⊥

  -- an image published that is not lawful, whose records are not those that its root reaches, or whose root is too
  -- large
  abbrev pub NeedsLawful : Type 0
  NeedsLawful =
      (s : State) (image : Image) → (IsLawfulCommit reaches lawful s.writer.sizes.shape image → ⊥)
      → Good reaches lawful (after_publish s image) → ⊥

  -- an image published with a record that lies in no buffer of its width, or is not in the table
  abbrev pub NeedsRecords : Type 0
  NeedsRecords =
      (s : State) (image : Image) (pair : ℕ × List ℕ) → Contains image.records pair
      → (IsPlaced s.writer.sizes s.writer.buffers pair → WordsStand s.writer.sizes (after_publish s image).words pair → ⊥)
      → Good reaches lawful (after_publish s image) → ⊥

  -- a publish past the last number
  abbrev pub NeedsNumber : Type 0
  NeedsNumber =
      (s : State) (image : Image) → Good reaches lawful s → s.writer.sizes.commit_limit ≤ last_number s.writer.commits
      → Good reaches lawful (after_publish s image) → ⊥

  -- a reader made after the sixty-fourth
  abbrev pub NeedsSeat : Type 0
  NeedsSeat = (s : State) → 64 ≤ s.writer.made → Good reaches lawful (after_split s) → ⊥

  -- the root loaded by a view that no hold counts: before the raise, or after the join
  abbrev pub RootBeforeRaise : Type 0
  RootBeforeRaise =
      (s : State) (j h : ℕ) (r : ReaderView) → Good reaches lawful s → slice_get s.readers j ≡ Some r → h < 16
      → is_counted_on h r.state ≡ false
      → Good reaches lawful (after_load_root s j r h) → ⊥

  -- a hold opened by storing 0, while a view is on its way back
  abbrev pub OpensByZero : Type 0
  OpensByZero =
      (s : State) (j h : ℕ) (r : ReaderView) → Good reaches lawful s → slice_get s.readers j ≡ Some r → h < 16
      → is_counted_on h r.state ≡ true
      → Good reaches lawful (record { words = set s.words (hold_place h) 0; writer = reopened s.writer h; readers = s.readers }) → ⊥

  -- the newest word stored while its hold is closed
  abbrev pub LastBeforeOpen : Type 0
  LastBeforeOpen = (s : State) (h : ℕ) → Good reaches lawful s → h < 16 → is_open_hold s.writer.queue h ≡ false
      → Good reaches lawful (after_store_newest s h) → ⊥

  -- a hold that was found closed, treated as raised
  abbrev pub ForgetsTheBounce : Type 0
  ForgetsTheBounce =
      (s : State) (j h : ℕ) (r : ReaderView) → Good reaches lawful s → slice_get s.readers j ≡ Some r
      → is_open_hold s.writer.queue h ≡ false
      → Good reaches lawful (after_count s h (count_at s h + 2) j (with_state r (Raised h))) → ⊥

  -- the newest hold renewed while another hold is reopened
  abbrev pub MorphBesideNext : Type 0
  MorphBesideNext = (s : State) (h : ℕ) → Good reaches lawful s → s.writer.queue.pending ≡ Next h → Good reaches lawful (after_morph s) → ⊥

  -- the oldest hold closed but left in the queue, so that the floor does not rise
  abbrev pub CloseMovesNoFloor : Type 0
  CloseMovesNoFloor =
      (s : State) → Good reaches lawful s
      → Good reaches lawful (record {
        words = set s.words (hold_place (oldest_of s.writer.queue).hold) 1;
        writer = s.writer;
        readers = s.readers;
      }) → ⊥

  -- a buffer freed whose tag is the oldest generation or a later one
  abbrev pub FreesAtTheOldest : Type 0
  FreesAtTheOldest =
      (s : State) (b width : ℕ) (tag : Tag) → slice_get s.writer.buffers b ≡ Some (Held width tag)
      → (oldest_of s.writer.queue).generation ≤ tag.generation
      → Good reaches lawful (after_free s b tag) → ⊥

  -- a buffer put on hold under the generation before the current one, although a commit was published since that one
  -- began
  abbrev pub TagsTooEarly : Type 0
  TagsTooEarly =
      (s : State) (b width : ℕ) (tag : Tag) → b < length s.writer.buffers → tag.generation < s.writer.queue.newest.generation
      → s.writer.queue.newest.first_commit < tag.commit
      → Good reaches lawful (record {
        words = set s.words (state_place b) 2;
        writer = with_buffer s.writer b (Held width tag);
        readers = s.readers;
      }) → ⊥
