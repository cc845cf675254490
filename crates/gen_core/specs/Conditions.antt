-- When an event may happen, as a condition on the view of its seat. While a change of the queue is unfinished, the
-- writer only finishes it.
use Rattle.std.specs.Prelude.{◌≡◌, ◌≢◌, ◌⊎◌, ℕ, suc, ◌+◌, ◌^◌, ◌<◌, ◌≤◌, List, ◌∷◌, length, slice_get, Option, Some, All}
use Rattle.entry_ref.specs.References.{buffer_of}
use Rattle.entry_ref.specs.declared.images.Image.{Image}
use Rattle.entry_ref.specs.Records.{Records}
use Rattle.entry_ref.specs.Images.{record_at}
use Rattle.entry_ref.specs.Places.{base}
use Rattle.gen_core.specs.declared.views.Sizes.{Sizes}
use Rattle.gen_core.specs.declared.views.OpenHold.{OpenHold}
use Rattle.gen_core.specs.declared.views.Pending.TheVariants.{Nothing}
use Rattle.gen_core.specs.declared.views.Buffer.TheVariants.{Free, Held}
use Rattle.gen_core.specs.declared.views.Tag.{Tag}
use Rattle.gen_core.specs.declared.views.ReaderState.TheVariants.{Idle, Guarded}
use Rattle.gen_core.specs.declared.views.ReaderView.{ReaderView}
use Rattle.gen_core.specs.declared.views.WriterView.{WriterView}
use Rattle.gen_core.specs.Views.{open_holds, oldest_of, kept_of, last_number, last_image, active_in}
use Rattle.gen_core.specs.Work.{work_at, place_in, writer_records}
use Rattle.gen_core.specs.Good.{InActive, Avoids, HasNothingIn}

-- Words and buffers.

-- store the width of a buffer: it is active and has no width
pub record MayStoreWidth (w : WriterView) (b width : ℕ) : Type 0 where
  pub calm : w.queue.pending ≡ Nothing
  pub none_yet : active_in w.buffers b ≡ Some 0
  pub some : 0 < width

-- store another word: its buffer is active and has a width, and no kept commit has a word there
pub record MayStoreWord (w : WriterView) (p : ℕ) : Type 0 where
  pub calm : w.queue.pending ≡ Nothing
  pub active : InActive w.sizes w.buffers p
  pub apart : All (Avoids w.sizes p) (kept_of w)

-- hand a buffer out: it is free
pub record MayHandOut (w : WriterView) (b : ℕ) : Type 0 where
  pub calm : w.queue.pending ≡ Nothing
  pub tag : Option Tag
  pub free : slice_get w.buffers b ≡ Some (Free tag)

-- publish a root: the image that it reaches, in the last commit and what was stored whole since then, is lawful; and
-- a commit number is left
pub record MayPublish (lawful : ℕ → Records → ℕ → Type 0) (w : WriterView) (root : ℕ) : Type 0 where
  pub calm : w.queue.pending ≡ Nothing
  pub lawful_root : lawful w.sizes.shape (writer_records w) root
  pub small : root < 2 ^ 32
  pub left : last_number w.commits < w.sizes.commit_limit

-- put a buffer on hold: the last commit has no record in it, and nothing was stored in it since then
pub record MayPutOnHold (w : WriterView) (b width : ℕ) : Type 0 where
  pub calm : w.queue.pending ≡ Nothing
  pub active : active_in w.buffers b ≡ Some width
  pub unused : HasNothingIn w.sizes.offset_bits b (last_image w.commits)
  pub idle : (p n x : ℕ) → work_at w.work p ≡ Some n → x < w.sizes.words → p ≢ base w.sizes.buffers w.sizes.words b + x

-- free a buffer: its tag is below every generation of the queue
pub record MayFree (w : WriterView) (b : ℕ) (tag : Tag) : Type 0 where
  pub calm : w.queue.pending ≡ Nothing
  pub width : ℕ
  pub held : slice_get w.buffers b ≡ Some (Held width tag)
  pub below : tag.generation < (oldest_of w.queue).generation

-- a word of a buffer
pub record IsBufferWord (sizes : Sizes) (p : ℕ) : Type 0 where
  pub b : ℕ
  pub x : ℕ
  pub buffer : b < sizes.buffers
  pub inside : x < sizes.words
  pub is : p ≡ base sizes.buffers sizes.words b + x

-- load a word of a buffer
pub record MayLoadOwn (w : WriterView) (p : ℕ) : Type 0 where
  pub calm : w.queue.pending ≡ Nothing
  pub word : IsBufferWord w.sizes p

-- Holds.

-- reopen a hold: it is not in the queue, the queue has room for it, and a generation is left
pub record MayReopen (w : WriterView) (h : ℕ) : Type 0 where
  pub calm : w.queue.pending ≡ Nothing
  pub hold : h < 16
  pub others : All (λ e. e.hold ≢ h) (open_holds w.queue)
  pub room : suc (length w.queue.older) < 16
  pub left : w.queue.newest.generation + 1 ≤ w.sizes.generation_limit

-- close the oldest hold: it is not the newest
pub record MayClose (w : WriterView) (e : OpenHold) (es : List OpenHold) : Type 0 where
  pub calm : w.queue.pending ≡ Nothing
  pub is : w.queue.older ≡ e ∷ es

-- test whether the newest hold is in use: a generation is left
pub record MayProbe (w : WriterView) : Type 0 where
  pub calm : w.queue.pending ≡ Nothing
  pub left : w.queue.newest.generation + 1 ≤ w.sizes.generation_limit

-- Readers.

-- make a reader: fewer than 64 were made
pub record MaySplit (w : WriterView) : Type 0 where
  pub calm : w.queue.pending ≡ Nothing
  pub few : w.made < 64

-- join a reader: it stands on no hold
pub record MayJoin (w : WriterView) (r : ReaderView) : Type 0 where
  pub calm : w.queue.pending ≡ Nothing
  pub idle : r.state ≡ Idle

-- the reader guards this commit, the last that it saw
pub record IsUnder (r : ReaderView) (number : ℕ) (image : Image) : Type 0 where
  pub hold : ℕ
  pub guarded : r.state ≡ Guarded hold number
  pub seen : slice_get r.saw 0 ≡ Some (number, image)

-- a word of a record of the image, or the first word of that record's buffer
abbrev pub IsOfImage : Sizes → Image → ℕ → Type 0
IsOfImage sizes image p =
    (ref : ℕ) × (ws : List ℕ) × (record_at image ref ≡ Some ws)
    × (((i : ℕ) × (i < length ws) × (p ≡ place_in sizes (length ws) ref i))
    ⊎ (p ≡ base sizes.buffers sizes.words (buffer_of sizes.offset_bits ref)))

-- load a word: it belongs to the image that the reader guards
pub record MayLoadWord (r : ReaderView) (p : ℕ) : Type 0 where
  pub number : ℕ
  pub image : Image
  pub under : IsUnder r number image
  pub word : IsOfImage r.sizes image p
