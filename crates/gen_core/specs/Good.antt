-- The invariant of the core: what holds of the words and of all views after every event.
use Rattle.std.specs.Prelude.{if◌then◌else◌, ◌≡◌, ◌≢◌, ℕ, suc, ◌+◌, ◌*◌, ◌^◌, ◌<◌, ◌≤◌, List, length, drop, slice_get, slice_index, Some}
use Rattle.std.specs.Prelude.{None, Bool, IsTrue, All, AllPairs, count_by}
use Rattle.entry_ref.specs.References.{buffer_of}
use Rattle.entry_ref.specs.declared.images.Image.{Image}
use Rattle.entry_ref.specs.Records.{Records, references_of}
use Rattle.entry_ref.specs.Images.{no_image, words_at}
use Rattle.entry_ref.specs.Places.{base, state_place, size_of, IsEntry}
use Rattle.gen_core.specs.declared.views.Sizes.{Sizes}
use Rattle.gen_core.specs.declared.views.OpenHold.{OpenHold}
use Rattle.gen_core.specs.declared.views.Pending.TheVariants.{Next, Probed}
use Rattle.gen_core.specs.declared.views.Queue.{Queue}
use Rattle.gen_core.specs.declared.views.Tag.{Tag}
use Rattle.gen_core.specs.declared.views.Buffer.{Buffer}
use Rattle.gen_core.specs.declared.views.Buffer.TheVariants.{Free, Held}
use Rattle.gen_core.specs.declared.views.ReaderState.{ReaderState}
use Rattle.gen_core.specs.declared.views.ReaderState.TheVariants.{Idle, Aimed, Raised, Bounced, Guarded, Spent}
use Rattle.gen_core.specs.declared.views.ReaderView.{ReaderView}
use Rattle.gen_core.specs.declared.views.WriterView.{WriterView}
use Rattle.gen_core.specs.Views.{open_holds, oldest_of, kept_of, last_number, last_image, IsCommit, root_word, newest_word, hold_place}
use Rattle.gen_core.specs.Views.{is_open_hold, coming, state_word, width_in, active_in, is_counted_on, spent}
use Rattle.gen_core.specs.Work.{work_at, place_in}

-- the words of the table, the view of the writer, and the view of each reader made
pub record State : Type 0 where
  pub words : List ℕ
  pub writer : WriterView
  pub readers : List ReaderView

-- the numbers of words and buffers, and the limits within which the words of a table fit in 64 bits
pub record GoodSizes (sizes : Sizes) (words : List ℕ) (buffers : List Buffer) : Type 0 where
  pub table : length words ≡ size_of sizes.buffers sizes.words
  pub count : length buffers ≡ sizes.buffers
  pub some_word : 0 < sizes.words
  pub commit_limit : sizes.commit_limit < 2 ^ 32
  pub generation_limit : sizes.generation_limit < 2 ^ 48

-- an open hold and a later one
pub record IsBefore (d e : OpenHold) : Type 0 where
  pub generation : d.generation < e.generation
  pub hold : d.hold ≢ e.hold
  pub first_commit : d.first_commit ≤ e.first_commit

-- an open hold is one of sixteen, and its first commit exists
pub record HoldFits (commits : List Image) (e : OpenHold) : Type 0 where
  pub hold : e.hold < 16
  pub first_commit : e.first_commit ≤ last_number commits

-- the pending hold is not in the queue, and the queue has room for it
pub record NextFits (queue : Queue) (h : ℕ) : Type 0 where
  pub hold : h < 16
  pub others : All (λ e. e.hold ≢ h) (open_holds queue)
  pub room : suc (length queue.older) < 16

pub record GoodQueue (sizes : Sizes) (queue : Queue) (commits : List Image) : Type 0 where
  pub few : length queue.older < 16
  pub rising : AllPairs IsBefore (open_holds queue)
  pub each : All (HoldFits commits) (open_holds queue)
  pub next : (h : ℕ) → queue.pending ≡ Next h → NextFits queue h
  pub generation : coming queue ≤ sizes.generation_limit
  pub commit : last_number commits ≤ sizes.commit_limit

-- an image has no record in this buffer
abbrev pub HasNothingIn : ℕ → ℕ → Image → Type 0
HasNothingIn bits b image = All (λ pair. buffer_of bits pair.0 ≢ b) image.records

-- the tag of a buffer on hold: no commit from the tag's commit on has a record in the buffer, and every generation
-- above the tag's began with one of these commits
pub record GoodTag (bits : ℕ) (queue : Queue) (commits : List Image) (b : ℕ) (tag : Tag) : Type 0 where
  pub generation : tag.generation ≤ queue.newest.generation
  pub commit : tag.commit ≤ last_number commits
  pub first_commits : All (λ e. tag.generation < e.generation → tag.commit ≤ e.first_commit) (open_holds queue)
  pub unused : All (HasNothingIn bits b) (drop tag.commit commits)

-- the last tag of a free buffer is below every generation of the queue
pub record GoodTags (bits : ℕ) (queue : Queue) (commits : List Image) (buffers : List Buffer) : Type 0 where
  pub free : (b : ℕ) (tag : Tag) → slice_get buffers b ≡ Some (Free (Some tag)) → tag.generation < (oldest_of queue).generation
  pub held : (b width : ℕ) (tag : Tag) → slice_get buffers b ≡ Some (Held width tag) → GoodTag bits queue commits b tag

-- a record of a kept commit lies in a buffer that is not free and has the record's width
pub record IsPlaced (sizes : Sizes) (buffers : List Buffer) (pair : ℕ × List ℕ) : Type 0 where
  pub inside : IsEntry sizes.offset_bits sizes.buffers sizes.words (length pair.1) pair.0
  pub width : width_in buffers (buffer_of sizes.offset_bits pair.0) ≡ Some (length pair.1)

-- a place after the first word of an active buffer that has this width
pub record InActive (sizes : Sizes) (buffers : List Buffer) (p : ℕ) : Type 0 where
  pub b : ℕ
  pub width : ℕ
  pub x : ℕ
  pub active : active_in buffers b ≡ Some width
  pub some : 0 < width
  pub behind : 0 < x
  pub inside : x < sizes.words
  pub is : p ≡ base sizes.buffers sizes.words b + x

-- no word of a record of this width is at this place
pub record IsApart (sizes : Sizes) (p width ref : ℕ) : Type 0 where
  pub each : (i : ℕ) → i < width → place_in sizes width ref i ≢ p

-- no word of the image is at this place
pub record Avoids (sizes : Sizes) (p : ℕ) (image : Image) : Type 0 where
  pub records : All (λ pair. IsApart sizes p (length pair.1) pair.0) image.records

pub record IsWorkPlace (sizes : Sizes) (buffers : List Buffer) (kept : List Image) (p : ℕ) : Type 0 where
  pub active : InActive sizes buffers p
  pub apart : All (Avoids sizes p) kept

-- where the records of kept commits and the words stored since the last commit lie
pub record GoodPlaces (sizes : Sizes) (buffers : List Buffer) (kept : List Image) (work : List (ℕ × ℕ)) : Type 0 where
  pub records : All (λ image. All (IsPlaced sizes buffers) image.records) kept
  pub stored : (p n : ℕ) → work_at work p ≡ Some n → IsWorkPlace sizes buffers kept p

-- the named words: the last commit, the newest hold, the states of the buffers
pub record GoodNamedWords (words : List ℕ) (commits : List Image) (newest : OpenHold) (buffers : List Buffer) : Type 0 where
  pub root : slice_index words 0 ≡ root_word (last_number commits) (last_image commits)
  pub newest_hold : slice_index words 1 ≡ newest_word newest
  pub states : (b : ℕ) (x : Buffer) → slice_get buffers b ≡ Some x → slice_index words (state_place b) ≡ state_word x

-- each word of a record is at its place
abbrev pub WordsStand : Sizes → List ℕ → ℕ × List ℕ → Type 0
WordsStand sizes words pair = (i : ℕ) → i < length pair.1
    → slice_index words (place_in sizes (length pair.1) pair.0 i) ≡ slice_index pair.1 i

-- the words of the buffers
pub record GoodMemory (sizes : Sizes) (words : List ℕ) (buffers : List Buffer) (kept : List Image) (work : List (ℕ × ℕ)) : Type 0 where
  pub records : All (λ image. All (WordsStand sizes words) image.records) kept
  pub stored : (p n : ℕ) → work_at work p ≡ Some n → slice_index words p ≡ n
  pub widths : (b width : ℕ) → width_in buffers b ≡ Some width → 0 < width → slice_index words (base sizes.buffers sizes.words b) ≡ width

-- the count of a hold: twice the number of views counted on it, and one more if it is closed
abbrev pub hold_word : ℕ → Bool → ℕ
hold_word counted opened = 2 * counted + (if opened then 0 else 1)

pub record GoodCounts (words : List ℕ) (queue : Queue) (made : ℕ) (readers : List ReaderView) : Type 0 where
  pub counts :
      (h : ℕ) → h < 16
      → slice_index words (hold_place h) ≡ hold_word (count_by (λ r. is_counted_on h r.state) readers) (is_open_hold queue h)
  pub views : length readers ≡ made
  pub few : made ≤ 64

-- the condition on a view that aims: on its least generation, and on the newest hold if that generation is the
-- current one
pub record AimFits (newest : OpenHold) (least generation h : ℕ) : Type 0 where
  pub hold : h < 16
  pub aim : least ≡ generation
  pub current : generation ≡ newest.generation → h ≡ newest.hold

-- the condition on a view that keeps a hold open: the hold is open
pub record RaiseFits (queue : Queue) (h : ℕ) : Type 0 where
  pub hold : h < 16
  pub opened : IsTrue (is_open_hold queue h)

-- the condition on a view that missed a hold: there is a later generation
pub record BounceFits (newest : OpenHold) (least h : ℕ) : Type 0 where
  pub hold : h < 16
  pub missed : least < newest.generation

-- the condition on a view that guards: its hold keeps its commit, which is the last that it saw
pub record GuardFits (queue : Queue) (commits : List Image) (saw : List (ℕ × Image)) (h c : ℕ) : Type 0 where
  pub raised : RaiseFits queue h
  pub commit : c ≤ last_number commits
  pub first_commit : All (λ e. e.hold ≡ h → e.first_commit ≤ c) (open_holds queue)
  pub next : queue.pending ≡ Next h → c ≡ last_number commits
  pub probed : queue.pending ≡ Probed → queue.newest.hold ≡ h → c ≡ last_number commits
  pub image : Image
  pub seen : slice_get saw 0 ≡ Some (c, image)

abbrev pub GoodReaderState : Queue → List Image → ReaderView → ReaderState → Type 0
GoodReaderState queue commits r Idle = Unit {0}
GoodReaderState queue commits r (Aimed generation h) = AimFits queue.newest r.least generation h
GoodReaderState queue commits r (Raised h) = RaiseFits queue h
GoodReaderState queue commits r (Bounced h) = BounceFits queue.newest r.least h
GoodReaderState queue commits r (Guarded h c) = GuardFits queue commits r.saw h c
GoodReaderState queue commits r Spent = r ≡ spent

pub record GoodReader (sizes : Sizes) (queue : Queue) (commits : List Image) (r : ReaderView) : Type 0 where
  pub same_sizes : r.state ≢ Spent → r.sizes ≡ sizes
  pub seen : r.seen ≤ last_number commits
  pub saw : All (IsCommit commits) r.saw
  pub least : r.least ≤ queue.newest.generation
  pub state : GoodReaderState queue commits r r.state

-- what holds of the writer's view alone
pub record GoodView (w : WriterView) : Type 0 where
  pub count : length w.buffers ≡ w.sizes.buffers
  pub some_word : 0 < w.sizes.words
  pub queue : GoodQueue w.sizes w.queue w.commits
  pub tags : GoodTags w.sizes.offset_bits w.queue w.commits w.buffers
  pub empty : slice_get w.commits 0 ≡ Some no_image
  pub records : All (λ image. All (IsPlaced w.sizes w.buffers) image.records) (kept_of w)
  pub apart : (p n : ℕ) → work_at w.work p ≡ Some n → All (Avoids w.sizes p) (kept_of w)
  pub unstored : (b x : ℕ) → x < w.sizes.words → active_in w.buffers b ≡ None
      → work_at w.work (base w.sizes.buffers w.sizes.words b + x) ≡ None

-- what a layout says of a root: the references that it reaches, and whether it is lawful
module _ (reaches : ℕ → Records → ℕ → List ℕ) (lawful : ℕ → Records → ℕ → Type 0) where
  -- the image of a commit is lawful, has exactly the records that its root reaches, and its root fits in the root
  -- word
  pub record IsLawfulCommit (shape : ℕ) (image : Image) : Type 0 where
    pub lawful_image : lawful shape (words_at image) image.root
    pub reached : references_of image.records ≡ reaches shape (words_at image) image.root
    pub small : image.root < 2 ^ 32

  pub record GoodCommits (sizes : Sizes) (commits : List Image) (saw : List (ℕ × Image)) : Type 0 where
    pub empty : slice_get commits 0 ≡ Some no_image
    pub each : All (IsLawfulCommit sizes.shape) commits
    pub seen : All (IsCommit commits) saw

  pub record Good (s : State) : Type 0 where
    pub sizes : GoodSizes s.writer.sizes s.words s.writer.buffers
    pub queue : GoodQueue s.writer.sizes s.writer.queue s.writer.commits
    pub tags : GoodTags s.writer.sizes.offset_bits s.writer.queue s.writer.commits s.writer.buffers
    pub commits : GoodCommits s.writer.sizes s.writer.commits s.writer.saw
    pub places : GoodPlaces s.writer.sizes s.writer.buffers (kept_of s.writer) s.writer.work
    pub names : GoodNamedWords s.words s.writer.commits s.writer.queue.newest s.writer.buffers
    pub memory : GoodMemory s.writer.sizes s.words s.writer.buffers (kept_of s.writer) s.writer.work
    pub counts : GoodCounts s.words s.writer.queue s.writer.made s.readers
    pub readers : All (GoodReader s.writer.sizes s.writer.queue s.writer.commits) s.readers
