-- The parts of the invariant that the layers above cite: laws over a good state and one event.
use Rattle.std.specs.Prelude.{◌≡◌, ◌≢◌, ◌⊎◌, ℕ, ◌+◌, ◌/◌, ◌%◌, ◌^◌, ◌<◌, ◌≤◌, List, length, slice_get, slice_index, Some, All}
use Rattle.entry_ref.specs.References.{buffer_of}
use Rattle.entry_ref.specs.declared.images.Image.{Image}
use Rattle.entry_ref.specs.Records.{Records}
use Rattle.entry_ref.specs.Images.{record_at}
use Rattle.entry_ref.specs.Places.{base, StandsIn}
use Rattle.gen_core.specs.declared.views.Sizes.{Sizes}
use Rattle.gen_core.specs.declared.views.OpenHold.{OpenHold}
use Rattle.gen_core.specs.declared.views.ReaderState.TheVariants.{Aimed}
use Rattle.gen_core.specs.declared.views.ReaderView.{ReaderView}
use Rattle.gen_core.specs.Views.{floor_of, kept_of, last_number, last_image, IsCommit, stands_on}
use Rattle.gen_core.specs.Work.{place_in, IsRecordStored, writer_records, next_image}
use Rattle.gen_core.specs.Good.{State, IsLawfulCommit, GoodView, Good}
use Rattle.gen_core.specs.Conditions.{MayStoreWord, MayStoreWidth, MayPublish, MayClose, MayProbe, IsUnder}
use Rattle.gen_core.specs.declared.views.Event.{Event}
use Rattle.gen_core.specs.declared.views.Event.TheVariants.{HandOut, PutOnHold, Release}
use Rattle.gen_core.specs.Events.{Happens, Happen, MayOpen, opening, NoneFromBefore, count_at, after_store_word}
use Rattle.gen_core.specs.Events.{after_store_width, after_publish}
use Rattle.gen_core.specs.Steps.{subtract, word_of, operation_of}

-- a hold that was found in use is open and in use
pub record IsInUse (found : ℕ) : Type 0 where
  pub even : found % 2 ≡ 0
  pub some : 0 < found

-- there is a later generation than the one at which the reader aimed, and the next aim is not below the reader's
-- least generation
pub record IsPassed (s : State) (r : ReaderView) (generation : ℕ) : Type 0 where
  pub newer : generation < s.writer.queue.newest.generation
  pub higher : r.least + 1 ≤ s.writer.queue.newest.generation

module _ (reaches : ℕ → Records → ℕ → List ℕ) (lawful : ℕ → Records → ℕ → Type 0) where
  -- every list of events from the opening keeps the invariant
  abbrev pub KeepsGood : Type 0
  KeepsGood = (sizes : Sizes) (events : List Event) (s : State) → MayOpen sizes → Happen reaches lawful (opening sizes) events s
      → Good reaches lawful s

  -- when a buffer is handed out, no view stands on a hold of the generation of the buffer's last tag or an older one
  abbrev pub HandsOutUnguarded : Type 0
  HandsOutUnguarded =
      (sizes : Sizes) (events : List Event) (s t : State) (b : ℕ) → MayOpen sizes → Happen reaches lawful (opening sizes) events s
      → Happens reaches lawful s (HandOut b) t → NoneFromBefore s b

  -- a buffer that is put on hold while a view stands on a hold is not handed out before that view is released
  abbrev pub HoldsBack : Type 0
  HoldsBack =
      (sizes : Sizes) (before between : List Event) (s m t u : State) (j h b : ℕ) (r : ReaderView) → MayOpen sizes
      → Happen reaches lawful (opening sizes) before s → slice_get s.readers j ≡ Some r → stands_on r.state ≡ Some h
      → Happens reaches lawful s (PutOnHold b) m → Happen reaches lawful m between t → All (λ e. e ≢ Release j) between
      → Happens reaches lawful t (HandOut b) u → ⊥

  -- one event keeps the invariant, from every good state
  abbrev pub EventKeepsGood : Type 0
  EventKeepsGood = (s t : State) (e : Event) → Good reaches lawful s → Happens reaches lawful s e t → Good reaches lawful t

  -- what holds of a good state's writer follows from the writer's view alone
  abbrev pub ViewIsGood : Type 0
  ViewIsGood = (s : State) → Good reaches lawful s → GoodView s.writer

  -- a word of a record of the guarded image is that record's word
  abbrev pub LoadsImageWord : Type 0
  LoadsImageWord =
      (s : State) (j number ref i : ℕ) (r : ReaderView) (image : Image) (ws : List ℕ) → Good reaches lawful s
      → slice_get s.readers j ≡ Some r → IsUnder r number image → record_at image ref ≡ Some ws → i < length ws
      → slice_index s.words (place_in r.sizes (length ws) ref i) ≡ slice_index ws i

  -- the first word of that record's buffer is its width
  abbrev pub LoadsWidth : Type 0
  LoadsWidth =
      (s : State) (j number ref : ℕ) (r : ReaderView) (image : Image) (ws : List ℕ) → Good reaches lawful s
      → slice_get s.readers j ≡ Some r → IsUnder r number image → record_at image ref ≡ Some ws
      → slice_index s.words (base r.sizes.buffers r.sizes.words (buffer_of r.sizes.offset_bits ref)) ≡ length ws

  -- the guarded commit is kept, is lawful, has exactly the records that its root reaches, and is in the table
  pub record IsKeptFor (s : State) (r : ReaderView) (number : ℕ) (image : Image) : Type 0 where
    pub kept : floor_of s.writer ≤ number
    pub last : number ≤ last_number s.writer.commits
    pub commit : slice_get s.writer.commits number ≡ Some image
    pub lawful_commit : IsLawfulCommit reaches lawful r.sizes.shape image
    pub stands : StandsIn r.sizes.offset_bits r.sizes.buffers r.sizes.words s.words image

  abbrev pub KeepsGuarded : Type 0
  KeepsGuarded =
      (s : State) (j number : ℕ) (r : ReaderView) (image : Image) → Good reaches lawful s → slice_get s.readers j ≡ Some r
      → IsUnder r number image → IsKeptFor s r number image

  abbrev pub KeptStand : State → List ℕ → Type 0
  KeptStand s words = All (StandsIn s.writer.sizes.offset_bits s.writer.sizes.buffers s.writer.sizes.words words) (kept_of s.writer)

  -- a store changes no kept commit
  abbrev pub StoreLeavesKept : Type 0
  StoreLeavesKept = (s : State) (p n : ℕ) → Good reaches lawful s → MayStoreWord s.writer p → KeptStand s (after_store_word s p n).words

  abbrev pub WidthLeavesKept : Type 0
  WidthLeavesKept =
      (s : State) (b width : ℕ) → Good reaches lawful s → MayStoreWidth s.writer b width
      → KeptStand s (after_store_width s b width).words

  -- a published image is in the table
  abbrev pub PublishedStands : Type 0
  PublishedStands =
      (s : State) (root : ℕ) → Good reaches lawful s → MayPublish lawful s.writer root
      → StandsIn s.writer.sizes.offset_bits s.writer.sizes.buffers s.writer.sizes.words
      (after_publish s (next_image reaches s.writer root)).words (next_image reaches s.writer root)

  -- the root word holds the last commit and its root, and a reader has seen no later commit
  pub record TellsCommit (s : State) (r : ReaderView) : Type 0 where
    pub number : slice_index s.words 0 / 2 ^ 32 ≡ last_number s.writer.commits
    pub root : slice_index s.words 0 % 2 ^ 32 ≡ (last_image s.writer.commits).root
    pub later : r.seen ≤ last_number s.writer.commits
    pub lawful_commit : IsLawfulCommit reaches lawful s.writer.sizes.shape (last_image s.writer.commits)

  abbrev pub LoadsLaterCommit : Type 0
  LoadsLaterCommit = (s : State) (j : ℕ) (r : ReaderView) → Good reaches lawful s → slice_get s.readers j ≡ Some r → TellsCommit s r

  -- what joined readers saw are commits of the writer
  abbrev pub KeepsCommits : Type 0
  KeepsCommits = (s : State) → Good reaches lawful s → All (IsCommit s.writer.commits) s.writer.saw

  -- a record of the writer is in the last commit, or every word of it was stored since then
  abbrev pub IsLastOrWhole : State → ℕ → List ℕ → Type 0
  IsLastOrWhole s ref ws = (record_at (last_image s.writer.commits) ref ≡ Some ws) ⊎ IsRecordStored s.writer ref ws

  abbrev pub RecordsAreFound : Type 0
  RecordsAreFound = (s : State) (ref : ℕ) → 0 < length (writer_records s.writer ref) → IsLastOrWhole s ref (writer_records s.writer ref)

  -- each such record is a record of the writer
  abbrev pub FoundAreRecords : Type 0
  FoundAreRecords = (s : State) (ref : ℕ) (ws : List ℕ) → Good reaches lawful s → IsLastOrWhole s ref ws → writer_records s.writer ref ≡ ws

  -- each word of such a record is at its place
  abbrev pub RecordsStand : Type 0
  RecordsStand =
      (s : State) (ref i : ℕ) → Good reaches lawful s → i < length (writer_records s.writer ref)
      → slice_index s.words (place_in s.writer.sizes (length (writer_records s.writer ref)) ref i)
      ≡ slice_index (writer_records s.writer ref) i

  -- each record of an image that may be published is in the last commit, or was stored whole since then
  abbrev pub PublishesWhole : Type 0
  PublishesWhole =
      (s : State) (root : ℕ) → MayPublish lawful s.writer root
      → All (λ pair. IsLastOrWhole s pair.0 pair.1) (next_image reaches s.writer root).records

  -- a reader that finds its hold closed has missed a generation
  abbrev pub OddIsPassed : Type 0
  OddIsPassed =
      (s : State) (j generation h : ℕ) (r : ReaderView) → Good reaches lawful s → slice_get s.readers j ≡ Some r
      → r.state ≡ Aimed generation h → count_at s h % 2 ≡ 1 → IsPassed s r generation

  -- the next aim of a reader is not below the least generation that it accepts
  abbrev pub AimIsNotBelow : Type 0
  AimIsNotBelow = (s : State) (j : ℕ) (r : ReaderView) → Good reaches lawful s → slice_get s.readers j ≡ Some r
      → r.least ≤ s.writer.queue.newest.generation

  -- a close fails only on a hold in use
  abbrev pub CloseFindsUse : Type 0
  CloseFindsUse = (s : State) (e : OpenHold) (es : List OpenHold) → Good reaches lawful s → MayClose s.writer e es → count_at s e.hold ≢ 0
      → IsInUse (count_at s e.hold)

  -- a probe fails only on a hold in use
  abbrev pub ProbeFindsUse : Type 0
  ProbeFindsUse =
      (s : State) → Good reaches lawful s → MayProbe s.writer → count_at s s.writer.queue.newest.hold ≢ 0
      → IsInUse (count_at s s.writer.queue.newest.hold)

  -- no count exceeds 129: two for each of 64 readers, and one
  abbrev pub CountsAreSmall : Type 0
  CountsAreSmall = (s : State) (h : ℕ) → Good reaches lawful s → h < 16 → count_at s h ≤ 129

  -- no count is decremented below 0
  abbrev pub NoneIsBelowZero : Type 0
  NoneIsBelowZero =
      (s t : State) (e : Event) (n : ℕ) → Good reaches lawful s → Happens reaches lawful s e t → operation_of s e ≡ subtract n
      → n ≤ slice_index s.words (word_of s e)

  -- the first kept commit never decreases
  abbrev pub FloorStays : Type 0
  FloorStays = (s t : State) (e : Event) → Good reaches lawful s → Happens reaches lawful s e t → floor_of s.writer ≤ floor_of t.writer
