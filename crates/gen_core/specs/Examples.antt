-- Lists of events from the opening, and the state in which each ends.
use Rattle.std.specs.Prelude.{ℕ, zero, suc, ◌+◌, ◌*◌, ◌^◌, ◌<◌, List, [], ◌∷◌, ◌++◌, length, replicate, Some, None}
use Rattle.entry_ref.specs.References.{packed}
use Rattle.entry_ref.specs.declared.images.Image.{Image}
use Rattle.entry_ref.specs.Records.{Records}
use Rattle.entry_ref.specs.Images.{no_image}
use Rattle.gen_core.specs.declared.views.Sizes.{Sizes}
use Rattle.gen_core.specs.declared.views.OpenHold.{OpenHold}
use Rattle.gen_core.specs.declared.views.Pending.TheVariants.{Nothing}
use Rattle.gen_core.specs.declared.views.Queue.{Queue}
use Rattle.gen_core.specs.declared.views.Stops.{Stops}
use Rattle.gen_core.specs.declared.views.Buffer.TheVariants.{Free, Active}
use Rattle.gen_core.specs.declared.views.Misses.{Misses}
use Rattle.gen_core.specs.declared.views.ReaderState.{ReaderState}
use Rattle.gen_core.specs.declared.views.ReaderState.TheVariants.{Idle, Guarded}
use Rattle.gen_core.specs.declared.views.ReaderView.{ReaderView}
use Rattle.gen_core.specs.declared.views.WriterView.{WriterView}
use Rattle.gen_core.specs.Views.{queue_of, spent}
use Rattle.gen_core.specs.Good.{State}
use Rattle.gen_core.specs.declared.views.Event.{Event}
use Rattle.gen_core.specs.declared.views.Event.TheVariants.{StoreWidth, StoreWord, HandOut, Publish, PutOnHold, FreeBuffer, Reopen}
use Rattle.gen_core.specs.declared.views.Event.TheVariants.{StoreNewest, Close}
use Rattle.gen_core.specs.declared.views.Event.TheVariants.{StopAtOldest, Probe, StopAtNewest, Morph, Split, Join, MeetLoad, LoadNewest}
use Rattle.gen_core.specs.declared.views.Event.TheVariants.{Raise, Bounce}
use Rattle.gen_core.specs.declared.views.Event.TheVariants.{LoadRoot, LoadWord, Release}
use Rattle.gen_core.specs.Events.{Happen, opening}

-- A layout with images of one record: root 0 is the empty image, and any other root reaches only its own record,
-- which must exist.

abbrev pub one_reaches : ℕ → Records → ℕ → List ℕ
one_reaches shape m zero = []
one_reaches shape m (suc r) = suc r ∷ []

abbrev pub one_lawful : ℕ → Records → ℕ → Type 0
one_lawful shape m zero = Unit {0}
one_lawful shape m (suc r) = 0 < length (m (suc r))

-- the events lead from the opening to this state
abbrev pub Ends : Sizes → List Event → State → Type 0
Ends sizes events end = Happen one_reaches one_lawful (opening sizes) events end

abbrev pub open_hold : ℕ → ℕ → ℕ → OpenHold
open_hold generation hold first_commit = record { generation = generation; hold = hold; first_commit = first_commit }

abbrev pub stops_of : ℕ → ℕ → Stops
stops_of count found = record { count = count; found = found }

-- Holds alone: there is no buffer, and every commit is the empty image.

abbrev pub hold_sizes : Sizes
hold_sizes = record { offset_bits = 22; buffers = 0; words = 1; shape = 0; commit_limit = 20; generation_limit = 20 }

-- the writer's view after this many commits and with this many readers
abbrev pub hold_view : ℕ → Queue → ℕ → Stops → WriterView
hold_view commits queue made stops =
    record {
      sizes = hold_sizes;
      commits = replicate commits no_image;
      queue = queue;
      buffers = [];
      work = [];
      saw = [];
      taken = [];
      made = made;
      stops = stops;
    }

abbrev pub misses_of : ℕ → ℕ → Misses
misses_of count found = record { count = count; found = found }

abbrev pub hold_reader : ℕ → ℕ → ℕ → ℕ → Misses → ReaderState → List (ℕ × Image) → ReaderView
hold_reader number seen least first misses state saw = record {
  sizes = hold_sizes;
  number = number;
  seen = seen;
  least = least;
  first = first;
  misses = misses;
  state = state;
  saw = saw;
}

-- the words when all holds but 0 and 1 are closed
abbrev pub hold_words : ℕ → ℕ → ℕ → ℕ → List ℕ
hold_words root newest zeroth first = root ∷ newest ∷ zeroth ∷ first ∷ replicate 14 1

-- commit with the next hold; the oldest hold closes
abbrev pub commit_on : ℕ → List Event
commit_on h = Publish 0 ∷ Reopen h ∷ StoreNewest ∷ Close ∷ []

-- commit with the next hold; the newest and the oldest hold are found in use
abbrev pub commit_beside : ℕ → List Event
commit_beside h = Publish 0 ∷ StopAtNewest ∷ Reopen h ∷ StoreNewest ∷ StopAtOldest ∷ []

-- commit with the newest hold, which is unused
abbrev pub commit_renewed : List Event
commit_renewed = Publish 0 ∷ Probe ∷ Morph ∷ []

abbrev pub guards : ℕ → List Event
guards j = LoadNewest j ∷ Raise j ∷ LoadRoot j ∷ []

-- A reader aims at generation 0 on hold 0, misses it after commit 1, and is on its way back with 1 as its least
-- generation. It aims at generation 1 on hold 1. Commits 2 and 3 follow, and generation 3 uses hold 1 again, so the
-- reader gets a guard of commit 3.
abbrev pub missed_events : List Event
missed_events =
    Split ∷ LoadNewest 0 ∷ commit_on 1 ++ Raise 0 ∷ Bounce 0 ∷ LoadNewest 0 ∷ commit_on 0 ++ commit_on 1 ++ Raise 0 ∷ LoadRoot 0 ∷ []

abbrev pub missed_end : State
missed_end = record {
  words = hold_words (3 * 2 ^ 32) (3 * 2 ^ 16 + 1) 1 2;
  writer = hold_view 4 (queue_of [] (open_hold 3 1 3) Nothing) 1 (stops_of 0 0);
  readers = hold_reader 0 3 1 0 (misses_of 1 1) (Guarded 1 3) ((3, no_image) ∷ []) ∷ [];
}

-- If the newest hold is renewed, the first raise gives a guard of commit 1.
abbrev pub renewed_events : List Event
renewed_events = Split ∷ LoadNewest 0 ∷ commit_renewed ++ Raise 0 ∷ LoadRoot 0 ∷ []

abbrev pub renewed_end : State
renewed_end = record {
  words = hold_words (1 * 2 ^ 32) (1 * 2 ^ 16) 2 1;
  writer = hold_view 2 (queue_of [] (open_hold 1 0 1) Nothing) 1 (stops_of 0 0);
  readers = hold_reader 0 1 0 0 (misses_of 0 0) (Guarded 0 1) ((1, no_image) ∷ []) ∷ [];
}

-- Reader 1 guards generation 0 on hold 0, at which reader 0 aims. Commit 1 begins generation 1 on hold 1. The guard
-- is released, commit 2 begins generation 2 on hold 1, and hold 0 closes. Reader 0 finds hold 0 closed.
abbrev pub closed_events : List Event
closed_events =
    Split ∷ Split ∷ guards 1 ++ LoadNewest 0 ∷ commit_beside 1 ++ Release 1 ∷ commit_renewed ++ Close ∷ Raise 0 ∷ Bounce 0 ∷ []

abbrev pub closed_end : State
closed_end = record {
  words = hold_words (2 * 2 ^ 32) (2 * 2 ^ 16 + 1) 1 0;
  writer = hold_view 3 (queue_of [] (open_hold 2 1 2) Nothing) 2 (stops_of 2 2);
  readers = hold_reader 0 0 1 0 (misses_of 1 1) Idle [] ∷ hold_reader 1 0 0 0 (misses_of 0 0) Idle ((0, no_image) ∷ []) ∷ [];
}

-- Then reader 0 aims at generation 2 on hold 1, which reader 1 guards. Commit 3 begins generation 3 on hold 0, and
-- the guard is released. Commit 4 begins generation 4 on hold 0, and hold 1 closes. A third reader guards generation
-- 4. Commit 5 begins generation 5 on hold 1 again, and reader 0 gets a guard of commit 5.
abbrev pub reopened_events : List Event
reopened_events =
    closed_events ++ LoadNewest 0 ∷ guards 1 ++ commit_beside 0 ++ Release 1 ∷ commit_renewed ++ Close ∷ Split ∷ guards 2
    ++ commit_beside 1
    ++ Raise 0 ∷ LoadRoot 0 ∷ []

abbrev pub reopened_end : State
reopened_end = record {
  words = hold_words (5 * 2 ^ 32) (5 * 2 ^ 16 + 1) 2 2;
  writer = hold_view 6 (queue_of (open_hold 4 0 4 ∷ []) (open_hold 5 1 5) Nothing) 3 (stops_of 6 2);
  readers =
      hold_reader 0 5 2 0 (misses_of 1 1) (Guarded 1 5) ((5, no_image) ∷ [])
      ∷ hold_reader 1 2 2 2 (misses_of 0 0) Idle ((2, no_image) ∷ (0, no_image) ∷ [])
      ∷ hold_reader 2 4 4 4 (misses_of 0 0) (Guarded 0 4) ((4, no_image) ∷ []) ∷ [];
}

-- Reader 0 keeps its guard over a commit and loads the root again. It then guards commit 1, still on hold 0, which
-- closes after the release.
abbrev pub kept_events : List Event
kept_events = Split ∷ guards 0 ++ commit_beside 1 ++ LoadRoot 0 ∷ Release 0 ∷ Close ∷ []

abbrev pub kept_end : State
kept_end = record {
  words = hold_words (1 * 2 ^ 32) (1 * 2 ^ 16 + 1) 1 0;
  writer = hold_view 2 (queue_of [] (open_hold 1 1 1) Nothing) 1 (stops_of 2 2);
  readers = hold_reader 0 1 0 0 (misses_of 0 0) Idle ((1, no_image) ∷ (0, no_image) ∷ []) ∷ [];
}

-- Buffers.

abbrev pub buffer_sizes : ℕ → Sizes
buffer_sizes bits = record { offset_bits = bits; buffers = 2; words = 4; shape = 0; commit_limit = 20; generation_limit = 20 }

-- A buffer is put on hold under a guard. While the guard exists, another buffer is handed out. After the release, the
-- oldest hold closes, and the first buffer is freed and handed out again.
abbrev pub again_events : List Event
again_events =
    HandOut 0 ∷ StoreWidth 0 2 ∷ Publish 0 ∷ Split ∷ guards 0 ++ PutOnHold 0 ∷ StopAtNewest ∷ Reopen 1 ∷ StoreNewest ∷ StopAtOldest
    ∷ HandOut 1 ∷ StoreWidth 1 3 ∷ Release 0 ∷ Close ∷ FreeBuffer 0 ∷ HandOut 0 ∷ StoreWidth 0 4 ∷ []

abbrev pub again_end : State
again_end = record {
  words = hold_words (1 * 2 ^ 32) (1 * 2 ^ 16 + 1) 1 0 ++ 1 ∷ 1 ∷ 4 ∷ 0 ∷ 0 ∷ 0 ∷ 3 ∷ 0 ∷ 0 ∷ 0 ∷ [];
  writer = record {
    sizes = buffer_sizes 22;
    commits = no_image ∷ no_image ∷ [];
    queue = queue_of [] (open_hold 1 1 1) Nothing;
    buffers = Active 4 (Some (record { generation = 0; commit = 1 })) ∷ Active 3 None ∷ [];
    work = [];
    saw = [];
    taken = [];
    made = 1;
    stops = stops_of 2 2;
  };
  readers =
      record {
        sizes = buffer_sizes 22;
        number = 0;
        seen = 1;
        least = 0;
        first = 0;
        misses = misses_of 0 0;
        state = Idle;
        saw = (1, no_image) ∷ [];
      } ∷ [];
}

-- A record of two words is stored at offset 1 of buffer 0 and published. A reader loads it and is joined.
abbrev pub stored_events : ℕ → List Event
stored_events bits =
    Split ∷ HandOut 0 ∷ StoreWidth 0 2 ∷ StoreWord 22 7 ∷ StoreWord 23 9 ∷ Publish (packed bits 1 0) ∷ guards 0
    ++ LoadWord 0 20 ∷ LoadWord 0 23
    ∷ Release 0 ∷ Join 0 ∷ MeetLoad ∷ []

abbrev pub stored_image : ℕ → Image
stored_image bits = record { root = packed bits 1 0; records = (packed bits 1 0, 7 ∷ 9 ∷ []) ∷ [] }

-- the reader when it is joined
abbrev pub stored_reader : ℕ → ReaderView
stored_reader bits = record {
  sizes = buffer_sizes bits;
  number = 0;
  seen = 1;
  least = 0;
  first = 0;
  misses = misses_of 0 0;
  state = Idle;
  saw = (1, stored_image bits) ∷ [];
}

abbrev pub stored_end : ℕ → State
stored_end bits = record {
  words = hold_words (1 * 2 ^ 32 + packed bits 1 0) 0 0 1 ++ 1 ∷ 0 ∷ 2 ∷ 0 ∷ 7 ∷ 9 ∷ 0 ∷ 0 ∷ 0 ∷ 0 ∷ [];
  writer = record {
    sizes = buffer_sizes bits;
    commits = no_image ∷ stored_image bits ∷ [];
    queue = queue_of [] (open_hold 0 0 0) Nothing;
    buffers = Active 2 None ∷ Free None ∷ [];
    work = [];
    saw = (1, stored_image bits) ∷ [];
    taken = stored_reader bits ∷ [];
    made = 1;
    stops = stops_of 0 0;
  };
  readers = spent ∷ [];
}
