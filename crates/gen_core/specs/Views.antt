-- Functions of the views: the queue, the commits, the buffers, and the words that represent them.
use Rattle.std.specs.Prelude.{◌≡◌, ℕ, ◌+◌, ◌-◌, ◌*◌, ◌^◌, List, [], ◌∷◌, ◌++◌, length, drop, slice_get, Option, Some, None, Bool, false}
use Rattle.std.specs.Prelude.{◌||◌, nat_eq, option_and_then}
use Rattle.std.specs.List.{list_any}
use Rattle.entry_ref.specs.declared.images.Image.{Image}
use Rattle.entry_ref.specs.Images.{no_image}
use Rattle.gen_core.specs.declared.views.OpenHold.{OpenHold}
use Rattle.gen_core.specs.declared.views.Pending.{Pending}
use Rattle.gen_core.specs.declared.views.Pending.TheVariants.{Nothing, Next, Probed}
use Rattle.gen_core.specs.declared.views.Queue.{Queue}
use Rattle.gen_core.specs.declared.views.Tag.{Tag}
use Rattle.gen_core.specs.declared.views.Buffer.{Buffer}
use Rattle.gen_core.specs.declared.views.Buffer.TheVariants.{Free, Active, Held}
use Rattle.gen_core.specs.declared.views.ReaderState.{ReaderState}
use Rattle.gen_core.specs.declared.views.ReaderState.TheVariants.{Idle, Aimed, Raised, Bounced, Guarded, Spent}
use Rattle.gen_core.specs.declared.views.ReaderView.{ReaderView}
use Rattle.gen_core.specs.declared.views.WriterView.{WriterView}

abbrev pub queue_of : List OpenHold → OpenHold → Pending → Queue
queue_of older newest pending = record { older = older; newest = newest; pending = pending }

-- the open holds, from the oldest to the newest
abbrev pub open_holds : Queue → List OpenHold
open_holds queue = queue.older ++ queue.newest ∷ []

abbrev pub oldest_in : List OpenHold → OpenHold → OpenHold
oldest_in [] newest = newest
oldest_in (e ∷ es) newest = e

abbrev pub oldest_of : Queue → OpenHold
oldest_of queue = oldest_in queue.older queue.newest

-- commits before this one are not kept
abbrev pub floor_of : WriterView → ℕ
floor_of w = (oldest_of w.queue).first_commit

-- the kept commits
abbrev pub kept_of : WriterView → List Image
kept_of w = drop (floor_of w) w.commits

-- the number of the last commit
abbrev pub last_number : List Image → ℕ
last_number commits = length commits - 1

abbrev pub last_image : List Image → Image
last_image [] = no_image
last_image (x ∷ []) = x
last_image (x ∷ y ∷ ys) = last_image (y ∷ ys)

-- what was seen is a commit, under its number
abbrev pub IsCommit : List Image → ℕ × Image → Type 0
IsCommit commits seen = slice_get commits seen.0 ≡ Some seen.1

-- the root word: the number of a commit and its root
abbrev pub root_word : ℕ → Image → ℕ
root_word number image = number * 2 ^ 32 + image.root

-- the newest word: a generation and its hold
abbrev pub newest_word : OpenHold → ℕ
newest_word e = e.generation * 2 ^ 16 + e.hold

-- the place of a hold's count
abbrev pub hold_place : ℕ → ℕ
hold_place hold = 2 + hold

abbrev pub is_next : Pending → ℕ → Bool
is_next Nothing hold = false
is_next (Next h) hold = nat_eq h hold
is_next Probed hold = false

-- a hold is open: it is in the queue, or pending
abbrev pub is_open_hold : Queue → ℕ → Bool
is_open_hold queue hold = list_any (λ e. nat_eq e.hold hold) (open_holds queue) || is_next queue.pending hold

abbrev pub coming_after : OpenHold → Pending → ℕ
coming_after newest Nothing = newest.generation
coming_after newest (Next h) = newest.generation + 1
coming_after newest Probed = newest.generation + 1

-- the current generation, plus one if the next one has begun
abbrev pub coming : Queue → ℕ
coming queue = coming_after queue.newest queue.pending

-- the state word of a buffer
abbrev pub state_word : Buffer → ℕ
state_word (Free tag) = 0
state_word (Active width tag) = 1
state_word (Held width tag) = 2

-- the width of the records in a buffer
abbrev pub record_width : Buffer → Option ℕ
record_width (Free tag) = None
record_width (Active width tag) = Some width
record_width (Held width tag) = Some width

abbrev pub width_in : List Buffer → ℕ → Option ℕ
width_in buffers b = option_and_then record_width (slice_get buffers b)

-- the width of a buffer that is active, 0 until it is stored
abbrev pub active_width : Buffer → Option ℕ
active_width (Free tag) = None
active_width (Active width tag) = Some width
active_width (Held width tag) = None

abbrev pub active_in : List Buffer → ℕ → Option ℕ
active_in buffers b = option_and_then active_width (slice_get buffers b)

-- the last tag of a buffer that had one
abbrev pub last_tag : Buffer → Option Tag
last_tag (Free tag) = tag
last_tag (Active width tag) = tag
last_tag (Held width tag) = Some tag

abbrev pub last_tag_in : List Buffer → ℕ → Option Tag
last_tag_in buffers b = option_and_then last_tag (slice_get buffers b)

-- a view that adds two to the count of a hold; a view on its way back does so too
abbrev pub is_counted_on : ℕ → ReaderState → Bool
is_counted_on hold Idle = false
is_counted_on hold (Aimed generation h) = false
is_counted_on hold (Raised h) = nat_eq h hold
is_counted_on hold (Bounced h) = nat_eq h hold
is_counted_on hold (Guarded h commit) = nat_eq h hold
is_counted_on hold Spent = false

-- the hold that a view keeps open
abbrev pub stands_on : ReaderState → Option ℕ
stands_on Idle = None
stands_on (Aimed generation h) = None
stands_on (Raised h) = Some h
stands_on (Bounced h) = None
stands_on (Guarded h commit) = Some h
stands_on Spent = None

-- the final view of a joined reader
abbrev pub spent : ReaderView
spent = record {
  sizes = record { offset_bits = 0; buffers = 0; words = 0; shape = 0; commit_limit = 0; generation_limit = 0 };
  number = 0;
  seen = 0;
  least = 0;
  first = 0;
  misses = record { count = 0; found = 0 };
  state = Spent;
  saw = [];
}
