-- Each event as one step: its seat, its word and its operation.
use Rattle.std.specs.Prelude.{if◌then◌else◌, ◌≡◌, ◌≢◌, ℕ, zero, suc, ◌+◌, ◌-◌, ◌*◌, ◌^◌, List, length, set, slice_get, slice_index, Option}
use Rattle.std.specs.Prelude.{Some, nat_eq, option_map}
use Rattle.std.specs.Option.{unwrap_or}
use Rattle.entry_ref.specs.Records.{Records}
use Rattle.entry_ref.specs.Places.{base, state_place}
use Rattle.gen_core.specs.declared.views.Pending.{Pending}
use Rattle.gen_core.specs.declared.views.Pending.TheVariants.{Nothing, Next, Probed}
use Rattle.gen_core.specs.declared.views.ReaderState.{ReaderState}
use Rattle.gen_core.specs.declared.views.ReaderState.TheVariants.{Idle, Aimed, Raised, Bounced, Guarded, Spent}
use Rattle.gen_core.specs.declared.views.View.{View}
use Rattle.gen_core.specs.declared.views.View.TheVariants.{Writer, Reader}
use Rattle.gen_core.specs.Views.{oldest_of, newest_word, hold_place, spent}
use Rattle.gen_core.specs.Good.{State}
use Rattle.gen_core.specs.declared.views.Event.{Event}
use Rattle.gen_core.specs.declared.views.Event.TheVariants.{StoreWidth, StoreWord, FindWord, HandOut, Publish, PutOnHold, FreeBuffer}
use Rattle.gen_core.specs.declared.views.Event.TheVariants.{Reopen}
use Rattle.gen_core.specs.Events.{coming_hold}
use Rattle.gen_core.specs.declared.views.Event.TheVariants.{StoreNewest, Close, StopAtOldest, Probe, StopAtNewest, Morph, Split, Join}
use Rattle.gen_core.specs.declared.views.Event.TheVariants.{MeetLoad, LoadOwn}
use Rattle.gen_core.specs.declared.views.Event.TheVariants.{LoadNewest, Raise, Bounce, LoadRoot, LoadWord, Release}
use Rattle.gen_core.specs.Events.{Happens}

pub data Operation : Type 0 where
  load : Operation
  store : (n : ℕ) → Operation
  add : (n : ℕ) → Operation
  subtract : (n : ℕ) → Operation
  exchange : (wanted new : ℕ) → Operation

-- the word that an operation leaves, by the word that it found
abbrev pub left_by : Operation → ℕ → ℕ
left_by load found = found
left_by (store n) found = n
left_by (add n) found = found + n
left_by (subtract n) found = found - n
left_by (exchange wanted new) found = if nat_eq found wanted then new else found

-- the hold that a view names
abbrev pub hold_of : ReaderState → ℕ
hold_of Idle = 0
hold_of (Aimed generation h) = h
hold_of (Raised h) = h
hold_of (Bounced h) = h
hold_of (Guarded h commit) = h
hold_of Spent = 0

abbrev pub hold_in : State → ℕ → ℕ
hold_in s j = hold_of (unwrap_or (slice_get s.readers j) spent).state

abbrev pub next_hold : Pending → ℕ
next_hold Nothing = 0
next_hold (Next h) = h
next_hold Probed = 0

-- the word
abbrev pub word_of : State → Event → ℕ
word_of s (StoreWidth b width) = base s.writer.sizes.buffers s.writer.sizes.words b
word_of s (StoreWord p n) = p
word_of s (FindWord p) = p
word_of s (HandOut b) = state_place b
word_of s (Publish root) = 0
word_of s (PutOnHold b) = state_place b
word_of s (FreeBuffer b) = state_place b
word_of s (Reopen h) = hold_place h
word_of s StoreNewest = 1
word_of s Close = hold_place (oldest_of s.writer.queue).hold
word_of s StopAtOldest = hold_place (oldest_of s.writer.queue).hold
word_of s Probe = hold_place s.writer.queue.newest.hold
word_of s StopAtNewest = hold_place s.writer.queue.newest.hold
word_of s Morph = 1
word_of s Split = 0
word_of s (Join j) = 0
word_of s MeetLoad = 0
word_of s (LoadOwn p) = p
word_of s (LoadNewest j) = 1
word_of s (Raise j) = hold_place (hold_in s j)
word_of s (Bounce j) = hold_place (hold_in s j)
word_of s (LoadRoot j) = 0
word_of s (LoadWord j p) = p
word_of s (Release j) = hold_place (hold_in s j)

-- what is done with it
abbrev pub operation_of : State → Event → Operation
operation_of s (StoreWidth b width) = store width
operation_of s (StoreWord p n) = store n
operation_of s (FindWord p) = load
operation_of s (HandOut b) = store 1
operation_of s (Publish root) = store (length s.writer.commits * 2 ^ 32 + root)
operation_of s (PutOnHold b) = store 2
operation_of s (FreeBuffer b) = store 0
operation_of s (Reopen h) = subtract 1
operation_of s StoreNewest = store (newest_word (coming_hold s.writer (next_hold s.writer.queue.pending)))
operation_of s Close = exchange 0 1
operation_of s StopAtOldest = exchange 0 1
operation_of s Probe = load
operation_of s StopAtNewest = load
operation_of s Morph = store (newest_word (coming_hold s.writer s.writer.queue.newest.hold))
operation_of s Split = load
operation_of s (Join j) = load
operation_of s MeetLoad = load
operation_of s (LoadOwn p) = load
operation_of s (LoadNewest j) = load
operation_of s (Raise j) = add 2
operation_of s (Bounce j) = subtract 2
operation_of s (LoadRoot j) = load
operation_of s (LoadWord j p) = load
operation_of s (Release j) = subtract 2

-- the seat of the event: 0 is the writer, and the readers follow
abbrev pub seat_of : Event → ℕ
seat_of (StoreWidth b width) = 0
seat_of (StoreWord p n) = 0
seat_of (FindWord p) = 0
seat_of (HandOut b) = 0
seat_of (Publish root) = 0
seat_of (PutOnHold b) = 0
seat_of (FreeBuffer b) = 0
seat_of (Reopen h) = 0
seat_of StoreNewest = 0
seat_of Close = 0
seat_of StopAtOldest = 0
seat_of Probe = 0
seat_of StopAtNewest = 0
seat_of Morph = 0
seat_of Split = 0
seat_of (Join j) = 0
seat_of MeetLoad = 0
seat_of (LoadOwn p) = 0
seat_of (LoadNewest j) = suc j
seat_of (Raise j) = suc j
seat_of (Bounce j) = suc j
seat_of (LoadRoot j) = suc j
seat_of (LoadWord j p) = suc j
seat_of (Release j) = suc j

-- the other seat whose view changes: the one that a split makes or a join takes in
abbrev pub partner_of : State → Event → ℕ
partner_of s Split = suc (length s.readers)
partner_of s (Join j) = suc j
partner_of s e = seat_of e

-- the view of a seat
abbrev pub view_at : State → ℕ → Option View
view_at s zero = Some (Writer s.writer)
view_at s (suc j) = option_map Reader (slice_get s.readers j)

-- one word changes, and no other seat's view changes
pub record IsOneStep (s : State) (e : Event) (t : State) : Type 0 where
  pub words : t.words ≡ set s.words (word_of s e) (left_by (operation_of s e) (slice_index s.words (word_of s e)))
  pub views : (k : ℕ) → k ≢ seat_of e → k ≢ partner_of s e → view_at t k ≡ view_at s k

module _ (reaches : ℕ → Records → ℕ → List ℕ) (lawful : ℕ → Records → ℕ → Type 0) where
  abbrev pub EventIsOneStep : Type 0
  EventIsOneStep = (s t : State) (e : Event) → Happens reaches lawful s e t → IsOneStep s e t
