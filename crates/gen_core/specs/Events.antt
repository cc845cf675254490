-- The events. Each is one step of one seat on one word, under a condition on that seat's view.
use Rattle.std.specs.Prelude.{if◌then◌else◌, ◌≡◌, ◌≢◌, ℕ, ◌+◌, ◌-◌, ◌*◌, ◌%◌, ◌^◌, slice_index, ◌<◌, List, [], ◌∷◌, ◌++◌, length, set}
use Rattle.std.specs.Prelude.{replicate, slice_get, Some, None, All, IsTrue, nat_eq}
use Rattle.std.specs.List.{list_any}
use Rattle.entry_ref.specs.declared.images.Image.{Image}
use Rattle.entry_ref.specs.Records.{Records}
use Rattle.entry_ref.specs.Images.{no_image}
use Rattle.entry_ref.specs.Places.{base, state_place}
use Rattle.gen_core.specs.declared.views.Sizes.{Sizes}
use Rattle.gen_core.specs.declared.views.OpenHold.{OpenHold}
use Rattle.gen_core.specs.declared.views.Pending.TheVariants.{Nothing, Next, Probed}
use Rattle.gen_core.specs.declared.views.Buffer.{Buffer}
use Rattle.gen_core.specs.declared.views.Buffer.TheVariants.{Free, Active, Held}
use Rattle.gen_core.specs.declared.views.Tag.{Tag}
use Rattle.gen_core.specs.declared.views.ReaderState.{ReaderState}
use Rattle.gen_core.specs.declared.views.ReaderState.TheVariants.{Idle, Aimed, Raised, Bounced, Guarded}
use Rattle.gen_core.specs.declared.views.Misses.{Misses}
use Rattle.gen_core.specs.declared.views.Event.{Event}
use Rattle.gen_core.specs.declared.views.Event.TheVariants.{StoreWidth, StoreWord, FindWord, HandOut, Publish, PutOnHold, FreeBuffer}
use Rattle.gen_core.specs.declared.views.Event.TheVariants.{Reopen, StoreNewest, Close, StopAtOldest, Probe}
use Rattle.gen_core.specs.declared.views.Event.TheVariants.{StopAtNewest, Morph, Split, Join, MeetLoad, LoadOwn, LoadNewest, Raise, Bounce}
use Rattle.gen_core.specs.declared.views.Event.TheVariants.{LoadRoot, LoadWord, Release}
use Rattle.gen_core.specs.declared.views.ReaderView.{ReaderView}
use Rattle.gen_core.specs.declared.views.WriterView.{WriterView}
use Rattle.gen_core.specs.Views.{queue_of, open_holds, hold_place, newest_word, last_number, last_image, root_word, last_tag_in, stands_on}
use Rattle.gen_core.specs.Views.{spent}
use Rattle.gen_core.specs.Work.{next_image}
use Rattle.gen_core.specs.Good.{State}
use Rattle.gen_core.specs.Conditions.{MayStoreWidth, MayStoreWord, MayHandOut, MayPublish, MayPutOnHold, MayFree, MayReopen, MayClose}
use Rattle.gen_core.specs.Conditions.{MayProbe, MaySplit, MayJoin, MayLoadOwn, MayLoadWord}

-- How views change.

abbrev pub with_buffer : WriterView → ℕ → Buffer → WriterView
with_buffer w b x = record w { buffers = set w.buffers b x }

abbrev pub widened : WriterView → ℕ → ℕ → WriterView
widened w b width = with_buffer w b (Active width (last_tag_in w.buffers b))

abbrev pub stored : WriterView → ℕ → ℕ → WriterView
stored w p n = record w { work = (p, n) ∷ w.work }

abbrev pub handed_out : WriterView → ℕ → WriterView
handed_out w b = with_buffer w b (Active 0 (last_tag_in w.buffers b))

abbrev pub published : WriterView → Image → WriterView
published w image = record w { commits = w.commits ++ image ∷ []; work = [] }

abbrev pub tag_of : WriterView → Tag
tag_of w = record { generation = w.queue.newest.generation; commit = last_number w.commits }

abbrev pub put_aside : WriterView → ℕ → ℕ → WriterView
put_aside w b width = with_buffer w b (Held width (tag_of w))

abbrev pub freed : WriterView → ℕ → Tag → WriterView
freed w b tag = with_buffer w b (Free (Some tag))

abbrev pub reopened : WriterView → ℕ → WriterView
reopened w h = record w { queue = record w.queue { pending = Next h } }

-- the open hold of the next generation
abbrev pub coming_hold : WriterView → ℕ → OpenHold
coming_hold w h = record { generation = w.queue.newest.generation + 1; hold = h; first_commit = last_number w.commits }

abbrev pub advanced : WriterView → ℕ → WriterView
advanced w h = record w { queue = queue_of (w.queue.older ++ w.queue.newest ∷ []) (coming_hold w h) Nothing }

abbrev pub closed : WriterView → List OpenHold → WriterView
closed w es = record w { queue = record w.queue { older = es } }

-- a hold was found in use
abbrev pub stopped : WriterView → ℕ → WriterView
stopped w found = record w { stops = record { count = w.stops.count + 1; found = found } }

abbrev pub probed : WriterView → WriterView
probed w = record w { queue = record w.queue { pending = Probed } }

-- the newest hold, found unused, takes the next generation
abbrev pub morphed : WriterView → WriterView
morphed w = record w { queue = queue_of w.queue.older (coming_hold w w.queue.newest.hold) Nothing }

abbrev pub with_reader : WriterView → WriterView
with_reader w = record w { made = w.made + 1 }

abbrev pub newcomer : WriterView → ReaderView
newcomer w = record {
  sizes = w.sizes;
  number = w.made;
  seen = last_number w.commits;
  least = w.queue.newest.generation;
  first = w.queue.newest.generation;
  misses = record { count = 0; found = 0 };
  state = Idle;
  saw = [];
}

abbrev pub joined : WriterView → ReaderView → WriterView
joined w r = record w { saw = r.saw ++ w.saw; taken = r ∷ w.taken }

abbrev pub with_state : ReaderView → ReaderState → ReaderView
with_state r t = record r { state = t }

-- the generation at which the reader aimed first: this one, unless it missed one before
abbrev pub first_aim : ReaderView → ℕ → ℕ
first_aim r generation = if nat_eq r.misses.count 0 then generation else r.first

abbrev pub aims : ReaderView → OpenHold → ReaderView
aims r e = record r { least = e.generation; first = first_aim r e.generation; state = Aimed e.generation e.hold }

-- an even count means that the hold is open
abbrev pub found_state : ℕ → ℕ → ReaderState
found_state found h = if nat_eq (found % 2) 0 then Raised h else Bounced h

-- an odd count is a miss
abbrev pub found_misses : ℕ → Misses → Misses
found_misses found misses = if nat_eq (found % 2) 0 then misses else record { count = misses.count + 1; found = found }

abbrev pub meets : ReaderView → ℕ → ℕ → ReaderView
meets r found h = record r { state = found_state found h; misses = found_misses found r.misses }

abbrev pub bounced : ReaderView → ReaderView
bounced r = record r { least = r.least + 1; state = Idle }

abbrev pub released : ReaderView → ReaderView
released r = record r { state = Idle; misses = record { count = 0; found = r.misses.found } }

abbrev pub sees : ReaderView → ℕ → ℕ → Image → ReaderView
sees r h number image = record r { seen = number; state = Guarded h number; saw = (number, image) ∷ r.saw }

-- The states after an event.

abbrev pub after_store_width : State → ℕ → ℕ → State
after_store_width s b width = record {
  words = set s.words (base s.writer.sizes.buffers s.writer.sizes.words b) width;
  writer = widened s.writer b width;
  readers = s.readers;
}

abbrev pub after_store_word : State → ℕ → ℕ → State
after_store_word s p n = record { words = set s.words p n; writer = stored s.writer p n; readers = s.readers }

-- a word that the writer finds counts as stored
abbrev pub after_find_word : State → ℕ → State
after_find_word s p = record s { writer = stored s.writer p (slice_index s.words p) }

abbrev pub after_hand_out : State → ℕ → State
after_hand_out s b = record { words = set s.words (state_place b) 1; writer = handed_out s.writer b; readers = s.readers }

abbrev pub after_publish : State → Image → State
after_publish s image = record {
  words = set s.words 0 (root_word (length s.writer.commits) image);
  writer = published s.writer image;
  readers = s.readers;
}

abbrev pub after_put_on_hold : State → ℕ → ℕ → State
after_put_on_hold s b width = record { words = set s.words (state_place b) 2; writer = put_aside s.writer b width; readers = s.readers }

abbrev pub after_free : State → ℕ → Tag → State
after_free s b tag = record { words = set s.words (state_place b) 0; writer = freed s.writer b tag; readers = s.readers }

-- the count of a hold
abbrev pub count_at : State → ℕ → ℕ
count_at s h = slice_index s.words (hold_place h)

abbrev pub after_reopen : State → ℕ → State
after_reopen s h = record { words = set s.words (hold_place h) (count_at s h - 1); writer = reopened s.writer h; readers = s.readers }

abbrev pub after_store_newest : State → ℕ → State
after_store_newest s h = record {
  words = set s.words 1 (newest_word (coming_hold s.writer h));
  writer = advanced s.writer h;
  readers = s.readers;
}

abbrev pub after_close : State → OpenHold → List OpenHold → State
after_close s e es = record { words = set s.words (hold_place e.hold) 1; writer = closed s.writer es; readers = s.readers }

abbrev pub after_stop : State → ℕ → State
after_stop s found = record s { writer = stopped s.writer found }

abbrev pub after_probe : State → State
after_probe s = record s { writer = probed s.writer }

abbrev pub after_morph : State → State
after_morph s = record {
  words = set s.words 1 (newest_word (coming_hold s.writer s.writer.queue.newest.hold));
  writer = morphed s.writer;
  readers = s.readers;
}

abbrev pub after_split : State → State
after_split s = record { words = s.words; writer = with_reader s.writer; readers = s.readers ++ newcomer s.writer ∷ [] }

abbrev pub after_join : State → ℕ → ReaderView → State
after_join s j r = record { words = s.words; writer = joined s.writer r; readers = set s.readers j spent }

abbrev pub after_load_newest : State → ℕ → ReaderView → State
after_load_newest s j r = record s { readers = set s.readers j (aims r s.writer.queue.newest) }

-- the count of one hold and the view of one reader change
abbrev pub after_count : State → ℕ → ℕ → ℕ → ReaderView → State
after_count s h n j v = record { words = set s.words (hold_place h) n; writer = s.writer; readers = set s.readers j v }

abbrev pub after_raise : State → ℕ → ReaderView → ℕ → State
after_raise s j r h = after_count s h (count_at s h + 2) j (meets r (count_at s h) h)

abbrev pub after_bounce : State → ℕ → ReaderView → ℕ → State
after_bounce s j r h = after_count s h (count_at s h - 2) j (bounced r)

abbrev pub after_load_root : State → ℕ → ReaderView → ℕ → State
after_load_root s j r h = record s { readers = set s.readers j (sees r h (last_number s.writer.commits) (last_image s.writer.commits)) }

abbrev pub after_release : State → ℕ → ReaderView → ℕ → State
after_release s j r h = after_count s h (count_at s h - 2) j (released r)

-- The opening.

abbrev pub opening_hold : OpenHold
opening_hold = record { generation = 0; hold = 0; first_commit = 0 }

abbrev pub opening_view : Sizes → WriterView
opening_view sizes = record {
  sizes = sizes;
  commits = no_image ∷ [];
  queue = queue_of [] opening_hold Nothing;
  buffers = replicate sizes.buffers (Free None);
  work = [];
  saw = [];
  taken = [];
  made = 0;
  stops = record { count = 0; found = 0 };
}

-- every word is 0, except the counts of holds 1 to 15, which are closed
abbrev pub opening_words : Sizes → List ℕ
opening_words sizes = 0 ∷ 0 ∷ 0 ∷ replicate 15 1 ++ replicate (sizes.buffers + sizes.buffers * sizes.words) 0

abbrev pub opening : Sizes → State
opening sizes = record { words = opening_words sizes; writer = opening_view sizes; readers = [] }

pub record MayOpen (sizes : Sizes) : Type 0 where
  pub some_word : 0 < sizes.words
  pub commit_limit : sizes.commit_limit < 2 ^ 32
  pub generation_limit : sizes.generation_limit < 2 ^ 48

module _ (reaches : ℕ → Records → ℕ → List ℕ) (lawful : ℕ → Records → ℕ → Type 0) where
  -- an event leads from state s to state t
  abbrev pub Happens : State → Event → State → Type 0
  Happens s (StoreWidth b width) t = MayStoreWidth s.writer b width × (t ≡ after_store_width s b width)
  Happens s (StoreWord p n) t = MayStoreWord s.writer p × (t ≡ after_store_word s p n)
  Happens s (FindWord p) t = MayStoreWord s.writer p × (t ≡ after_find_word s p)
  Happens s (HandOut b) t = MayHandOut s.writer b × (t ≡ after_hand_out s b)
  Happens s (Publish root) t = MayPublish lawful s.writer root × (t ≡ after_publish s (next_image reaches s.writer root))
  Happens s (PutOnHold b) t = (width : ℕ) × MayPutOnHold s.writer b width × (t ≡ after_put_on_hold s b width)
  Happens s (FreeBuffer b) t = (tag : Tag) × MayFree s.writer b tag × (t ≡ after_free s b tag)
  Happens s (Reopen h) t = MayReopen s.writer h × (t ≡ after_reopen s h)
  Happens s StoreNewest t = (h : ℕ) × (s.writer.queue.pending ≡ Next h) × (t ≡ after_store_newest s h)
  Happens s Close t = (e : OpenHold) × (es : List OpenHold) × MayClose s.writer e es × (count_at s e.hold ≡ 0) × (t ≡ after_close s e es)
  Happens s StopAtOldest t = (e : OpenHold) × (es : List OpenHold) × MayClose s.writer e es × (count_at s e.hold ≢ 0)
      × (t ≡ after_stop s (count_at s e.hold))
  Happens s Probe t = MayProbe s.writer × (count_at s s.writer.queue.newest.hold ≡ 0) × (t ≡ after_probe s)
  Happens s StopAtNewest t = MayProbe s.writer × (count_at s s.writer.queue.newest.hold ≢ 0)
      × (t ≡ after_stop s (count_at s s.writer.queue.newest.hold))
  Happens s Morph t = (s.writer.queue.pending ≡ Probed) × (t ≡ after_morph s)
  Happens s Split t = MaySplit s.writer × (t ≡ after_split s)
  Happens s (Join j) t = (r : ReaderView) × (slice_get s.readers j ≡ Some r) × MayJoin s.writer r × (t ≡ after_join s j r)
  Happens s MeetLoad t = (s.writer.queue.pending ≡ Nothing) × (t ≡ s)
  Happens s (LoadOwn p) t = MayLoadOwn s.writer p × (t ≡ s)
  Happens s (LoadNewest j) t = (r : ReaderView) × (slice_get s.readers j ≡ Some r) × (r.state ≡ Idle) × (t ≡ after_load_newest s j r)
  Happens s (Raise j) t = (r : ReaderView) × (slice_get s.readers j ≡ Some r) × (generation : ℕ) × (h : ℕ) × (r.state ≡ Aimed generation h)
      × (t ≡ after_raise s j r h)
  Happens s (Bounce j) t = (r : ReaderView) × (slice_get s.readers j ≡ Some r) × (h : ℕ) × (r.state ≡ Bounced h)
      × (t ≡ after_bounce s j r h)
  Happens s (LoadRoot j) t = (r : ReaderView) × (slice_get s.readers j ≡ Some r) × (h : ℕ) × (stands_on r.state ≡ Some h)
      × (t ≡ after_load_root s j r h)
  Happens s (LoadWord j p) t = (r : ReaderView) × (slice_get s.readers j ≡ Some r) × MayLoadWord r p × (t ≡ s)
  Happens s (Release j) t = (r : ReaderView) × (slice_get s.readers j ≡ Some r) × (h : ℕ) × (c : ℕ) × (r.state ≡ Guarded h c)
      × (t ≡ after_release s j r h)

  -- a list of events, in order
  abbrev pub Happen : State → List Event → State → Type 0
  Happen s [] t = t ≡ s
  Happen s (e ∷ events) t = (m : State) × Happens s e m × Happen m events t

-- a hold occurs in the queue, only with generations above this one
pub record StandsAbove (s : State) (h generation : ℕ) : Type 0 where
  pub there : IsTrue (list_any (λ e. nat_eq e.hold h) (open_holds s.writer.queue))
  pub above : All (λ e. e.hold ≡ h → generation < e.generation) (open_holds s.writer.queue)

-- every view that stands on a hold stands on one with a generation above the last tag of the buffer
abbrev pub NoneFromBefore : State → ℕ → Type 0
NoneFromBefore s b =
    (j : ℕ) (r : ReaderView) (h : ℕ) (tag : Tag) → slice_get s.readers j ≡ Some r → stands_on r.state ≡ Some h
    → last_tag_in s.writer.buffers b ≡ Some tag → StandsAbove s h tag.generation
