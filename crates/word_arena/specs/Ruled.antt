-- The state of the core, read from a table, and what each step tells its seat.
use Rattle.std.specs.Prelude.{◌^◌, ◌≡◌, ℕ, ◌+◌, ◌*◌, ◌<◌, ◌≤◌, List, [], ◌∷◌, map, length, slice_index, Some, All}
use Rattle.atomic_table.specs.Table.{Me, Step}
use Rattle.atomic_table.specs.Seated.{TableId}
use Rattle.entry_ref.specs.References.{buffer_of}
use Rattle.entry_ref.specs.declared.images.Image.{Image}
use Rattle.entry_ref.specs.Records.{Records}
use Rattle.entry_ref.specs.Images.{no_image, record_at}
use Rattle.entry_ref.specs.Places.{base, place, state_place, size_of, IsEntry}
use Rattle.gen_core.specs.declared.views.Sizes.{Sizes}
use Rattle.gen_core.specs.declared.views.OpenHold.{OpenHold}
use Rattle.gen_core.specs.declared.views.ReaderState.TheVariants.{Idle, Aimed, Guarded}
use Rattle.gen_core.specs.declared.views.WriterView.{WriterView}
use Rattle.gen_core.specs.declared.views.ReaderView.{ReaderView}
use Rattle.gen_core.specs.declared.views.View.{View}
use Rattle.gen_core.specs.declared.views.View.TheVariants.{Writer, Reader}
use Rattle.gen_core.specs.Views.{hold_place, newest_word, IsCommit, root_word, stands_on, spent}
use Rattle.gen_core.specs.Work.{place_in, writer_records, next_image}
use Rattle.gen_core.specs.Good.{IsLawfulCommit, GoodView}
use Rattle.gen_core.specs.Conditions.{IsUnder}
use Rattle.gen_core.specs.Events.{stored, first_aim, aims, meets, bounced, released, opening_view, widened, handed_out, published, sees}
use Rattle.gen_core.specs.Events.{with_reader, newcomer, joined}
use Rattle.word_arena.specs.declared.rule.Watched.{Watched}
use Rattle.arena_api.specs.Works.{Sizes as ApiSizes}
use Rattle.arena_api.specs.Calls.{IsWithinLimits}

-- the sizes in the form of a work
abbrev pub api_sizes : Sizes → ApiSizes
api_sizes z = record { buffers = z.buffers; words = z.words; commits = z.commit_limit; generations = z.generation_limit }

-- where the words of a record begin
abbrev pub start_in : ℕ → Sizes → Records → ℕ → ℕ
start_in bits sizes records r = place bits sizes.buffers sizes.words (length (records r)) r 0

abbrev pub Slot : Type 0
Slot = Unit {0}

abbrev pub views_of : WriterView → List ReaderView → List View
views_of w readers = Writer w ∷ map Reader readers

-- a seat without what it has seen of the run
abbrev pub bare : Me Slot Watched → Me Slot View
bare me = (me.0.view, me.1)

abbrev pub writer_in : View → WriterView
writer_in (Writer w) = w
writer_in (Reader r) = opening_view r.sizes

abbrev pub reader_in : View → ReaderView
reader_in (Writer w) = spent
reader_in (Reader r) = r

-- of a seat
abbrev pub writer_of : Watched → WriterView
writer_of x = writer_in x.view

abbrev pub reader_of : Watched → ReaderView
reader_of x = reader_in x.view

-- the seat's view becomes this one
pub record Becomes (me : Me Slot View) (w : WriterView) (me' : Me Slot View) : Type 0 where
  pub is : me' ≡ (Writer w, me.1)
  pub good : GoodView w

abbrev pub told_hand_out : Step Slot → Me Slot View → ℕ → Me Slot View → Type 0
told_hand_out st me found me' = (b : ℕ) → st.word ≡ state_place b → Becomes me (handed_out (writer_in me.0) b) me'

abbrev pub told_width : Step Slot → Me Slot View → ℕ → Me Slot View → Type 0
told_width st me found me' =
    (b : ℕ) → st.word ≡ base (writer_in me.0).sizes.buffers (writer_in me.0).sizes.words b
    → Becomes me (widened (writer_in me.0) b st.first) me'

abbrev pub told_store : Step Slot → Me Slot View → ℕ → Me Slot View → Type 0
told_store st me found me' = Becomes me (stored (writer_in me.0) st.word st.first) me'

-- the word that was found counts as stored from then on
abbrev pub told_find : Step Slot → Me Slot View → ℕ → Me Slot View → Type 0
told_find st me found me' = Becomes me (stored (writer_in me.0) st.word found) me'

module _ (reaches : ℕ → Records → ℕ → List ℕ) (lawful : ℕ → Records → ℕ → Type 0) where
  abbrev pub told_publish : Step Slot → Me Slot View → ℕ → Me Slot View → Type 0
  told_publish st me found me' =
      (root : ℕ) → st.first ≡ length (writer_in me.0).commits * 2 ^ 32 + root
      → Becomes me (published (writer_in me.0) (next_image reaches (writer_in me.0) root)) me'

  -- the last commit, whose root word was loaded, is lawful, lies inside the table and was seen by a reader that
  -- stands on a hold
  pub record SeesCommit (r : ReaderView) (found : ℕ) (r' : ReaderView) : Type 0 where
    pub hold : ℕ
    pub stands : stands_on r.state ≡ Some hold
    pub number : ℕ
    pub image : Image
    pub is : r' ≡ sees r hold number image
    pub found_root : found ≡ root_word number image
    pub commit : IsLawfulCommit reaches lawful r.sizes.shape image
    pub later : r.seen ≤ number
    pub small_number : number < 2 ^ 32
    pub entries : All (λ pair. IsEntry r.sizes.offset_bits r.sizes.buffers r.sizes.words (length pair.1) pair.0) image.records

  pub record ToldLoadRoot (me : Me Slot View) (found : ℕ) (me' : Me Slot View) : Type 0 where
    pub reader : ReaderView
    pub is : me' ≡ (Reader reader, me.1)
    pub sees_commit : SeesCommit (reader_in me.0) found reader

  abbrev pub told_load_root : Step Slot → Me Slot View → ℕ → Me Slot View → Type 0
  told_load_root st me found me' = ToldLoadRoot me found me'

-- the loaded word belongs to the image, or is the width of one of its buffers
pub record IsFoundWord (z : Sizes) (image : Image) (p found : ℕ) : Type 0 where
  pub word : (ref : ℕ) (ws : List ℕ) (i : ℕ) → record_at image ref ≡ Some ws → i < length ws → p ≡ place_in z (length ws) ref i
      → found ≡ slice_index ws i
  pub width : (ref : ℕ) (ws : List ℕ) → record_at image ref ≡ Some ws → p ≡ base z.buffers z.words (buffer_of z.offset_bits ref)
      → found ≡ length ws

pub record ToldLoadWord (st : Step Slot) (me : Me Slot View) (found : ℕ) (me' : Me Slot View) : Type 0 where
  pub same : me' ≡ me
  pub word : (c : ℕ) (image : Image) → IsUnder (reader_in me.0) c image → IsFoundWord (reader_in me.0).sizes image st.word found

abbrev pub told_load_word : Step Slot → Me Slot View → ℕ → Me Slot View → Type 0
told_load_word st me found me' = ToldLoadWord st me found me'

-- the loaded word belongs to a record of the writer, or is the width of an active buffer
pub record IsOwn (w : WriterView) (p found : ℕ) : Type 0 where
  pub word : (ref i : ℕ) → i < length (writer_records w ref) → p ≡ place_in w.sizes (length (writer_records w ref)) ref i
      → found ≡ slice_index (writer_records w ref) i
  pub width : (ref : ℕ) → 0 < length (writer_records w ref) → p ≡ base w.sizes.buffers w.sizes.words (buffer_of w.sizes.offset_bits ref)
      → found ≡ length (writer_records w ref)

pub record ToldLoadOwn (st : Step Slot) (me : Me Slot View) (found : ℕ) (me' : Me Slot View) : Type 0 where
  pub same : me' ≡ me
  pub own : IsOwn (writer_in me.0) st.word found

abbrev pub told_load_own : Step Slot → Me Slot View → ℕ → Me Slot View → Type 0
told_load_own st me found me' = ToldLoadOwn st me found me'

-- what joined readers saw are commits
pub record ToldMeetLoad (me : Me Slot View) (me' : Me Slot View) : Type 0 where
  pub same : me' ≡ me
  pub seen : All (IsCommit (writer_in me.0).commits) (writer_in me.0).saw

abbrev pub told_meet_load : Step Slot → Me Slot View → ℕ → Me Slot View → Type 0
told_meet_load st me found me' = ToldMeetLoad me me'

-- the newest open hold, whose word was loaded
pub record ToldLoadNewest (me : Me Slot View) (found : ℕ) (me' : Me Slot View) : Type 0 where
  pub entry : OpenHold
  pub is : me' ≡ (Reader (aims (reader_in me.0) entry), me.1)
  pub found_last : found ≡ newest_word entry
  pub low : entry.hold < 16
  pub least : (reader_in me.0).least ≤ entry.generation

abbrev pub told_load_newest : Step Slot → Me Slot View → ℕ → Me Slot View → Type 0
told_load_newest st me found me' = ToldLoadNewest me found me'

abbrev pub told_raise : Step Slot → Me Slot View → ℕ → Me Slot View → Type 0
told_raise st me found me' = (h : ℕ) → st.word ≡ hold_place h → me' ≡ (Reader (meets (reader_in me.0) found h), me.1)

pub record ToldBounce (me : Me Slot View) (me' : Me Slot View) : Type 0 where
  pub is : me' ≡ (Reader (bounced (reader_in me.0)), me.1)
  pub limit : (reader_in me.0).least + 1 ≤ (reader_in me.0).sizes.generation_limit

abbrev pub told_bounce : Step Slot → Me Slot View → ℕ → Me Slot View → Type 0
told_bounce st me found me' = ToldBounce me me'

abbrev pub told_release : Step Slot → Me Slot View → ℕ → Me Slot View → Type 0
told_release st me found me' = me' ≡ (Reader (released (reader_in me.0)), me.1)

-- a new seat begins with what the writer's seat has seen
abbrev pub cut_left : Watched → Watched
cut_left x = record x { view = Writer (with_reader (writer_of x)) }

abbrev pub cut_right : Watched → Watched
cut_right x = record { view = Reader (newcomer (writer_of x)); seen = x.seen; mine = [] }

abbrev pub glued : Watched → Watched → Watched
glued x y = record x { view = Writer (joined (writer_of x) (reader_of y)) }

-- the final state of a joined seat
abbrev pub gone : Watched
gone = record { view = Reader spent; seen = []; mine = [] }

abbrev pub first_seen : List (ℕ × Image) → ℕ × Image
first_seen [] = (0, no_image)
first_seen (x ∷ xs) = x

-- the commit that was seen last
abbrev pub seen_number : ReaderView → ℕ
seen_number r = (first_seen r.saw).0

abbrev pub seen_image : ReaderView → Image
seen_image r = (first_seen r.saw).1

-- what a reader's seat has in every state
pub record IsPost (bits : ℕ) (arena : TableId) (sizes : Sizes) (z : TableId) (me : Me Slot View) : Type 0 where
  pub own : z ≡ arena
  pub is : me ≡ (Reader (reader_in me.0), [])
  pub words : z.words ≡ size_of sizes.buffers sizes.words
  pub same_sizes : (reader_in me.0).sizes ≡ sizes
  pub same_bits : sizes.offset_bits ≡ bits
  pub limits : IsWithinLimits bits (api_sizes sizes)
  pub product : sizes.buffers * sizes.words ≤ 67108864

-- each miss means that a generation has passed
abbrev pub Climbs : ReaderView → Type 0
Climbs r = r.first + r.misses.count ≤ r.least

pub record IsWatch (bits : ℕ) (arena : TableId) (sizes : Sizes) (z : TableId) (me : Me Slot View) : Type 0 where
  pub post : IsPost bits arena sizes z me
  pub idle : (reader_in me.0).state ≡ Idle
  pub climbs : Climbs (reader_in me.0)

-- the seat of a reader that aims at a hold, of at least its least generation
pub record IsAim (bits : ℕ) (arena : TableId) (sizes : Sizes) (hold : ℕ) (z : TableId) (me : Me Slot View) : Type 0 where
  pub post : IsPost bits arena sizes z me
  pub low : hold < 16
  pub aimed : (reader_in me.0).state ≡ Aimed (reader_in me.0).least hold
  pub climbs : Climbs (reader_in me.0)

-- the first image seen is the guarded one: its records lie inside the table
pub record IsGuard (bits : ℕ) (arena : TableId) (sizes : Sizes) (hold word : ℕ) (z : TableId) (me : Me Slot View) : Type 0 where
  pub post : IsPost bits arena sizes z me
  pub low : hold < 16
  pub guarded : (reader_in me.0).state ≡ Guarded hold (seen_number (reader_in me.0))
  pub climbs : Climbs (reader_in me.0)
  pub seen : (reader_in me.0).seen ≡ seen_number (reader_in me.0)
  pub some : 0 < length (reader_in me.0).saw
  pub root : word ≡ root_word (seen_number (reader_in me.0)) (seen_image (reader_in me.0))
  pub small : (seen_image (reader_in me.0)).root < 2 ^ 32
  pub small_number : seen_number (reader_in me.0) < 2 ^ 32
  pub entries : All (λ pair. IsEntry bits sizes.buffers sizes.words (length pair.1) pair.0) (seen_image (reader_in me.0)).records

-- the guarded commit is lawful, not older than any that the reader saw before, and the only one seen since; and the
-- least generation does not fall
pub record IsLater (reaches : ℕ → Records → ℕ → List ℕ) (lawful : ℕ → Records → ℕ
    → Type 0) (r : ReaderView) (r' : ReaderView) : Type 0 where
  pub same_sizes : r'.sizes ≡ r.sizes
  pub same_number : r'.number ≡ r.number
  pub later : r.seen ≤ seen_number r'
  pub seen : r'.seen ≡ seen_number r'
  pub saw : r'.saw ≡ (seen_number r', seen_image r') ∷ r.saw
  pub least : r.least ≤ r'.least
  pub commit : IsLawfulCommit reaches lawful r'.sizes.shape (seen_image r')

-- after a miss the reader aims higher, within the limit; nothing else was seen
pub record IsHigher (r : ReaderView) (r' : ReaderView) : Type 0 where
  pub higher : r.least + 1 ≤ r'.least
  pub seen : r'.seen ≡ r.seen
  pub saw : r'.saw ≡ r.saw
  pub same_sizes : r'.sizes ≡ r.sizes
  pub same_number : r'.number ≡ r.number
  pub limit : r'.least ≤ r'.sizes.generation_limit

-- the aim is at least the reader's least generation, and within the limit; nothing else was seen
pub record IsAimOf (r : ReaderView) (r' : ReaderView) : Type 0 where
  pub same_sizes : r'.sizes ≡ r.sizes
  pub same_number : r'.number ≡ r.number
  pub seen : r'.seen ≡ r.seen
  pub saw : r'.saw ≡ r.saw
  pub least : r.least ≤ r'.least
  pub first : r'.first ≡ first_aim r r'.least
  pub misses : r'.misses ≡ r.misses

-- this many raises missed, and for each a generation has passed
pub record Missed (r : ReaderView) (r' : ReaderView) (count : ℕ) : Type 0 where
  pub rises : r.least + count ≤ r'.least
  pub counted : r'.misses.count ≡ r.misses.count + count
  pub first : r'.first ≡ r.first

-- the same after an aim. If there was no miss before, the first aim was at a generation not below the reader's least
-- one; otherwise it is the earlier first aim
pub record Tries (r : ReaderView) (r' : ReaderView) (count : ℕ) : Type 0 where
  pub rises : r.least + count ≤ r'.least
  pub counted : r'.misses.count ≡ r.misses.count + count
  pub fresh : r.misses.count ≡ 0 → r.least ≤ r'.first
  pub going : 0 < r.misses.count → r'.first ≡ r.first
