-- The writer's view as a work.
use Rattle.std.specs.Prelude.{◌*◌, ◌≡◌, ℕ, ◌+◌, ◌<◌, ◌≤◌, List, [], map, set, slice_get, Option, Some, None}
use Rattle.std.specs.Option.{unwrap_or}
use Rattle.atomic_table.specs.Table.{Me}
use Rattle.atomic_table.specs.Seated.{TableId}
use Rattle.atomic_table.specs.declared.shared.Seat.{Seat}
use Rattle.entry_ref.specs.declared.images.Image.{Image}
use Rattle.entry_ref.specs.Images.{no_image}
use Rattle.entry_ref.specs.References.{buffer_of}
use Rattle.entry_ref.specs.Places.{base, place, size_of}
use Rattle.gen_core.specs.declared.views.Sizes.{Sizes}
use Rattle.generation_handler.specs.declared.HoldEntry.{HoldEntry}
use Rattle.gen_core.specs.declared.views.OpenHold.{OpenHold}
use Rattle.gen_core.specs.declared.views.Tag.{Tag}
use Rattle.gen_core.specs.declared.views.Pending.TheVariants.{Nothing}
use Rattle.gen_core.specs.declared.views.Buffer.{Buffer}
use Rattle.gen_core.specs.declared.views.Buffer.TheVariants.{Free, Active, Held}
use Rattle.gen_core.specs.declared.views.View.{View}
use Rattle.gen_core.specs.declared.views.View.TheVariants.{Writer}
use Rattle.gen_core.specs.declared.views.WriterView.{WriterView}
use Rattle.gen_core.specs.Views.{floor_of, last_number, open_holds}
use Rattle.gen_core.specs.Work.{work_at, stored_by}
use Rattle.gen_core.specs.Events.{opening_view}
use Rattle.arena_api.specs.Works.{WorkView, Hold, Tag as ApiTag, Buffer as ApiBuffer, active_width}
use Rattle.arena_api.specs.Calls.{IsWithinLimits}
use Rattle.word_arena.specs.Ruled.{Slot, writer_in, writer_of, bare, api_sizes}
use Rattle.word_arena.specs.declared.rule.Watched.{Watched}
use Rattle.gen_core.specs.Good.{GoodView}
use Rattle.word_arena.specs.declared.config.Config.{Config}

abbrev pub api_tag : Tag → ApiTag
api_tag t = record { generation = t.generation; commit = t.commit }

abbrev pub api_last : Option Tag → Option ApiTag
api_last None = None
api_last (Some t) = Some (api_tag t)

abbrev pub api_buffer : Option Buffer → ApiBuffer
api_buffer None = ApiBuffer.free None
api_buffer (Some (Free last)) = ApiBuffer.free (api_last last)
api_buffer (Some (Active width last)) = ApiBuffer.active width (api_last last)
api_buffer (Some (Held width tag)) = ApiBuffer.held width (api_tag tag)

abbrev pub api_hold : OpenHold → Hold
api_hold e = record { generation = e.generation; hold = e.hold; first = e.first_commit }

abbrev pub image_at : List Image → ℕ → Image
image_at commits n = unwrap_or (slice_get commits n) no_image

abbrev pub view_of : {H : Type 0} → H → WriterView → WorkView H
view_of home w = record {
  home = home;
  sizes = api_sizes w.sizes;
  buffer = λ b. api_buffer (slice_get w.buffers b);
  queue = map api_hold (open_holds w.queue);
  commits = record { floor = floor_of w; last = last_number w.commits; image = image_at w.commits };
  stored = stored_by w;
  told = w.commits;
  stops = w.stops.count;
  found = w.stops.found;
  made = w.made;
}

-- the place of word i of an entry, by the width of its buffer
abbrev pub place_by : ℕ → {H : Type 0} → WorkView H → ℕ → ℕ → ℕ
place_by bits work r i = place bits work.sizes.buffers work.sizes.words (active_width (work.buffer (buffer_of bits r))) r i

-- an open hold, as the writer's own queue has it
abbrev pub own_hold : OpenHold → HoldEntry
own_hold e = record { generation = e.generation; hold = e.hold; first_commit = e.first_commit }

-- if no word of any entry of a buffer was stored since the last commit, then no word of the buffer was
pub record StoresEntries (w : WriterView) : Type 0 where
  pub none : (b x : ℕ) → x < w.sizes.words → ((r i : ℕ) → buffer_of w.sizes.offset_bits r ≡ b → stored_by w r i ≡ None)
      → work_at w.work (base w.sizes.buffers w.sizes.words b + x) ≡ None

-- what a writer has besides its view
pub record IsDesk (bits : ℕ) (arena : TableId) (sizes : Sizes) (buffers : List Buffer) (holds : List HoldEntry) (last made : ℕ)
    (z : TableId) (me : Me Slot View) : Type 0 where
  pub own : z ≡ arena
  pub is : me ≡ (Writer (writer_in me.0), [])
  pub words : z.words ≡ size_of sizes.buffers sizes.words
  pub same_sizes : (writer_in me.0).sizes ≡ sizes
  pub same_bits : sizes.offset_bits ≡ bits
  pub limits : IsWithinLimits bits (api_sizes (writer_in me.0).sizes)
  pub product : (writer_in me.0).sizes.buffers * (writer_in me.0).sizes.words ≤ 67108864
  pub same_buffers : (writer_in me.0).buffers ≡ buffers
  pub same_holds : map own_hold (open_holds (writer_in me.0).queue) ≡ holds
  pub commits : last ≡ last_number (writer_in me.0).commits
  pub readers : (made ≡ (writer_in me.0).made) × (made ≤ 64)
  pub calm : (writer_in me.0).queue.pending ≡ Nothing
  pub good : GoodView (writer_in me.0)
  pub entries : StoresEntries (writer_in me.0)

-- what the writer knows by its seat
abbrev pub known_by : Seat Slot Watched → WorkView TableId
known_by seat = view_of seat.table_id (writer_of seat.me.0)

-- a seat is that of the writer of an arena
abbrev pub HasDesk : ℕ → TableId → Sizes → Seat Slot Watched → Type 0
HasDesk bits arena sizes seat = (buffers : List Buffer) × (holds : List HoldEntry) × (last : ℕ) × (made : ℕ)
    × IsDesk bits arena sizes buffers holds last made seat.table_id (bare seat.me)

-- a step of the writer's seat to which nothing else on the desk has to follow
abbrev pub KeepsDesk : ℕ → TableId → Sizes → Seat Slot Watched → Seat Slot Watched → Type 0
KeepsDesk bits arena sizes old new = (buffers : List Buffer) (holds : List HoldEntry) (last made : ℕ)
    → IsDesk bits arena sizes buffers holds last made old.table_id (bare old.me)
    → IsDesk bits arena sizes buffers holds last made new.table_id (bare new.me)

-- the settings of an arena, as the core's sizes
abbrev pub core_sizes : ℕ → Config → Sizes
core_sizes bits config = record {
  offset_bits = bits;
  buffers = config.buffers;
  words = config.words;
  shape = config.shape;
  commit_limit = config.limits.commits;
  generation_limit = config.limits.generations;
}

-- the writer's seat in a new arena, with its copies
pub record IsToken (bits : ℕ) (sizes : Sizes) (buffers : List Buffer) (z : TableId) (me : Me Slot View) : Type 0 where
  pub is : me ≡ (Writer (opening_view sizes), [])
  pub same_buffers : buffers ≡ (opening_view sizes).buffers
  pub words : z.words ≡ size_of sizes.buffers sizes.words
  pub same_bits : sizes.offset_bits ≡ bits
  pub limits : IsWithinLimits bits (api_sizes sizes)
  pub product : sizes.buffers * sizes.words ≤ 67108864

-- buffers by number
abbrev pub buffers_by : List Buffer → ℕ → ApiBuffer
buffers_by buffers b = api_buffer (slice_get buffers b)

-- an arena to which no work belongs
abbrev pub nowhere : TableId
nowhere = record { words = 0; slots = 0; views_name = 0; atom = 0; block = 0; offset = 0; slot_names = [] }

-- the writer's view after a buffer is given a width
abbrev pub given : WriterView → ℕ → ℕ → Option Tag → WriterView
given w b width last = record w { buffers = set w.buffers b (Active width last) }
