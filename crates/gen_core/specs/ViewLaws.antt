-- What follows from the writer's view alone, for a seat that has nothing else.
use Rattle.std.specs.Prelude.{◌≡◌, ◌≢◌, ℕ, ◌<◌, ◌≤◌, ◌&&◌, if◌then◌else◌, List, [], length, slice_get, Option, Some, All, nat_eq}
use Rattle.entry_ref.specs.References.{buffer_of}
use Rattle.entry_ref.specs.declared.images.Image.{Image}
use Rattle.entry_ref.specs.Images.{record_at, words_at}
use Rattle.entry_ref.specs.Places.{IsEntry}
use Rattle.gen_core.specs.declared.views.Buffer.TheVariants.{Free}
use Rattle.gen_core.specs.declared.views.Tag.{Tag}
use Rattle.gen_core.specs.declared.views.WriterView.{WriterView}
use Rattle.gen_core.specs.Views.{floor_of, kept_of, last_number, last_image, active_in}
use Rattle.gen_core.specs.Work.{place_in, writer_records, stored_by}
use Rattle.gen_core.specs.Good.{IsPlaced, Avoids, GoodView}
use Rattle.gen_core.specs.Events.{stored, handed_out, widened, published}

-- there is a commit, and the last one is kept
pub record HasLast (w : WriterView) : Type 0 where
  pub some : 0 < length w.commits
  pub kept : floor_of w ≤ last_number w.commits
  pub is : slice_get w.commits (last_number w.commits) ≡ Some (last_image w.commits)

abbrev pub LastIsKept : Type 0
LastIsKept = (w : WriterView) → GoodView w → HasLast w

-- the records of the last commit are the writer's
abbrev pub LastAreRecords : Type 0
LastAreRecords = (w : WriterView) (ref : ℕ) (ws : List ℕ) → GoodView w → record_at (last_image w.commits) ref ≡ Some ws
    → writer_records w ref ≡ ws

-- each record of the writer lies in its buffer, which is active and of its width
pub record LiesActive (w : WriterView) (ref width : ℕ) : Type 0 where
  pub entry : IsEntry w.sizes.offset_bits w.sizes.buffers w.sizes.words width ref
  pub active : active_in w.buffers (buffer_of w.sizes.offset_bits ref) ≡ Some width

abbrev pub RecordsLieActive : Type 0
RecordsLieActive = (w : WriterView) (ref : ℕ) → GoodView w → 0 < length (writer_records w ref)
    → LiesActive w ref (length (writer_records w ref))

-- each record of a kept commit lies in its buffer
abbrev pub KeptArePlaced : Type 0
KeptArePlaced =
    (w : WriterView) (n ref : ℕ) (image : Image) (ws : List ℕ) → GoodView w → floor_of w ≤ n → slice_get w.commits n ≡ Some image
    → record_at image ref ≡ Some ws → IsPlaced w.sizes w.buffers (ref, ws)

-- a word of an entry may be written if no kept commit has the entry as a record
abbrev pub UnkeptAvoids : Type 0
UnkeptAvoids =
    (w : WriterView) (ref i width : ℕ) → GoodView w → LiesActive w ref width → i < width
    → All (λ image. words_at image ref ≡ []) (kept_of w) → All (Avoids w.sizes (place_in w.sizes width ref i)) (kept_of w)

-- a store adds one word to those stored, and changes no other record
abbrev pub StoresOneWord : Type 0
StoresOneWord =
    (w : WriterView) (ref i width n q j : ℕ) → LiesActive w ref width → i < width
    → stored_by (stored w (place_in w.sizes width ref i) n) q j ≡ (if nat_eq q ref && nat_eq j i then Some n else stored_by w q j)

abbrev pub StoreLeavesOthers : Type 0
StoreLeavesOthers =
    (w : WriterView) (ref i width n q : ℕ) → LiesActive w ref width → i < width → q ≢ ref
    → writer_records (stored w (place_in w.sizes width ref i) n) q ≡ writer_records w q

-- handing out a buffer and storing its width adds no word and no record
abbrev pub HandsOutNothing : Type 0
HandsOutNothing =
    (w : WriterView) (b width ref i : ℕ) (tag : Option Tag) → GoodView w → slice_get w.buffers b ≡ Some (Free tag) → 0 < width
    → (stored_by (widened (handed_out w b) b width) ref i ≡ stored_by w ref i)
    × (writer_records (widened (handed_out w b) b width) ref ≡ writer_records w ref)

-- after a publish the writer's records are the image's
abbrev pub PublishesRecords : Type 0
PublishesRecords = (w : WriterView) (image : Image) (ref : ℕ) → writer_records (published w image) ref ≡ words_at image ref
