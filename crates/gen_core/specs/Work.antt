-- The writer's records: what it stored whole since the last commit, over the records of that commit.
use Rattle.std.specs.Prelude.{◌≡◌, ℕ, zero, suc, ◌+◌, ◌*◌, ◌<◌, List, [], ◌∷◌, length, slice_index, Option, Some, None, Bool, true, false}
use Rattle.std.specs.Prelude.{◌&&◌, nat_eq, nat_lt, nat_le}
use Rattle.std.specs.Option.{unwrap_or}
use Rattle.std.specs.Map.{lookup}
use Rattle.entry_ref.specs.References.{buffer_of, offset_of}
use Rattle.entry_ref.specs.declared.images.Image.{Image}
use Rattle.entry_ref.specs.Records.{Records}
use Rattle.entry_ref.specs.Images.{words_at, image_of}
use Rattle.entry_ref.specs.Places.{IsEntry, place}
use Rattle.gen_core.specs.declared.views.Sizes.{Sizes}
use Rattle.gen_core.specs.declared.views.WriterView.{WriterView}
use Rattle.gen_core.specs.Views.{active_in, last_image}

-- the word that was stored there since the last commit
abbrev pub work_at : List (ℕ × ℕ) → ℕ → Option ℕ
work_at work p = lookup (nat_eq p) work

-- the place of word i of a record of this width
abbrev pub place_in : Sizes → ℕ → ℕ → ℕ → ℕ
place_in sizes width ref i = place sizes.offset_bits sizes.buffers sizes.words width ref i

-- every word of a record was stored since the last commit, in an active buffer of its width
pub record IsRecordStored (w : WriterView) (ref : ℕ) (ws : List ℕ) : Type 0 where
  pub entry : IsEntry w.sizes.offset_bits w.sizes.buffers w.sizes.words (length ws) ref
  pub active : active_in w.buffers (buffer_of w.sizes.offset_bits ref) ≡ Some (length ws)
  pub words : (i : ℕ) → i < length ws → work_at w.work (place_in w.sizes (length ws) ref i) ≡ Some (slice_index ws i)

abbrev pub prepend : Option ℕ → Option (List ℕ) → Option (List ℕ)
prepend None o = None
prepend (Some x) None = None
prepend (Some x) (Some xs) = Some (x ∷ xs)

-- n stored words from a place on, if all of them were stored
unfoldable pub run_at : List (ℕ × ℕ) → ℕ → ℕ → Option (List ℕ)
run_at work p zero = Some []
run_at work p (suc n) = prepend (work_at work p) (run_at work (suc p) n)

-- the test of `IsEntry`
unfoldable pub is_entry : Sizes → ℕ → ℕ → Bool
is_entry sizes width ref =
    nat_lt (buffer_of sizes.offset_bits ref) sizes.buffers
    && (nat_lt 0 width && (nat_lt 0 (offset_of sizes.offset_bits ref)
    && nat_le (offset_of sizes.offset_bits ref * width + width) sizes.words))

abbrev pub only_if : {A : Type 0} → Bool → Option A → Option A
only_if true o = o
only_if false o = None

abbrev pub whole_by : WriterView → ℕ → Option ℕ → Option (List ℕ)
whole_by w ref None = None
whole_by w ref (Some width) = only_if (is_entry w.sizes width ref) (run_at w.work (place_in w.sizes width ref 0) width)

-- the words of a record whose words were all stored since the last commit
abbrev pub whole_at : WriterView → ℕ → Option (List ℕ)
whole_at w ref = whole_by w ref (active_in w.buffers (buffer_of w.sizes.offset_bits ref))

abbrev pub writer_records : WriterView → Records
writer_records w ref = unwrap_or (whole_at w ref) (words_at (last_image w.commits) ref)

-- the image of a root in the writer's records, for a layout's reach
abbrev pub next_image : (ℕ → Records → ℕ → List ℕ) → WriterView → ℕ → Image
next_image reaches w root = image_of (reaches w.sizes.shape (writer_records w) root) (writer_records w) root

abbrev pub stored_in : WriterView → ℕ → ℕ → Option ℕ → Option ℕ
stored_in w ref i None = None
stored_in w ref i (Some width) = only_if (is_entry w.sizes width ref && nat_lt i width) (work_at w.work (place_in w.sizes width ref i))

-- word i of an entry, if it was stored since the last commit
abbrev pub stored_by : WriterView → ℕ → ℕ → Option ℕ
stored_by w ref i = stored_in w ref i (active_in w.buffers (buffer_of w.sizes.offset_bits ref))
